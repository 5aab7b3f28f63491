use Rattle.std.proofs.Common.{pos, get_or, rules, ap, ◌++◌, ◌∙◌}
use Rattle.std.specs.Int.{w64}
use Rattle.std.proofs.lemmas.Int.{to_z-of_z}
use Rattle.fx_c99.specs.CText.{start_text}
use Rattle.fx_c.proofs.Appended.{starts_more}
use Rattle.fx_c.proofs.start.put_starts.Goals as goal

pub loop-k-preserved : goal.loop-k-preserved
loop-k-preserved c =
    let k = c.loop-k.k in let w = get_or c.args.words.now k (pos 0) in
    starts_more c.args.words.now k c.args.out.now.items c.loop-k.out.items c.put_start.new.out.items
    (search rules) c.loop-k.invariant
    (c.in_ok-put_start.ensures ∙ ap (λ v. c.loop-k.out.items ++ start_text k v) (to_z-of_z w64 w (search rules)))
