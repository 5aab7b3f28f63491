use Rattle.std.proofs.Common.{◌≡◌, ℕ, ◌+◌, ◌≤◌, ◌++◌, List, length, take, ap, sym, ◌∙◌, arith, rules}
use Rattle.std.proofs.Math.Seq.{take-append-add}
use Rattle.std.proofs.lemmas.List.{take-append-le, length-take-le}
use Rattle.fx_model.specs.WordText.{decimal_text}
use Rattle.fx_stream.proofs.page.put_text_at.Goals as goal

placed : (a r : ℕ) (xs ys back : List ℕ) → a ≤ length xs → r ≤ length ys →
    take (a + r) (take a xs ++ (ys ++ back)) ≡ take a xs ++ take r ys
placed a r xs ys back fits within =
    ap (λ (k : ℕ). take (k + r) (take a xs ++ (ys ++ back))) (sym (length-take-le a xs fits))
    ∙ take-append-add (take a xs) (ys ++ back) r
    ∙ ap (λ zs. take a xs ++ zs) (take-append-le r ys back within)

pub returns-clause-written : goal.returns-clause-written
returns-clause-written c =
    let text : take c.put_text.result c.put_text.new.free ≡ decimal_text c.args.word c.args.point = search rules in
    let within : c.put_text.result ≤ length c.put_text.new.free = search rules in
    let fits : c.args.used ≤ length c.args.block.now = omega (arith, c.requires.room) in
    placed c.args.used c.put_text.result c.args.block.now c.put_text.new.free _ fits within
    ∙ ap (λ zs. take c.args.used c.args.block.now ++ zs) text
