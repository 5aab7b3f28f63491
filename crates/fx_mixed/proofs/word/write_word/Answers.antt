use Rattle.std.proofs.Common.{◌+◌, ◌/◌, ◌∙◌, ◌++◌, ℕ, ℤ, SFits, rules, List, ap, take, drop}
use Rattle.fx_mixed.specs.Packed.{bytes_of, two_complement}
use Rattle.std.specs.Int.{w64}
use Rattle.std.proofs.lemmas.Int.{to_z-of_z}
use Rattle.fx_mixed.proofs.Loops.{part_counted, part_written}
use Rattle.fx_mixed.proofs.word.write_word.Goals as goal

pub returns : goal.returns
returns c =
    let k = c.args.width / 8 in let a = c.args.at in let old = c.args.bytes.now in
    part_written a k old c.put_bytes.new.bytes
    ∙ ap (λ (t : List ℕ). take a old ++ t ++ drop (a + k) old) (c.put_bytes.ensures
    ∙ (λ i. bytes_of (part_counted a k old c.requires.room i) (c.complement.ensures i))
    ∙ ap (λ (z : ℤ). bytes_of k (two_complement c.args.width z)) (let f : SFits w64 c.args.w = search rules in
    to_z-of_z w64 c.args.w f))
