use Rattle.std.proofs.Common.{◌<◌, ◌∙◌, ℕ, pos, SFits, ap, rules, get_or}
use Rattle.std.specs.Int.{w64}
use Rattle.std.proofs.lemmas.Int.{to_z-of_z}
use Rattle.fx_statements.specs.RustMeaning.{wrapped}
use Rattle.fx_mixed.proofs.Loops.{part_short, part_number}
use Rattle.fx_mixed.proofs.word.read_word.Goals as goal

pub signed-requires-clause-short : goal.signed-requires-clause-short
signed-requires-clause-short c =
    let fits : (i : ℕ) → get_or c.args.bytes.now i 0 < 256 = λ i. (c.type_inv.bytes i).fits in
    part_short c.args.width c.args.at c.args.bytes.now c.number.result c.requires.known c.requires.room fits
    c.number.ensures

pub returns : goal.returns
returns c =
    let f : SFits w64 c.signed.result = search rules in
    to_z-of_z w64 c.signed.result f ∙ c.signed.ensures
    ∙ ap (λ (u : ℕ). wrapped c.args.width (pos u)) (c.number.ensures
    ∙ part_number c.args.width c.args.at c.args.bytes.now)
