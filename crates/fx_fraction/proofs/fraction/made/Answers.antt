use Rattle.std.proofs.Common.{SFits, FitsSigned, ◌∙◌, rules}
use Rattle.std.specs.Int.{w64, w128}
use Rattle.std.proofs.lemmas.Int.{to_z-of_z}
use Rattle.fx_fraction.proofs.Terms.{fraction_is}
use Rattle.fx_fraction.proofs.fraction.made.Goals as goal

pub invariant_of-result : goal.invariant_of-result
invariant_of-result c =
    let fs : SFits w64 c.signed.result = search rules in
    let fp : FitsSigned w128 c.from.result = search rules in
    let fq : FitsSigned w128 c.from-2.result = search rules in
    fraction_is c.args.is_negative c.args.top c.args.bottom _ _ c.requires.above c.requires.top c.requires.bottom
    c.requires.coprime
    (to_z-of_z w128 c.from.result fp ∙ c.from.ensures ∙ to_z-of_z w64 c.signed.result fs ∙ c.signed.ensures)
    (to_z-of_z w128 c.from-2.result fq ∙ c.from-2.ensures)
