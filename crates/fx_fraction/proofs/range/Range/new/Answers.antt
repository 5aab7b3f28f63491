use Rattle.std.proofs.Common.{FitsSigned, ℤ, to_z, of_z, ap, ◌∙◌, rules}
use Rattle.std.specs.Prelude.{◌&&◌, int_le}
use Rattle.std.specs.Int.{w128}
use Rattle.std.proofs.lemmas.Int.{to_z-of_z}
use Rattle.fx_rational.specs.Decimal.{is_within}
use Rattle.fx_fraction.specs.Units.{smallest_units}
use Rattle.fx_fraction.proofs.range.Range.new.Goals as goal

pub returns : goal.returns
unfolding is_within
returns c = λ d few.
    let fl : FitsSigned w128 c.least_of.result = search rules in
    let fm : FitsSigned w128 c.most_of.result = search rules in
    let s = smallest_units d in
    ap (λ (l : ℤ). int_le l s && int_le s (to_z w128 (of_z w128 c.most_of.result)))
    (to_z-of_z w128 c.least_of.result fl)
    ∙ ap (λ (m : ℤ). int_le c.least_of.result s && int_le s m) (to_z-of_z w128 c.most_of.result fm)
    ∙ (λ i. c.least_of.ensures d few i && c.most_of.ensures d few i)
