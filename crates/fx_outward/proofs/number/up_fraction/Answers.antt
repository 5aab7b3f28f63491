use Rattle.std.proofs.Common.{◌∙◌, ◌^◌, ◌*ℤ◌, pos, ℤ, ℕ, ap, ap₂, FitsSigned, rules}
use Rattle.std.specs.Int.{w128}
use Rattle.fx_rational.specs.Rational.{ceil_div, scaled}
use Rattle.fx_outward.specs.Grid.{lowest_dyadic, grid_up}
use Rattle.fx_outward.proofs.Casts.{back}
use Rattle.fx_outward.proofs.number.up_fraction.Goals as goal

pub returns : goal.returns
unfolding grid_up scaled
returns c =
    let f : FitsSigned w128 c.left-n.result = search rules in
    let g : FitsSigned w128 c.numerator-p.result = search rules in
    c.up_quotient.ensures ∙ ap₂ (λ (z : ℤ) (q : ℕ). lowest_dyadic (ceil_div z q) c.args.e)
    (back f ∙ c.left-n.ensures.value
    ∙ ap (λ (z : ℤ). z *ℤ pos (2 ^ c.args.e)) (back g ∙ c.numerator-p.ensures.value)) (c.from.ensures
    ∙ c.denominator-q.ensures.value)
