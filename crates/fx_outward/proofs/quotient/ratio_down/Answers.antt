use Rattle.std.proofs.Common.{◌∙◌, ℕ, ℤ, FitsSigned, rules, ap₂}
use Rattle.std.specs.Int.{w128}
use Rattle.fx_rational.specs.Rational.{floor_div}
use Rattle.fx_outward.specs.Grid.{lowest_dyadic}
use Rattle.fx_outward.proofs.Casts.{back}
use Rattle.fx_outward.proofs.Ratios.{bottom_some, ratio_down_is}
use Rattle.fx_outward.proofs.quotient.ratio_down.Goals as goal

pub returns : goal.returns
returns c =
    let f : FitsSigned w128 c.ratio_parts-top.result.0 = search rules in
    c.down_quotient.ensures
    ∙ ap₂ (λ (z : ℤ) (q : ℕ). lowest_dyadic (floor_div z q) 24) (back f
    ∙ c.ratio_parts-top.ensures.top) c.ratio_parts-top.ensures.bottom
    ∙ ratio_down_is c.args.a c.args.b (bottom_some c.args.b c.args.a.e c.requires.above).0
