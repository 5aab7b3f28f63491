use Rattle.std.proofs.Common.{◌∙◌, ap, ap₂, FitsSigned, rules}
use Rattle.std.specs.Int.{w128}
use Rattle.fx_rational.specs.Dyadic.{Dyadic}
use Rattle.fx_outward.specs.Grid.{lowest_dyadic}
use Rattle.fx_outward.proofs.Casts.{back}
use Rattle.fx_outward.proofs.Spelling.{rounded_down_only}
use Rattle.fx_outward.proofs.grid.down.Goals as goal

pub returns : goal.returns
returns c =
    let f : FitsSigned w128 c.mantissa.result = search rules in
    c.trim.ensures ∙ ap₂ lowest_dyadic (back f ∙ c.mantissa.ensures) c.exponent.ensures.value
    ∙ ap (λ (d : Dyadic). lowest_dyadic d.m d.e) c.round_down-r.ensures ∙ rounded_down_only c.args.d c.args.e
