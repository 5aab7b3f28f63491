use Rattle.std.proofs.Common.{FitsSigned, ap, ◌∙◌, rules, sym}
use Rattle.std.specs.Int.{w128}
use Rattle.fx_rational.specs.Dyadic.{Dyadic, fits_128}
use Rattle.fx_rational.proofs.Fits.{fits_is}
use Rattle.fx_formulas.proofs.formula.mantissa.Goals as goal

pub returns : goal.returns
returns c =
    let f : FitsSigned w128 c.d.inside.m = search rules in
    ap (λ (d : Dyadic). fits_128 d.m) (sym c.d.view_is) ∙ (fits_is c.d.inside.m).1 f
