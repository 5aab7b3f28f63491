use Rattle.std.proofs.Common.{FitsSigned, ap, ◌∙◌, rules, sym}
use Rattle.std.specs.Int.{w128}
use Rattle.fx_rational.specs.Dyadic.{Dyadic, fits_128}
use Rattle.fx_rational.proofs.Fits.{fits_is}
use Rattle.fx_num.proofs.dyadic.Dyadic.keeps.Goals as goal

pub returns : goal.returns
returns c =
    let f : FitsSigned w128 c.self.inside.m = search rules in
    ap (λ (d : Dyadic). fits_128 d.m) (sym c.self.view_is) ∙ (fits_is c.self.inside.m).1 f
