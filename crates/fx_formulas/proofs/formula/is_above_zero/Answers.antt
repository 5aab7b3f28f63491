use Rattle.std.proofs.Common.{FitsSigned, rules, pos, ap, ◌∙◌}
use Rattle.std.specs.Int.{w128}
use Rattle.std.proofs.lemmas.Int.{to_z-of_z}
use lib.Signed.{lt_z}
use Rattle.fx_rational.specs.Rational.{is_positive}
use Rattle.fx_rational.specs.Dyadic.{Dyadic, dyadic_value}
use Rattle.fx_formulas.proofs.Judged.{above_test}
use Rattle.fx_formulas.proofs.formula.is_above_zero.Goals as goal

pub returns : goal.returns
returns c =
    let f : FitsSigned w128 c.d.inside.m = search rules in
    ap (λ z. lt_z (pos 0) z) (to_z-of_z w128 c.d.inside.m f)
    ∙ above_test (record { m = c.d.inside.m; e = c.d.inside.e })
    ∙ ap (λ (d : Dyadic). is_positive (dyadic_value d)) c.d.view_is
