use Rattle.std.proofs.Common.{ℕ, Some}
use Rattle.fx_rational.specs.Dyadic.{zero_dyadic}
use Rattle.fx_model.specs.Tree.{at}
use Rattle.fx_inequalities.specs.Formula.{Num}
use Rattle.fx_inequalities.specs.Affine.{of_line}
use Rattle.fx_cert.specs.CertificateView.{form_view as form_view, shares_of}
use Rattle.fx_cert.specs.Sides.{side_rest}
use Rattle.fx_template_conditions.specs.CertificateSide.{bound_on}
use Rattle.fx_template_conditions.proofs.share.by_shares.Goals as goal

pub returns : goal.returns
returns c = λ l.
    let a = c.args in let form = form_view a.form.now in let f = λ (j : ℕ). Num (at zero_dyadic form.coefs j) in
    c.within.ensures (bound_on a.side.now f (side_rest a.side.now.which (of_line l (Some form))) (shares_of a.shares.now))
    (c.form_bound-bound.ensures l)
