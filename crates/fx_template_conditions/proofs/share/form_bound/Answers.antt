use Rattle.std.proofs.Common.{ℕ, Some, subst}
use Rattle.fx_rational.specs.Dyadic.{zero_dyadic}
use Rattle.fx_model.specs.Tree.{at}
use Rattle.fx_inequalities.specs.Formula.{Num}
use Rattle.fx_inequalities.specs.Affine.{of_line}
use Rattle.fx_formulas.specs.Judging.{FormsSpan}
use Rattle.fx_cert.specs.CertificateView.{form_view as form_view}
use Rattle.fx_cert.specs.Sides.{side_rest}
use Rattle.fx_cert.specs.declared.side.Side.{Side}
use Rattle.fx_template_conditions.proofs.share.form_bound.Goals as goal

pub returns : goal.returns
returns c = λ l.
    let form = form_view c.args.form.now in let f = λ (j : ℕ). Num (at zero_dyadic form.coefs j) in
    let own = of_line l (Some form) in
    let rest =
    subst (λ (w : Side). FormsSpan c.own_rest.result (side_rest w own)) c.which.ensures (c.own_rest.ensures l) in
    c.bound_by_templates.ensures f (side_rest c.args.side.now.which own) c.form_coefs-coefs.ensures rest
