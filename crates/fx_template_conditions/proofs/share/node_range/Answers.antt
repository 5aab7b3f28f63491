use Rattle.std.proofs.Common.{◌≡◌, Option, Some, None, subst}
use Rattle.fx_model.specs.Tree.{at}
use Rattle.fx_inequalities.specs.Certificate.{Form, no_line}
use Rattle.fx_inequalities.specs.Formula.{Span, span}
use Rattle.fx_inequalities.specs.Affine.{form_of}
use Rattle.fx_inequalities.specs.NodeConditions.{plain_range_claims, range_claims, variables}
use Rattle.fx_formulas.specs.Judging.{judged}
use Rattle.fx_cert.specs.CertificateView.{certificate_of, form_view as form_view}
use Rattle.fx_conditions.specs.MatchView.{node_in}
use Rattle.fx_template_conditions.proofs.share.node_range.Goals as goal

pub returns-in-Some : goal.returns-in-Some
returns-in-Some c =
    let a = c.args in let fn = a.function.now in let cert = certificate_of a.certificate.now in
    let l = at no_line cert.lines a.n in
    let is_form : Some (form_view c.in-Some.form.now) ≡ form_of (variables fn) cert.lines a.n =
    rw (c.as_slice-lines.ensures, c.variable_count.ensures) at c.in-Some.ensures in
    subst (λ (o : Option Form). c.formed_range.result ≡ judged (range_claims fn cert l (node_in a.m.now) o)) is_form
    c.formed_range.ensures

pub returns-in-None : goal.returns-in-None
returns-in-None c =
    let a = c.args in let fn = a.function.now in let cert = certificate_of a.certificate.now in
    let l = at no_line cert.lines a.n in let node = node_in a.m.now in
    let is_none : None ≡ form_of (variables fn) cert.lines a.n =
    rw (c.as_slice-lines.ensures, c.variable_count.ensures) at c.in-None.ensures in
    let range : span c.range_at.result ≡ span l.range = rw c.as_slice-lines.ensures at c.range_at.ensures in
    subst (λ (o : Option Form). c.range_judgement.result ≡ judged (range_claims fn cert l node o)) is_none
    (subst (λ (t : Span). c.range_judgement.result ≡ judged (plain_range_claims fn cert node t)) range
    c.range_judgement.ensures)
