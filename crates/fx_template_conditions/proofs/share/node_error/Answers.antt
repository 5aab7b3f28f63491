use Rattle.std.proofs.Common.{◌≡◌, ◌∙◌, ℤ, Option, Some, None, subst}
use Rattle.std.specs.Int.{w32}
use Rattle.std.proofs.lemmas.Int.{to_z-of_z}
use Rattle.fx_model.specs.Tree.{at}
use Rattle.fx_inequalities.specs.Certificate.{Form, no_line}
use Rattle.fx_inequalities.specs.Formula.{span}
use Rattle.fx_inequalities.specs.Affine.{form_of}
use Rattle.fx_inequalities.specs.NodeConditions.{error_claims, plain_error_claims, variables}
use Rattle.fx_formulas.specs.Judging.{judged}
use Rattle.fx_cert.specs.CertificateView.{certificate_of, form_view as form_view}
use Rattle.fx_conditions.specs.MatchView.{code_in, node_in}
use Rattle.fx_template_conditions.proofs.share.node_error.Goals as goal

pub returns-in-Some : goal.returns-in-Some
returns-in-Some c =
    let a = c.args in let fn = a.function.now in let cert = certificate_of a.certificate.now in
    let l = at no_line cert.lines a.n in let form = form_view c.in-Some.form.now in
    let claims = λ (f : ℤ) (o : Option Form). error_claims fn cert l (node_in a.m.now) (code_in a.m.now) f o in
    let is_form : Some form ≡ form_of (variables fn) cert.lines a.n =
    rw (c.as_slice-lines.ensures, c.variable_count.ensures) at c.in-Some.ensures in
    let judgement =
    subst (λ (f : ℤ). c.formed_error.result ≡ judged (claims f (Some form))) (to_z-of_z w32 a.place c.ranges.place)
    c.formed_error.ensures in
    subst (λ (o : Option Form). c.formed_error.result ≡ judged (claims a.place o)) is_form judgement

pub returns-in-None : goal.returns-in-None
returns-in-None c =
    let a = c.args in let fn = a.function.now in let cert = certificate_of a.certificate.now in
    let l = at no_line cert.lines a.n in let node = node_in a.m.now in let code = code_in a.m.now in
    let is_none : None ≡ form_of (variables fn) cert.lines a.n =
    rw (c.as_slice-lines.ensures, c.variable_count.ensures) at c.in-None.ensures in
    let range : span c.range_at-range.result ≡ span l.range = rw c.as_slice-lines.ensures at c.range_at-range.ensures in
    let error : span c.error_at-error.result ≡ span l.error = rw c.as_slice-lines.ensures at c.error_at-error.ensures in
    let place = to_z-of_z w32 a.place c.ranges.place in
    let judgement =
    c.error_judgement.ensures ∙ (λ i. judged (plain_error_claims fn cert node code (place i) (range i) (error i))) in
    subst (λ (o : Option Form). c.error_judgement.result ≡ judged (error_claims fn cert l node code a.place o)) is_none
    judgement
