use Rattle.std.proofs.Common.{◌≡◌, ◌∙◌, ℕ, Some, subst}
use Rattle.std.specs.Int.{w32}
use Rattle.std.proofs.lemmas.Int.{to_z-of_z}
use Rattle.fx_rational.specs.Dyadic.{zero_dyadic}
use Rattle.fx_model.specs.Tree.{at}
use Rattle.fx_inequalities.specs.Certificate.{no_line}
use Rattle.fx_inequalities.specs.Claim.{inside}
use Rattle.fx_inequalities.specs.Formula.{Num, Span, span}
use Rattle.fx_inequalities.specs.Affine.{of_line}
use Rattle.fx_inequalities.specs.NodeConditions.{plain_error_claims}
use Rattle.fx_formulas.specs.Judging.{judged}
use Rattle.fx_cert.specs.CertificateView.{certificate_of, form_view as form_view, shares_of}
use Rattle.fx_cert.specs.Sides.{side_rest}
use Rattle.fx_conditions.specs.MatchView.{code_in, node_in}
use Rattle.fx_template_conditions.specs.CertificateSide.{OneSide, bound_on, errors_of}
use Rattle.fx_template_conditions.proofs.share.formed_error.Goals as goal

pub returns-in-Some : goal.returns-in-Some
returns-in-Some c =
    let a = c.args in let cert = certificate_of a.certificate.now in let l = at no_line cert.lines a.n in
    let form = form_view a.form.now in let f = λ (j : ℕ). Num (at zero_dyadic form.coefs j) in
    let shares = shares_of c.as_slice-in-Some.result.now in
    let claims =
    λ (s : OneSide) (t : Span). inside (bound_on s f (side_rest s.which (of_line l (Some form))) shares) t in
    let error : span c.error_at-error.result ≡ span l.error = rw c.as_slice-2.ensures at c.error_at-error.ensures in
    let errors =
    subst (λ (s : OneSide). c.by_shares.result ≡ judged (claims s (span c.error_at-error.result)))
    c.errors_of-errors.ensures (c.by_shares.ensures l) in
    let judgement =
    subst (λ (t : Span). c.by_shares.result ≡ judged (claims (errors_of a.function.now cert) t)) error errors in
    rw (c.in-Some.is, ← c.as_slice-in-Some.ensures) judgement

pub returns-in-None : goal.returns-in-None
returns-in-None c =
    let a = c.args in let cert = certificate_of a.certificate.now in let l = at no_line cert.lines a.n in
    let range : span c.range_at-range.result ≡ span l.range = rw c.as_slice.ensures at c.range_at-range.ensures in
    let error : span c.error_at-error.result ≡ span l.error = rw c.as_slice-2.ensures at c.error_at-error.ensures in
    let place = to_z-of_z w32 a.place c.ranges.place in
    let judgement = c.error_judgement.ensures ∙ (λ i. judged (plain_error_claims a.function.now cert (node_in a.m.now)
    (code_in a.m.now) (place i) (range i) (error i))) in
    rw c.in-None.is judgement
