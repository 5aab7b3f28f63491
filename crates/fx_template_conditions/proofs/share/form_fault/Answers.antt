use Rattle.std.proofs.Common.{◌≡◌, ℤ, Some, subst}
use Rattle.std.specs.Int.{w32}
use Rattle.std.proofs.lemmas.Int.{to_z-of_z}
use Rattle.fx_inequalities.specs.NodeConditions.{form_claims}
use Rattle.fx_formulas.specs.Judging.{judged}
use Rattle.fx_cert.specs.CertificateView.{form_view as form_view, lines_view}
use Rattle.fx_conditions.specs.MatchView.{code_in, node_in}
use Rattle.fx_template_conditions.proofs.share.form_fault.Goals as goal

pub returns : goal.returns
returns c = λ l.
    let a = c.args in
    let claims =
    λ (f : ℤ). form_claims a.variables (lines_view a.lines.now) l (node_in a.m.now) (code_in a.m.now) f
    (Some (form_view a.form.now)) in
    let judgement =
    subst (λ (f : ℤ). c.form_judgement.result ≡ judged (claims f)) (to_z-of_z w32 a.place c.ranges.place)
    (c.form_judgement.ensures l) in
    c.fault.ensures (claims a.place) judgement
