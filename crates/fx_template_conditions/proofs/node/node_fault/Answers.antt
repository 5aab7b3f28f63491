use Rattle.std.proofs.Common.{◌≡◌, ℤ, true, refl, sym, subst, ◌∙◌}
use Rattle.std.specs.Int.{w32}
use Rattle.std.specs.Option.{option_map}
use Rattle.std.proofs.lemmas.Int.{to_z-of_z}
use Rattle.fx_model.specs.Tree.{at}
use Rattle.fx_inequalities.specs.Affine.{error_at, form_of, range_at}
use Rattle.fx_inequalities.specs.Certificate.{no_line}
use Rattle.fx_inequalities.specs.Condition as conditions
use Rattle.fx_inequalities.specs.Condition.{Fault, first_some}
use Rattle.fx_inequalities.specs.NodeConditions.{variables, form_claims, divisor_claims, range_claims, error_claims, word_claims}
use Rattle.fx_formulas.specs.FaultView.{condition_fault_of}
use Rattle.fx_formulas.specs.Judging.{judged}
use Rattle.fx_cert.specs.CertificateView.{certificate_of}
use Rattle.fx_conditions.specs.MatchView.{code_in, node_in}
use Rattle.fx_template_conditions.proofs.Nodes.{fault_at, five}
use Rattle.fx_template_conditions.proofs.node.node_fault.Goals as goal

pub returns : goal.returns
returns c = λ ps h.
    let a = c.args in let fn = a.function.now in let cert = certificate_of a.certificate.now in let n = a.n in
    let v = variables fn in
    let node = node_in a.m.now in let code = code_in a.m.now in let l = at no_line cert.lines n in
    let form = form_of v cert.lines n in let p = to_z-of_z w32 a.place c.ranges.place in
    let form_is : option_map condition_fault_of c.node_form-form.result
    ≡ fault_at conditions.Form n true (form_claims v cert.lines l node code a.place form) =
    subst (λ (f : ℤ). option_map condition_fault_of c.node_form-form.result
    ≡ fault_at conditions.Form n true (form_claims v cert.lines l node code f form)) p
    (rw (c.as_slice-lines.ensures, c.variable_count.ensures) at c.node_form-form.ensures) in
    let divisor = c.fault-divisor.ensures (divisor_claims cert.lines node) c.divisor_judgement.ensures in
    let range = c.fault-range.ensures (range_claims fn cert l node form) c.node_range.ensures in
    let error_is =
    subst (λ (f : ℤ). c.node_error.result
    ≡ judged (error_claims fn cert l node code f form)) p c.node_error.ensures in
    let error = c.fault-error.ensures (error_claims fn cert l node code a.place form) error_is in
    let word_is : c.node_word.result
    ≡ judged (word_claims a.width a.place (range_at cert.lines n) (error_at cert.lines n)) =
    subst (λ (f : ℤ). c.node_word.result
    ≡ judged (word_claims a.width f (range_at cert.lines n) (error_at cert.lines n))) p
    (rw c.as_slice-lines.ensures at c.node_word.ensures) in
    let word =
    c.fault-word.ensures (word_claims a.width a.place (range_at cert.lines n) (error_at cert.lines n)) word_is in
    let four = c.first.ensures ∙ (λ i. first_some (error i) (word i)) in
    let three = c.first-2.ensures ∙ (λ i. first_some (range i) (four i)) in
    let two = c.first-3.ensures ∙ (λ i. first_some (divisor i) (three i)) in
    c.first-4.ensures ∙ (λ i. first_some (form_is i) (two i)) ∙ sym (five fn a.width ps cert n node code v a.place refl h)
