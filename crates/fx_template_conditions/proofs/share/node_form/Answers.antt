use Rattle.std.proofs.Common.{◌≡◌, ℤ, true, Option, Some, subst}
use Rattle.std.specs.Int.{w32}
use Rattle.std.specs.Option.{option_map}
use Rattle.std.proofs.lemmas.Int.{to_z-of_z}
use Rattle.fx_model.specs.Tree.{at}
use Rattle.fx_inequalities.specs.Certificate.{Form, no_line}
use Rattle.fx_inequalities.specs.Condition as conditions
use Rattle.fx_inequalities.specs.NodeConditions.{form_claims}
use Rattle.fx_formulas.specs.FaultView.{condition_fault_of}
use Rattle.fx_cert.specs.CertificateView.{form_view as form_view, lines_view}
use Rattle.fx_conditions.specs.MatchView.{code_in, node_in}
use Rattle.fx_template_conditions.proofs.share.node_form.Goals as goal

pub returns-in-Some : goal.returns-in-Some
returns-in-Some c =
    let a = c.args in let ls = lines_view a.lines.now in let l = at no_line ls a.n in
    let form = form_view c.in-Some.form.now in
    let is = λ (f : ℤ) (o : Option Form). option_map condition_fault_of c.form_fault.result
    ≡ conditions.fault_of (record {
      kind = conditions.Form;
      part = conditions.OfNode;
      index = a.n;
      test = true;
      claims = form_claims a.variables ls l (node_in a.m.now) (code_in a.m.now) f o;
    }) in
    subst (λ (o : Option Form). is a.place o) c.in-Some.ensures
    (subst (λ (f : ℤ). is f (Some form)) (to_z-of_z w32 a.place c.ranges.place) (c.form_fault.ensures l))
