use Rattle.std.proofs.Common.{◌≡◌, ℕ, ◌+◌, ◌≤◌, All, List, sym, subst, ◌∙◌, arith}
use Rattle.std.proofs.lemmas.List.{length-map}
use Rattle.std.proofs.lemmas.List.Elements.{All-map}
use Rattle.fx_inequalities.specs.Certificate.{NodeLine}
use Rattle.fx_inequalities.specs.LawfulCertificate.{AreWrittenLines, IsWrittenBox, IsWrittenStep}
use Rattle.fx_step.specs.StepView.{step_view}
use Rattle.fx_cert.specs.CertificateView.{box_of, line_view, lines_view, template_view}
use Rattle.fx_cert.proofs.lawful.is_lawful.Goals as goal

pub are_lines-requires-clause-templates : goal.are_lines-requires-clause-templates
are_lines-requires-clause-templates c =
    let few = (c.are_all_templates.ensures.templates c.if-not-are_all_templates.false).few in
    let same = length-map c.args.certificate.now.templates template_view in
    omega (arith, c.frame_of.ensures.templates, few, same)

pub are_lines-requires-clause-error_templates : goal.are_lines-requires-clause-error_templates
are_lines-requires-clause-error_templates c =
    let few = (c.are_all_templates.ensures.error_templates c.if-not-are_all_templates.false).few in
    let same = length-map c.args.certificate.now.error_templates template_view in
    omega (arith, c.frame_of.ensures.error_templates, few, same)

-- as many variables, templates and error templates
over : (lines : List NodeLine) (v w t u e f : ℕ) → v ≡ w → t ≡ u → e ≡ f → AreWrittenLines v t e 0 lines →
    AreWrittenLines w u f 0 lines
over lines v w t u e f p q r h =
    subst (λ (n : ℕ). AreWrittenLines w u n 0 lines) r
    (subst (λ (n : ℕ). AreWrittenLines w n e 0 lines) q (subst (λ (n : ℕ). AreWrittenLines n t e 0 lines) p h))

pub returns : goal.returns
returns c = λ e.
    let k = c.args.certificate.now in let counts = c.are_counts.ensures in let yes = c.if-not-are_counts.false in
    let frame = c.frame_of.result in let f = c.frame_of.ensures in
    let all = c.are_all_templates.ensures in let kept = c.if-not-are_all_templates.false in
    let lines =
    subst (λ ls. AreWrittenLines frame.variables frame.templates frame.error_templates 0 (lines_view ls))
    c.as_slice-2.ensures (c.are_lines.ensures e) in
    record {
      some_input = counts.some_input yes;
      inputs = counts.inputs yes;
      states = counts.states yes;
      some_lines = subst (λ (n : ℕ). k.inputs + k.states ≤ n) (sym (length-map k.lines line_view))
          (counts.some_lines yes);
      few_lines = subst (λ (n : ℕ). n ≤ 4000) (sym (length-map k.lines line_view)) (counts.few_lines yes);
      few_steps = subst (λ (n : ℕ). n ≤ 10000) (sym (length-map k.steps step_view)) (counts.few_steps yes);
      steps = All-map IsWrittenStep step_view k.steps
          (subst (All (λ s. IsWrittenStep (step_view s))) c.as_slice.ensures
          (c.are_steps.ensures c.if-not-are_steps.false));
      starts_count = length-map k.starts box_of ∙ counts.starts yes;
      starts = All-map IsWrittenBox box_of k.starts
          (subst (All (λ b. IsWrittenBox (box_of b))) c.as_slice-else-not-are_steps.ensures
          (c.are_boxes.ensures c.if-not-are_boxes.false));
      templates = all.templates kept;
      error_templates = all.error_templates kept;
      lines = over (lines_view k.lines) _ _ _ _ _ _ f.variables
          (f.templates ∙ sym (length-map k.templates template_view))
          (f.error_templates ∙ sym (length-map k.error_templates template_view)) lines;
    }
