use Rattle.std.proofs.Common.{◌∙◌, ap, sym}
use Rattle.fx_cert.specs.CertificateView.{templates_in}
use Rattle.fx_template.specs.Transitions.{transition_in}
use Rattle.fx_template.specs.PlainRounds.{unit_templates}
use Rattle.fx_template.specs.RoundView.{bounds_in}
use Rattle.fx_template.proofs.Counted.{plain_both_pass, plain_written}
use Rattle.fx_template.proofs.find.plain_templates.Goals as goal

pub returns-clause-both : goal.returns-clause-both
returns-clause-both c =
    let t = transition_in c.args.t.now in let b = bounds_in c.in_ok-bounds.bounds in
    let templates = ap templates_in c.from_vec.ensures ∙ c.in_ok-templates.ensures.templates
    ∙ ap (unit_templates t.states) c.deref.ensures.value in
    let errors = ap templates_in c.from_vec-in-None.ensures ∙ c.in_ok-error_templates.ensures.templates
    ∙ ap (unit_templates t.states) c.deref-2.ensures.value in
    plain_both_pass t b (record {
      templates = templates_in c.from_vec.result;
      error_templates = templates_in c.from_vec-in-None.result;
    }) c.requires.modest templates errors (sym c.in-None.ensures)

pub returns-clause-written : goal.returns-clause-written
returns-clause-written c = λ h.
    let t = transition_in c.args.t.now in let b = bounds_in c.in_ok-bounds.bounds in
    let templates = ap templates_in c.from_vec.ensures ∙ c.in_ok-templates.ensures.templates
    ∙ ap (unit_templates t.states) c.deref.ensures.value in
    let errors = ap templates_in c.from_vec-in-None.ensures ∙ c.in_ok-error_templates.ensures.templates
    ∙ ap (unit_templates t.states) c.deref-2.ensures.value in
    plain_written t c.args.rounds b (record {
      templates = templates_in c.from_vec.result;
      error_templates = templates_in c.from_vec-in-None.result;
    }) c.requires.modest c.in_ok-bounds.ensures.rounds templates errors h
