use Rattle.std.proofs.Common.{ap, arith, ◌∙◌}
use Rattle.fx_formulas.specs.Judging.{judged}
use Rattle.fx_template_conditions.specs.CertificateSide.{OneSide}
use Rattle.fx_template_conditions.specs.KeptTemplates.{kept_template}
use Rattle.fx_checker.proofs.templates.keeps_template.Goals as goal

pub template_judgement-requires : goal.template_judgement-requires
template_judgement-requires c = record {
  few = omega (arith, ap (λ (s : OneSide). s.states) c.side_by-own.ensures, c.next_node.ensures.few);
}

pub returns : goal.returns
returns c = c.template_judgement.ensures
    ∙ (λ t. let s : OneSide = c.side_by-own.ensures t in
    judged (kept_template s.inputs s.states (c.next_node.ensures.next t) s.lines s.templates s.which c.args.i))
