use Rattle.std.proofs.Common.{◌∙◌}
use Rattle.fx_inequalities.specs.Accepted.{start_template_claims}
use Rattle.fx_formulas.specs.Judging.{judged}
use Rattle.fx_cert.specs.CertificateView.{boxes_in}
use Rattle.fx_template_conditions.specs.Boxes.{box_at}
use Rattle.fx_template_conditions.specs.CertificateSide.{OneSide, templates_on}
use Rattle.fx_checker.proofs.templates.starts_in_template.Goals as goal

pub returns : goal.returns
returns c = c.start_template_judgement.ensures
    ∙ (λ t. let s : OneSide = c.side_by-own.ensures t in
    judged (start_template_claims s.states (templates_on s) (box_at s.which (boxes_in (c.as_slice.ensures t))) c.args.i))
