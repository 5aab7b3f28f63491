use Rattle.std.proofs.Common.{subst, sym}
use Rattle.fx_template.specs.Answers.{HasWrittenStates}
use Rattle.fx_template.proofs.find.find_templates.Goals as goal

pub returns-clause-written : goal.returns-clause-written
returns-clause-written c = λ h. c.templates_over.ensures.written (subst HasWrittenStates (sym c.in_ok-t.ensures) h)
