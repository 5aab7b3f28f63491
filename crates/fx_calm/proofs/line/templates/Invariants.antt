use Rattle.std.proofs.Common.{◌≡◌}
use Rattle.fx_cert.specs.CertificateView.{templates_in}
use Rattle.fx_plan_laws.specs.CalmPlan.{unit_templates}
use Rattle.fx_calm.proofs.line.templates.Given as goal

abbrev pub invariant-loop-i : goal.invariant-loop-i
invariant-loop-i l = templates_in l.templates.items ≡ unit_templates l.fn.states l.fn.bound 0 l.i
