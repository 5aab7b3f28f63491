use Rattle.std.proofs.Common.{◌≡◌, ℕ}
use Rattle.fx_model.specs.Tree.{at}
use Rattle.fx_inequalities.specs.Certificate.{zero_interval}
use Rattle.fx_cert.specs.CertificateView.{templates_in}
use Rattle.fx_template.specs.Listed.{tabulate}
use Rattle.fx_template.specs.PlainRounds.{unit_template}
use Rattle.fx_template.proofs.unit.unit_templates.Given as goal

abbrev pub invariant-loop-i : goal.invariant-loop-i
invariant-loop-i l =
    templates_in l.templates.items
    ≡ tabulate l.i (λ (i : ℕ). unit_template l.fn.states (at zero_interval l.fn.bounds i) i)
