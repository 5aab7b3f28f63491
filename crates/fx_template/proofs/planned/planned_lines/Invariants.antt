use Rattle.std.proofs.Common.{◌≡◌}
use Rattle.fx_template.specs.AffineView.{planned}
use Rattle.fx_cert.specs.CertificateView.{lines_view}
use Rattle.fx_template.specs.Listed.{tabulate}
use Rattle.fx_template.specs.Transitions.{planned_line}
use Rattle.fx_template.proofs.planned.planned_lines.Given as goal

abbrev pub invariant-loop-n : goal.invariant-loop-n
invariant-loop-n l = lines_view l.lines.items ≡ tabulate l.n (planned_line (planned l.fn.plan))
