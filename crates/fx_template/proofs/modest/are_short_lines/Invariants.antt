use Rattle.std.proofs.Common.{ℕ, ◌<◌}
use Rattle.fx_model.specs.Tree.{at}
use Rattle.fx_inequalities.specs.Certificate.{no_line}
use Rattle.fx_cert.specs.CertificateView.{lines_view}
use Rattle.fx_conditions.specs.Limits.{IsShortLine}
use Rattle.fx_template.proofs.modest.are_short_lines.Given as goal

abbrev pub invariant-loop-n : goal.invariant-loop-n
invariant-loop-n l = (k : ℕ) → k < l.n → IsShortLine (at no_line (lines_view l.fn.lines) k)
