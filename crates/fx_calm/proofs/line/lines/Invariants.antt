use Rattle.std.proofs.Common.{◌≡◌, map, take}
use Rattle.fx_cert.specs.CertificateView.{line_view}
use Rattle.fx_plan_laws.specs.CalmPlan.{calm_line}
use Rattle.fx_calm.specs.BoundOf.{bounds_in}
use Rattle.fx_calm.proofs.line.lines.Given as goal

abbrev pub invariant-loop-i : goal.invariant-loop-i
invariant-loop-i l = map line_view l.lines.items ≡ map (calm_line l.fn.f) (take l.i (bounds_in l.fn.bs))
