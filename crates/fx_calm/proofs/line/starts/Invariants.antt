use Rattle.std.proofs.Common.{◌≡◌, map, take}
use Rattle.fx_cert.specs.CertificateView.{boxes_in}
use Rattle.fx_plan_laws.specs.CalmPlan.{calm_start}
use Rattle.fx_calm.proofs.line.starts.Given as goal

abbrev pub invariant-loop-k : goal.invariant-loop-k
invariant-loop-k l = boxes_in l.boxes.items ≡ map (calm_start l.fn.f) (take l.k l.fn.function.states)
