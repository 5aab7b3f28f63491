use Rattle.std.proofs.Common.{get_or}
use Rattle.std.proofs.lemmas.List.{length-map, get_or-map}
use Rattle.fx_cert.specs.CertificateView.{line_view}
use Rattle.fx_plan_laws.specs.CalmPlan.{calm_line}
use Rattle.fx_calm.specs.BoundOf.{bound_of, bounds_in}
use Rattle.fx_calm.specs.declared.bound.Bound.{Bound}
use Rattle.fx_calm.proofs.Templates.{pushed_view}
use Rattle.fx_calm.proofs.line.lines.Goals as goal

pub loop-i-preserved : goal.loop-i-preserved
loop-i-preserved c =
    let bs = c.args.bs.now in let d : Bound = record { r = 0; e = 0 } in let x = bound_of (get_or bs c.loop-i.i d) in
    pushed_view line_view (calm_line c.args.f)
    (bounds_in bs) c.loop-i.i x c.loop-i.lines.items c.push.new.self.items c.line.result
    (rw (length-map bs bound_of) c.loop-i-test.true) (get_or-map bound_of bs c.loop-i.i d x c.loop-i-test.true)
    c.loop-i.invariant c.line.ensures c.in_ok-push.ensures.items
