use Rattle.fx_model.specs.Nodes.{nodes_of}
use Rattle.fx_plan_laws.specs.CalmPlan.{bounds_of}
use Rattle.fx_calm.specs.NumbersOf.{numbers_view}
use Rattle.fx_calm.specs.BoundOf.{bounds_in}
use Rattle.fx_calm.proofs.Walked.{IsWalked}
use Rattle.fx_calm.proofs.walk.bounds.Given as goal

abbrev pub invariant-loop-i : goal.invariant-loop-i
invariant-loop-i l =
    IsWalked (numbers_view l.fn.c) l.fn.function.inputs (nodes_of l.fn.function)
    (bounds_of (numbers_view l.fn.c) l.fn.function) l.i (bounds_in l.bs.items)
