use Rattle.std.proofs.Common.{map}
use Rattle.fx_program.specs.CodeView.{code_of}
use Rattle.fx_lowering.proofs.InOrder.{FollowSoFar}
use Rattle.fx_lowering.proofs.lawful.points_in_order.Given as goal

abbrev pub invariant-loop-i : goal.invariant-loop-i
invariant-loop-i l = FollowSoFar l.frame (map code_of l.codes) l.i l.points.items
