use Rattle.std.proofs.Common.{ℕ, pos, ◌<◌}
use Rattle.fx_model.specs.LawfulProgram.{IsPoint}
use Rattle.fx_model.specs.Tree.{at}
use Rattle.fx_template.proofs.modest.are_points.Given as goal

abbrev pub invariant-loop-n : goal.invariant-loop-n
invariant-loop-n l = (k : ℕ) → k < l.n → IsPoint (at (pos 0) l.fn.points k)
