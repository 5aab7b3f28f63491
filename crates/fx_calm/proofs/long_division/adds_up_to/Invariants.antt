use Rattle.fx_calm.proofs.Decided.{IsGoing}
use Rattle.fx_calm.proofs.long_division.adds_up_to.Given as goal

abbrev pub invariant-loop-turn : goal.invariant-loop-turn
invariant-loop-turn l = IsGoing l._turn l.s l.summands l.fn.summands l.limit
