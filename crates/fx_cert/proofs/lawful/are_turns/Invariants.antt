use Rattle.std.proofs.Common.{ℕ, ◌<◌, get_or}
use Rattle.fx_cert.proofs.lawful.are_turns.Given as goal

abbrev pub invariant-loop-i : goal.invariant-loop-i
invariant-loop-i l = (k : ℕ) → k < l.i → get_or l.fn.path k 0 < 2
