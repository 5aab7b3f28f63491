use Rattle.std.proofs.Common.{ℕ, ◌<◌}
use Rattle.fx_rational.specs.Rational.{AtMost}
use Rattle.fx_inequalities.specs.Accepted.{certified_bound}
use Rattle.fx_plain_attempts.proofs.answer.are_no_greater.Given as goal

-- the bounds so far are no greater
abbrev pub invariant-loop-j : goal.invariant-loop-j
invariant-loop-j l = (k : ℕ) → k < l.j →
    AtMost (certified_bound l.a.program l.a.certificate k) (certified_bound l.b.program l.b.certificate k)
