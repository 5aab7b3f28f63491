use Rattle.std.proofs.Common.{◌≡◌, ◌++◌, List, length}
use Rattle.fx_inequalities.specs.Rewriting.{Rewriting}
use Rattle.fx_rewrite.specs.Left.{left}
use Rattle.fx_rules.specs.SingleSteps.{single_steps}
use Rattle.fx_plain_attempts.specs.Turns.{IsBestAfter}
use Rattle.fx_plain_attempts.proofs.turns.attempts.Given as goal

-- so many steps were looked at, the others are left, and the answer stands after those
abbrev pub invariant-loop-turn : goal.invariant-loop-turn
invariant-loop-turn l = (done : List Rewriting) × (single_steps l.fn.function ≡ done ++ left l.steps) ×
    (length done ≡ l._turn) × IsBestAfter l.fn.wanted l.fn.function done l.answer
