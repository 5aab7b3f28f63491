use Rattle.std.proofs.Common.{refl, inl, inr}
use Rattle.fx_plain_attempts.proofs.answer.better.Goals as goal

pub returns-then-is_better : goal.returns-then-is_better
returns-then-is_better c = inl (refl, c.is_better.ensures.taken c.if-is_better.true)

pub returns-else-is_better : goal.returns-else-is_better
returns-else-is_better c = inr (refl, c.is_better.ensures.left c.if-is_better.false)
