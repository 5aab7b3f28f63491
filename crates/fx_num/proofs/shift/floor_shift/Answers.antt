use Rattle.std.proofs.Common.{arith}
use Rattle.std.proofs.lemmas.Int.{ints}
use Rattle.fx_num.proofs.shift.floor_shift.Goals as goal
use Rattle.fx_num.proofs.Shifts.{floor_far, floor_far_below}

pub returns-then-v-lt0 : goal.returns-then-v-lt0
returns-then-v-lt0 c = floor_far_below _ _ c.ranges.v c.if-s-lt128.false (omega (arith, ints))

pub returns-else-v-lt0 : goal.returns-else-v-lt0
returns-else-v-lt0 c = floor_far _ _ c.ranges.v c.if-s-lt128.false (omega (arith, ints))
