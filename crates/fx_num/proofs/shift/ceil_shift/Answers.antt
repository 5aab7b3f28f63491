use Rattle.std.proofs.Common.{arith}
use Rattle.std.proofs.lemmas.Int.{ints}
use Rattle.fx_num.proofs.shift.ceil_shift.Goals as goal
use Rattle.fx_num.proofs.Shifts.{ceiling_far, ceiling_far_above, half_fits}

pub returns-then-v-gt0 : goal.returns-then-v-gt0
returns-then-v-gt0 c = ceiling_far_above _ _ c.ranges.v c.if-s-ge128.true (omega (arith, ints))

pub returns-else-v-gt0 : goal.returns-else-v-gt0
returns-else-v-gt0 c = ceiling_far _ _ c.ranges.v c.if-s-ge128.true (omega (arith, ints))

pub overflow_cast-result-else-v-gt0-2-2 : goal.overflow_cast-result-else-v-gt0-2-2
overflow_cast-result-else-v-gt0-2-2 c =
    let h = half_fits c.unsigned_abs.result c.args.s c.unsigned_abs.ensures.bound c.if-s-eq0.false in
    omega (arith, ints, h)

pub overflow_sub-result-else-v-gt0-2 : goal.overflow_sub-result-else-v-gt0-2
overflow_sub-result-else-v-gt0-2 c =
    let h = half_fits c.unsigned_abs.result c.args.s c.unsigned_abs.ensures.bound c.if-s-eq0.false in
    omega (arith, ints, h)
