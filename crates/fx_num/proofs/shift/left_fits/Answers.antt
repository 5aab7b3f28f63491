use Rattle.std.proofs.Common.{of_z, arith, sym, ap}
use Rattle.std.specs.Int.{w128}
use Rattle.std.proofs.lemmas.Int.{ints, to_z-of_z}
use Rattle.std.proofs.lemmas.Nat.{pow_pos}
use Rattle.fx_rational.proofs.Fits.{in_128, fits_in}
use Rattle.fx_num.proofs.shift.left_fits.Goals as goal
use Rattle.fx_num.proofs.Shifts.{only_sign, only_sign_back, left_is, far_left, zero_left}

pub returns-then-v-s : goal.returns-then-v-s
returns-then-v-s c =
    let f = c.ranges.v in
    let i = only_sign c.args.v c.args.s f c.if-s-lt128.true (simp to_z-of_z at c.if-v-s.true) in
    (fits_in _ i, left_is c.args.v _ (pow_pos c.args.s) i)

pub returns-else-v-s : goal.returns-else-v-s
returns-else-v-s c = λ h.
    let f = c.ranges.v in
    simp to_z-of_z at c.if-v-s.false (only_sign_back c.args.v c.args.s f c.if-s-lt128.true (in_128 _ h))

pub returns-then-v-eq0 : goal.returns-then-v-eq0
returns-then-v-eq0 c =
    let f = c.ranges.v in
    let e = zero_left c.args.v c.args.s (omega (arith, ints)) in
    (fits_in _ (rw e (record { low = omega (arith, ints); high = omega (arith, ints) })), sym e)

pub returns-else-v-eq0 : goal.returns-else-v-eq0
returns-else-v-eq0 c =
    λ h. far_left c.args.v c.args.s (λ e. c.if-v-eq0.false (ap (of_z w128) e)) c.if-s-lt128.false (in_128 _ h)
