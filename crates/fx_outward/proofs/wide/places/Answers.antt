use Rattle.std.proofs.Common.{◌<◌, ◌≤◌, ◌+◌, ◌*◌, ◌%◌, ◌^◌, ℕ, arith}
use Rattle.std.proofs.lemmas.Nat.{div-add-mod', div_below, pow_pos}
use Rattle.std.proofs.Math.Pow.{pow_mono}
use Rattle.std.proofs.Math.Nat.{mul-lt-mul_of_pos_right}
use Rattle.fx_outward.proofs.Halves.{place_zero, place_one}
use Rattle.fx_fraction.proofs.Halvings.{double_power}
use Rattle.fx_outward.proofs.wide.places.Goals as goal
use Rattle.fx_outward.proofs.wide.places.Goals.{then-t-d, else-t-d}

below : (i s : ℕ) → i < s → s ≤ 126 → 2 ^ i ≤ 2 ^ 125
below i s l k = let h : i ≤ 125 = omega (arith, l, k) in pow_mono h

pub returns-then-r-s-clause-small : goal.returns-then-r-s-clause-small
returns-then-r-s-clause-small c =
    let n = c.args.r * 2 ^ c.args.s in let d = div-add-mod' n (2 ^ 128) in let less = c.requires.less in
    let l = mul-lt-mul_of_pos_right {m = c.args.r} {n = c.args.d} {k = 2 ^ c.args.s} less (pow_pos c.args.s) in
    div_below (n % 2 ^ 128) c.args.d (2 ^ c.args.s) (omega (arith, less)) (omega (arith, d, l))

pub overflow_add-f : goal.overflow_add-f
overflow_add-f c =
    let p = below c.loop-i.i c.args.s c.loop-i-test.true c.requires.places in
    let q = c.loop-i.invariant.small in
    record { fits = omega (arith, p, q) }

pub overflow_add-f-then-t-d : goal.overflow_add-f-then-t-d
overflow_add-f-then-t-d c =
    let p = below c.loop-i.i c.args.s c.loop-i-test.true c.requires.places in
    let q = c.loop-i.invariant.small in
    record { fits = omega (arith, p, q) }

pub overflow_add-f-else-t-d : goal.overflow_add-f-else-t-d
overflow_add-f-else-t-d c =
    let p = below c.loop-i.i c.args.s c.loop-i-test.true c.requires.places in
    let q = c.loop-i.invariant.small in
    record { fits = omega (arith, p, q) }

pub loop-i-preserved : goal.loop-i-preserved
loop-i-preserved c =
    let p = double_power c.loop-i.i in let h = c.loop-i.invariant.sum in let l = c.loop-i.invariant.less in
    let q = c.loop-i.invariant.small in
    elim c.if-t-d.branch [
      | then-t-d w ↦ (let ge = w.if-t-d.true in let lw = w.left-is in let fw = w.f-is in record {
        sum =
            rw (fw, lw) (place_one c.args.r (2 ^ c.loop-i.i)
            (2 ^ (c.loop-i.i + 1)) c.loop-i.f c.args.d c.loop-i.left p h ge);
        less = rw lw (omega (arith, ge, l));
        small = rw fw (omega (arith, p, q));
      })
      | else-t-d w ↦ (let lt = w.if-t-d.false in let lw = w.left-is in let fw = w.f-is in record {
        sum =
            rw (fw, lw) (place_zero c.args.r (2 ^ c.loop-i.i)
            (2 ^ (c.loop-i.i + 1)) c.loop-i.f c.args.d c.loop-i.left p h);
        less = rw lw (omega (arith, lt));
        small = rw fw (omega (arith, p, q));
      })
    ]
