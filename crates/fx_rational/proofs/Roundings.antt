-- Roundings of dyadics are the nearest on their side of all those with few enough binary places.
use Rattle.std.proofs.Common.{◌≡◌, ℕ, ◌-◌, ◌^◌, ◌≤◌, refl, arith, ℤ, ◌≤ℤ◌, Bool, true, false, if◌then◌else◌, nat_le}
use Rattle.std.proofs.lemmas.Int.{ints}
use Rattle.fx_rational.proofs.Integers.{nonneg_of_above}
use Rattle.fx_rational.proofs.Order.{mul_le_right, pow_above}
use Rattle.fx_rational.specs.Rational.{AtMost, floor_div, ceil_div}
use Rattle.fx_rational.specs.Dyadic.{Dyadic, dyadic_value, dyadic, aligned, rounded_down, rounded_up}
use Rattle.fx_rational.specs.DyadicLaws.{RoundedDownLaw, IsRoundedDown, RoundedUpLaw, IsRoundedUp}
use Rattle.fx_rational.proofs.Laws.{equal_sym, le_refl, le_trans, le_of_equal}
use Rattle.fx_rational.proofs.Floors.{le_floor, ceiling_le}
use Rattle.fx_rational.proofs.Dyadics.{as_written, order, dyadic_is, dyadic_exponent, aligned_is, below_finer, below_coarser}

-- at one exponent the mantissas decide
pub le_at_one_exponent : (v w : ℤ) (e : ℕ) → v ≤ℤ w →
    AtMost (dyadic_value (as_written v e)) (dyadic_value (as_written w e))
le_at_one_exponent v w e h =
    (order (as_written v e) (as_written w e)).1 (mul_le_right h (nonneg_of_above (pow_above e)))

down : (d : Dyadic) (e : ℕ) → e ≤ d.e → IsRoundedDown d e (dyadic (floor_div d.m (2 ^ (d.e - e))) e)
down d e l =
    let s = d.e - e in let r = floor_div d.m (2 ^ s) in let above = pow_above s in
    let lifted = λ (v : ℤ). below_finer (as_written v e) d l in
    record {
      exponent = dyadic_exponent r e;
      not_above =
          le_trans (le_of_equal (dyadic_is r e))
          ((lifted r).1 ((le_floor r d.m (2 ^ s) above).0 (omega (arith, ints))));
      greatest = λ x p h.
          let v = aligned x e in
          let k = (le_floor v d.m (2 ^ s) above).1 ((lifted v).0 (le_trans (le_of_equal (aligned_is x e p)) h)) in
          le_trans (le_of_equal (equal_sym (aligned_is x e p)))
          (le_trans (le_at_one_exponent v r e k) (le_of_equal (equal_sym (dyadic_is r e))));
    }

pub rounded_down_is : RoundedDownLaw
unfolding rounded_down
rounded_down_is d e = by (nat_le d.e e) refl
  where
    by : (t : Bool) → nat_le d.e e ≡ t → IsRoundedDown d e (if t then d else dyadic (floor_div d.m (2 ^ (d.e - e))) e)
    by true h = record { exponent = grind arith; not_above = le_refl _; greatest = λ x p q. q }
    by false h = down d e (grind arith)

up : (d : Dyadic) (e : ℕ) → e ≤ d.e → IsRoundedUp d e (dyadic (ceil_div d.m (2 ^ (d.e - e))) e)
up d e l =
    let s = d.e - e in let r = ceil_div d.m (2 ^ s) in let above = pow_above s in
    let lifted = λ (v : ℤ). below_coarser d (as_written v e) l in
    record {
      exponent = dyadic_exponent r e;
      not_below =
          le_trans ((lifted r).1 ((ceiling_le d.m r (2 ^ s) above).0 (omega (arith, ints))))
          (le_of_equal (equal_sym (dyadic_is r e)));
      least = λ x p h.
          let v = aligned x e in
          let k =
          (ceiling_le d.m v (2 ^ s) above).1
          ((lifted v).0 (le_trans h (le_of_equal (equal_sym (aligned_is x e p))))) in
          le_trans (le_of_equal (dyadic_is r e))
          (le_trans (le_at_one_exponent r v e k) (le_of_equal (aligned_is x e p)));
    }

pub rounded_up_is : RoundedUpLaw
unfolding rounded_up
rounded_up_is d e = by (nat_le d.e e) refl
  where
    by : (t : Bool) → nat_le d.e e ≡ t → IsRoundedUp d e (if t then d else dyadic (ceil_div d.m (2 ^ (d.e - e))) e)
    by true h = record { exponent = grind arith; not_below = le_refl _; least = λ x p q. q }
    by false h = up d e (grind arith)
