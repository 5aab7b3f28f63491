-- Lowest terms, and what is down or up on a grid.
use Rattle.std.proofs.Common.{◌≡◌, ℕ, zero, suc, ◌-◌, ◌%◌, ◌^◌, ◌<◌, ◌≤◌, Bool, true, false, if◌then◌else◌, ℤ, pos, negsuc, ◌*ℤ◌, ◌≤ℤ◌, ◌↔◌, refl, sym, ap, subst, ◌∙◌, arith}
use Rattle.std.specs.Prelude.{unsigned_abs}
use Rattle.std.proofs.lemmas.Int.{ints}
use Rattle.std.proofs.lemmas.Nat.{div-add-mod', mod_below}
use Rattle.fx_rational.proofs.Integers.{suc_above}
use Rattle.fx_rational.specs.Rational.{Rational, bottom, over, scaled, floor_div, ceil_div, Equal, AtMost}
use Rattle.fx_rational.specs.Dyadic.{Dyadic, dyadic_value, aligned}
use Rattle.fx_rational.proofs.Laws.{equal_refl, equal_sym, equal_trans, le_trans, le_of_equal}
use Rattle.fx_rational.proofs.Floors.{floor_is, ceiling_is, le_floor, ceiling_le}
use Rattle.fx_rational.proofs.Dyadics.{as_written, aligned_is, power_bottom}
use Rattle.fx_rational.proofs.Roundings.{le_at_one_exponent}
use Rattle.fx_outward.specs.Grid.{is_even, lowest_dyadic, grid_down, grid_up}

-- ---- lowest terms
pub half_of : (m : ℤ) → is_even m ≡ true → floor_div m 2 *ℤ pos 2 ≡ m
half_of (pos n) h = let d = div-add-mod' n 2 in let z : n % 2 ≡ 0 = grind (arith, h) in omega (arith, ints, d, z)
half_of (negsuc n) h =
    let d = div-add-mod' n 2 in let l = mod_below n 2 (omega arith) in let c = div-add-mod' (suc n) 2 in
    let z : suc n % 2 ≡ 0 = grind (arith, h) in
    omega (arith, ints, d, l, c, z)

odd_of : (m : ℤ) → is_even m ≡ false → unsigned_abs m % 2 ≡ 1
odd_of m h =
    let l = mod_below (unsigned_abs m) 2 (omega arith) in
    let z : (unsigned_abs m % 2 ≡ 0 → ⊥) = λ e. absurd (grind (arith, h, e)) in
    grind (arith, l, z)

-- half the mantissa with one place less is the same number
halved : (m : ℤ) (e : ℕ) → is_even m ≡ true →
    Equal (dyadic_value (as_written (floor_div m 2) e)) (dyadic_value (as_written m (suc e)))
halved m e h =
    let d = as_written (floor_div m 2) e in
    let one : suc e - e ≡ 1 = omega arith in
    let is : aligned d (suc e) ≡ m = ap (λ (k : ℕ). floor_div m 2 *ℤ pos (2 ^ k)) one ∙ half_of m h in
    equal_sym (subst (λ (z : ℤ). Equal (dyadic_value (as_written z (suc e))) (dyadic_value d)) is
    (aligned_is d (suc e) (omega arith)))

pub record IsLowestDyadic (m : ℤ) (e : ℕ) (d : Dyadic) : Type 0 where
  pub value : Equal (dyadic_value d) (dyadic_value (as_written m e))
  pub places : d.e ≤ e
  pub lowest : 0 < d.e → unsigned_abs d.m % 2 ≡ 1

pub lowest_dyadic_is : (m : ℤ) (e : ℕ) → IsLowestDyadic m e (lowest_dyadic m e)
unfolding lowest_dyadic
lowest_dyadic_is m zero = record { value = equal_refl _; places = omega arith; lowest = λ h. absurd (omega (arith, h)) }
lowest_dyadic_is m (suc e) = by (is_even m) refl (lowest_dyadic_is (floor_div m 2) e)
  where
    by : (t : Bool) → is_even m ≡ t → IsLowestDyadic (floor_div m 2) e (lowest_dyadic (floor_div m 2) e) →
        IsLowestDyadic m (suc e) (if t then lowest_dyadic (floor_div m 2) e else record { m = m; e = suc e })
    by true h half = record {
      value = equal_trans half.value (halved m e h);
      places = let p = half.places in
          omega (arith, p);
      lowest = half.lowest;
    }
    by false h half = record { value = equal_refl _; places = omega arith; lowest = λ _. odd_of m h }

-- ---- m / 2^e beside a rational
pub at_most_written : (m : ℤ) (e : ℕ) (x : Rational) →
    AtMost (dyadic_value (as_written m e)) x ↔ ((m *ℤ pos (bottom x)) ≤ℤ (x.top *ℤ pos (2 ^ e)))
unfolding dyadic_value over
at_most_written m e x =
    let P : ℕ → Type 0 = λ k. (m *ℤ pos (bottom x)) ≤ℤ (x.top *ℤ pos k) in
    (λ h. subst P (power_bottom e) h.at_most, λ h. record { at_most = subst P (sym (power_bottom e)) h })

pub written_at_most : (m : ℤ) (e : ℕ) (x : Rational) →
    AtMost x (dyadic_value (as_written m e)) ↔ ((x.top *ℤ pos (2 ^ e)) ≤ℤ (m *ℤ pos (bottom x)))
unfolding dyadic_value over
written_at_most m e x =
    let P : ℕ → Type 0 = λ k. (x.top *ℤ pos k) ≤ℤ (m *ℤ pos (bottom x)) in
    (λ h. subst P (power_bottom e) h.at_most, λ h. record { at_most = subst P (sym (power_bottom e)) h })

-- ---- down and up
pub record IsDown (e : ℕ) (x : Rational) (r : Dyadic) : Type 0 where
  pub below : AtMost (dyadic_value r) x
  pub places : r.e ≤ e
  pub lowest : 0 < r.e → unsigned_abs r.m % 2 ≡ 1
  pub greatest : (d : Dyadic) → d.e ≤ e → AtMost (dyadic_value d) x → AtMost (dyadic_value d) (dyadic_value r)

pub grid_down_is : (e : ℕ) (x : Rational) → IsDown e x (grid_down e x)
unfolding grid_down scaled
grid_down_is e x =
    let r = floor_div (x.top *ℤ pos (2 ^ e)) (bottom x) in let t = lowest_dyadic_is r e in
    let floor = floor_is (x.top *ℤ pos (2 ^ e)) (bottom x) (omega arith) in
    record {
      below = le_trans (le_of_equal t.value) ((at_most_written r e x).1 floor.not_above);
      places = t.places;
      lowest = t.lowest;
      greatest = λ d p h.
          let v = aligned d e in let same = aligned_is d e p in
          let k = (at_most_written v e x).0 (le_trans (le_of_equal same) h) in
          let l = (le_floor v (x.top *ℤ pos (2 ^ e)) (bottom x) (suc_above x.less)).1 k in
          le_trans (le_of_equal (equal_sym same))
          (le_trans (le_at_one_exponent v r e l) (le_of_equal (equal_sym t.value)));
    }

pub record IsUp (e : ℕ) (x : Rational) (r : Dyadic) : Type 0 where
  pub above : AtMost x (dyadic_value r)
  pub places : r.e ≤ e
  pub lowest : 0 < r.e → unsigned_abs r.m % 2 ≡ 1
  pub least : (d : Dyadic) → d.e ≤ e → AtMost x (dyadic_value d) → AtMost (dyadic_value r) (dyadic_value d)

pub grid_up_is : (e : ℕ) (x : Rational) → IsUp e x (grid_up e x)
unfolding grid_up scaled
grid_up_is e x =
    let r = ceil_div (x.top *ℤ pos (2 ^ e)) (bottom x) in let t = lowest_dyadic_is r e in
    let ceiling = ceiling_is (x.top *ℤ pos (2 ^ e)) (bottom x) (omega arith) in
    record {
      above = le_trans ((written_at_most r e x).1 ceiling.not_below) (le_of_equal (equal_sym t.value));
      places = t.places;
      lowest = t.lowest;
      least = λ d p h.
          let v = aligned d e in let same = aligned_is d e p in
          let k = (written_at_most v e x).0 (le_trans h (le_of_equal (equal_sym same))) in
          let l = (ceiling_le (x.top *ℤ pos (2 ^ e)) v (bottom x) (suc_above x.less)).1 k in
          le_trans (le_of_equal t.value) (le_trans (le_at_one_exponent r v e l) (le_of_equal same));
    }
