-- Factors of terms: what the bounds of inputs, states and literals are, in units, and what those of products come to.
use Rattle.std.proofs.Common.{◌≡◌, ℕ, ◌+◌, ◌-◌, ◌*◌, ◌^◌, ◌≤◌, [], ◌∷◌, ℤ, pos, ◌+ℤ◌, ◌-ℤ◌, neg_ℤ, refl, sym, ap, subst, ◌∙◌, arith, pow_pos}
use Rattle.std.specs.Prelude.{unsigned_abs}
use Rattle.std.proofs.Math.IntN.{neg_ℤ-neg_ℤ}
use Rattle.std.proofs.Math.Nat.{mul_comm}
use Rattle.std.proofs.lemmas.Int.{ints}
use Rattle.fx_rational.specs.Rational.{Rational, whole, plus, times, AtMost, Equal}
use Rattle.fx_rational.proofs.Ring.{by_quotes, quotes}
use Rattle.fx_rational.proofs.Laws.{equal_refl, equal_sym, equal_trans, le_refl, le_trans, le_of_equal, plus_le, times_le, gap, ordered, Nonneg, nonneg_from, plus_same}
use Rattle.fx_rational.proofs.Quotient.{above_nonneg, le_of_times}
use Rattle.fx_rational.proofs.Powers.{power, power_above, power_sum, unit, unit_times, whole_sum, whole_product, whole_le, whole_order}
use Rattle.fx_fraction.proofs.Halvings.{double_power}
use Rattle.fx_model.specs.Function as function
use Rattle.fx_plan_laws.specs.Powers.{magnitude, power_value}
use Rattle.fx_plan_laws.proofs.Powers.{power_more, unit_value_is}
use Rattle.fx_plan_laws.proofs.Values.{magnitude_nonneg}
use Rattle.fx_plan_laws.specs.Bounds.{Bound, units_up, shifted_up, error_box, state_bound, input_bound, const_bound, product_bound}
use Rattle.fx_plan_laws.specs.Calm.{Numbers, reach_of}
use Rattle.fx_plan_laws.proofs.Bounding.{product_range_bound, product_error_bound}
use Rattle.fx_plan_laws.proofs.Rounded.{units_below, units_least, shifted_below}

-- ---- what is known of the numbers of a calm function
-- y counts the errors of inputs in units
pub record HasRoom (c : Numbers) (y : ℕ) : Type 0 where
  pub v : c.v ≡ pos y -ℤ pos c.f
  pub some : 1 ≤ y
  pub roundings : c.m + 6 ≤ c.p
  pub sizes : c.a ≤ c.p
  pub point : c.p + 2 ≤ c.f
  pub states : c.q + 3 ≤ c.m
  pub errors : c.a + c.p + 5 + y ≤ c.m + c.f
  pub width : c.m + c.f ≤ 61

pub box_is : (c : Numbers) (y : ℕ) → HasRoom c y → error_box c ≡ c.p + 4 + y
box_is c y h = ap unsigned_abs (moved (c.p + 4) c.f y c.v h.v)
  where
    moved : (k f y : ℕ) (v : ℤ) → v ≡ pos y -ℤ pos f → pos (k + f) +ℤ v ≡ pos (k + y)
    moved k f y v e = omega (arith, ints, e)

-- ---- whole numbers as rationals
pub whole_nonneg : (n : ℕ) → Nonneg (whole (pos n))
whole_nonneg n = nonneg_from (omega (arith, ints))

pub naturals_le : {a b : ℕ} → a ≤ b → AtMost (whole (pos a)) (whole (pos b))
naturals_le {a} {b} l = whole_le (omega (arith, ints, l))

pub naturals_order : {a b : ℕ} → AtMost (whole (pos a)) (whole (pos b)) → a ≤ b
naturals_order {a} {b} h = let l = whole_order {a = pos a} {b = pos b} h in omega (arith, ints, l)

pub natural_sum : (a b : ℕ) → Equal (whole (pos (a + b))) (plus (whole (pos a)) (whole (pos b)))
natural_sum a b = whole_sum (pos a) (pos b)

pub natural_product : (a b : ℕ) → Equal (whole (pos (a * b))) (times (whole (pos a)) (whole (pos b)))
natural_product a b = whole_product (pos a) (pos b)

-- ---- powers
-- 2^v is 2^y units
pub power_units : (v : ℤ) (y f : ℕ) → v ≡ pos y -ℤ pos f → Equal (times (power_value v) (power f)) (power y)
power_units v y f e =
    let same : unit (neg_ℤ v) ≡ power_value v = unit_value_is (neg_ℤ v) ∙ ap power_value (neg_ℤ-neg_ℤ v) in
    subst (λ (r : Rational). Equal (times r (power f)) (power y)) same
    (unit_times (neg_ℤ v) f y (omega (arith, ints, e)))

-- ---- a factor that isn't a literal: its range is at most w and half of all values, its error at most x units
pub record IsFactor (c : Numbers) (y : ℕ) (b : Bound) (w x : Rational) : Type 0 where
  pub range : AtMost (whole (pos b.r)) (plus (times w (power c.f)) (whole (pos 1)))
  pub few : AtMost (whole (pos b.r)) (times (power (c.m - 1)) (power c.f))
  pub error : AtMost (whole (pos b.e)) x
  pub small : AtMost (plus (whole (pos b.e)) (whole (pos b.e))) (times (power (y + 3)) (power c.f))

-- what is known of an input
pub record IsRoomyInput (c : Numbers) (i : function.Input) : Type 0 where
  pub reach : AtMost (reach_of i) (power (c.m - 1))
  pub reach_nonneg : Nonneg (reach_of i)
  pub nonnegative : Nonneg i.err
  pub error : AtMost (plus i.err i.err) (power_value c.v)

-- 2^a * 2^b
pub powers : (a b : ℕ) → Equal (times (power a) (power b)) (power (a + b))
powers a b = equal_sym (power_sum a b)

-- an input's error and its reading, in units
pub input_units : (c : Numbers) (y : ℕ) (i : function.Input) → HasRoom c y → IsRoomyInput c i →
    units_up c.f i.err + 1 ≤ 2 ^ y
input_units c y i room h =
    let half : AtMost (times i.err (power c.f)) (power (y - 1)) =
    halved i.err (power c.f) (y - 1) (le_trans (times_le h.error (above_nonneg (power_above c.f)))
    (le_trans (le_of_equal (power_units c.v y c.f room.v)) (let s = room.some in
    let e : y ≡ (y - 1) + 1 = omega (arith, s) in
    le_of_equal (subst (λ (k : ℕ). Equal (power k) (power ((y - 1) + 1))) (sym e) (equal_refl _))))) in
    let few = units_least c.f i.err h.nonnegative (2 ^ (y - 1)) half in
    let s = room.some in let d = double_power (y - 1) in let p = pow_pos (y - 1) in
    let e : 2 ^ y ≡ 2 ^ ((y - 1) + 1) = ap (λ (k : ℕ). 2 ^ k) (omega (arith, s)) in
    omega (arith, few, d, p, e)
  where
    halved : (x p : Rational) (k : ℕ) → AtMost (times (plus x x) p) (power (k + 1)) → AtMost (times x p) (power k)
    halved x p k h =
        le_of_times (power_above 1)
        (le_trans (le_of_equal (by_quotes {ρ = x ∷ p ∷ []} {b = times (plus x x) p} (search quotes depth 20)
        (search quotes depth 20) refl)) (le_trans h (le_of_equal (equal_sym (powers k 1)))))

pub input_factor : (c : Numbers) (y : ℕ) (i : function.Input) → HasRoom c y → IsRoomyInput c i →
    IsFactor c y (input_bound c.f i) (reach_of i) (power y)
input_factor c y i room h =
    let e = input_units c y i room h in
    let point = room.point in let r = room.roundings in
    record {
      range = units_below c.f (reach_of i) h.reach_nonneg;
      few =
          le_trans (naturals_le (units_least c.f (reach_of i) h.reach_nonneg (2 ^ ((c.m - 1) + c.f))
          (le_trans (times_le h.reach (above_nonneg (power_above c.f))) (le_of_equal (powers (c.m - 1) c.f)))))
          (le_of_equal (equal_sym (powers (c.m - 1) c.f)));
      error = naturals_le e;
      small = le_trans (le_of_equal (equal_sym (natural_sum (units_up c.f i.err + 1) (units_up c.f i.err + 1))))
          (le_trans (naturals_le (let d = double_power y in
          let m = power_more {a = y + 1} {b = (y + 3) + c.f} (omega arith) in
          omega (arith, e, d, m))) (le_of_equal (equal_sym (powers (y + 3) c.f))));
    }

pub state_factor : (c : Numbers) (y : ℕ) → HasRoom c y →
    IsFactor c y (state_bound c) (power (c.q + 2)) (power (c.p + 4 + y))
state_factor c y room =
    let box = box_is c y room in let point = room.point in let st = room.states in
    record {
      range =
          le_trans (le_of_equal (power_sum (c.q + 2) c.f))
          (ordered (whole_nonneg 1)
          (by_quotes {ρ = times (power (c.q + 2)) (power c.f) ∷ []} (search quotes depth 20)
          (search quotes depth 20) refl));
      few =
          le_trans (naturals_le (power_more {a = c.q + 2 + c.f} {b = (c.m - 1) + c.f} (omega (arith, st))))
          (le_of_equal (equal_sym (powers (c.m - 1) c.f)));
      error = naturals_le (let e : 2 ^ error_box c ≡ 2 ^ (c.p + 4 + y) = ap (λ (k : ℕ). 2 ^ k) box in omega (arith, e));
      small = le_trans (le_of_equal (equal_sym (natural_sum (2 ^ error_box c) (2 ^ error_box c))))
          (le_trans (naturals_le (let d = double_power (error_box c) in
          let m = power_more {a = error_box c + 1} {b = (y + 3) + c.f} (omega (arith, box, point)) in
          omega (arith, d, m))) (le_of_equal (equal_sym (powers (y + 3) c.f))));
    }

-- ---- products
-- a literal of size x times such a factor
pub record IsProduct (c : Numbers) (y : ℕ) (b : Bound) (x w e : Rational) : Type 0 where
  pub range : AtMost (whole (pos b.r)) (plus (times (power c.f) (times x w)) (whole (pos (2 ^ (c.m + 1)))))
  pub error : AtMost (whole (pos b.e)) (plus (times x e) (whole (pos (2 ^ c.m + 2 ^ (y + 3)))))

module _ (c : Numbers) (y : ℕ) (room : HasRoom c y) (x : Rational) (b : Bound) (w e : Rational)
    (small : AtMost (magnitude x) (power (c.m - 1))) (factor : IsFactor c y b w e) where
  abbrev k : ℕ
  k = units_up c.f (magnitude x)

  abbrev s : ℕ
  s = shifted_up c.f (k * b.r)

  abbrev t : ℕ
  t = shifted_up c.f (k * b.e + b.r + b.e)

  literal : AtMost (whole (pos k)) (plus (times (magnitude x) (power c.f)) (whole (pos 1)))
  literal = units_below c.f (magnitude x) (magnitude_nonneg x)

  range_units : AtMost (times (whole (pos s)) (power c.f)) (plus (times (whole (pos k)) (whole (pos b.r))) (power c.f))
  range_units =
      le_trans (le_of_equal (equal_sym (natural_product s (2 ^ c.f))))
      (le_trans (naturals_le (shifted_below c.f (k * b.r)))
      (le_of_equal (equal_trans (natural_sum (k * b.r) (2 ^ c.f))
      (plus_same (natural_product k b.r) (equal_refl (power c.f))))))

  error_units : AtMost (times (whole (pos t)) (power c.f))
      (plus (plus (plus (times (whole (pos k)) (whole (pos b.e))) (whole (pos b.r))) (whole (pos b.e))) (power c.f))
  error_units =
      le_trans (le_of_equal (equal_sym (natural_product t (2 ^ c.f))))
      (le_trans (naturals_le (shifted_below c.f (k * b.e + b.r + b.e)))
      (le_of_equal (equal_trans (natural_sum (k * b.e + b.r + b.e) (2 ^ c.f))
      (plus_same (equal_trans (natural_sum (k * b.e + b.r) b.e)
      (plus_same (equal_trans (natural_sum (k * b.e) b.r) (plus_same (natural_product k b.e) (equal_refl _)))
      (equal_refl _))) (equal_refl _)))))

  room_range : AtMost (plus (plus (power (c.m - 1)) (power (c.m - 1))) (whole (pos 1))) (whole (pos (2 ^ (c.m + 1))))
  room_range =
      le_trans (le_of_equal (equal_sym
      (equal_trans (natural_sum (2 ^ (c.m - 1) + 2 ^ (c.m - 1)) 1)
      (plus_same (natural_sum (2 ^ (c.m - 1)) (2 ^ (c.m - 1))) (equal_refl _)))))
      (naturals_le (let d = double_power (c.m - 1) in let st = room.states in
      let m = power_more {a = c.m - 1} {b = c.m} (omega arith) in
      let q : 2 ^ ((c.m - 1) + 1) ≡ 2 ^ c.m = ap (λ (j : ℕ). 2 ^ j) (omega (arith, st)) in
      let dd = double_power c.m in
      let p = pow_pos c.m in
      omega (arith, d, q, dd, p)))

  room_error : AtMost (plus (plus (plus (power (c.m - 1)) (power (y + 3))) (whole (pos 1))) (whole (pos 1)))
      (whole (pos (2 ^ c.m + 2 ^ (y + 3))))
  room_error =
      le_trans (le_of_equal (equal_sym
      (equal_trans (natural_sum (2 ^ (c.m - 1) + 2 ^ (y + 3) + 1) 1)
      (plus_same (equal_trans (natural_sum (2 ^ (c.m - 1) + 2 ^ (y + 3)) 1)
      (plus_same (natural_sum (2 ^ (c.m - 1)) (2 ^ (y + 3))) (equal_refl _))) (equal_refl _)))))
      (naturals_le (let d = double_power (c.m - 1) in let st = room.states in
      let q : 2 ^ ((c.m - 1) + 1) ≡ 2 ^ c.m = ap (λ (j : ℕ). 2 ^ j) (omega (arith, st)) in
      let m = power_more {a = 1} {b = c.m - 1} (omega (arith, st)) in
      omega (arith, d, q, m)))

  product_is : IsProduct c y (record { r = s; e = t + 1 }) (magnitude x) w e
  product_is = record {
    range =
        le_trans (product_range_bound (whole (pos s)) (whole (pos k)) (whole (pos b.r)) (power c.f) (magnitude x) w
        (power (c.m - 1)) (power_above c.f) (whole_nonneg b.r)
        (magnitude_nonneg x) range_units literal factor.range factor.few small)
        (plus_le (le_refl _) room_range);
    error =
        le_trans (le_of_equal (natural_sum t 1))
        (le_trans (plus_le (product_error_bound (whole (pos t)) (whole (pos k)) (whole (pos b.r)) (whole (pos b.e))
        (power c.f) (magnitude x) e (power (c.m - 1)) (power (y + 3)) (power_above c.f) (whole_nonneg b.e)
        (magnitude_nonneg x) error_units literal factor.error factor.few factor.small) (le_refl (whole (pos 1))))
        (ordered (gap room_error)
        (by_quotes {ρ = times (magnitude x) e ∷ power (c.m - 1) ∷ power (y + 3)
        ∷ whole (pos (2 ^ c.m + 2 ^ (y + 3))) ∷ []} (search quotes depth 20) (search quotes depth 20) refl)));
  }

  pub left_product : IsProduct c y (product_bound c.f (const_bound c.f x) b) (magnitude x) w e
  left_product =
      subst (λ (n : ℕ). IsProduct c y (record { r = s; e = shifted_up c.f n + 1 }) (magnitude x) w e)
      (ordered_parts k b.r b.e) product_is
    where
      ordered_parts : (k r e : ℕ) → k * e + r + e ≡ k * e + r * 1 + 1 * e
      ordered_parts k r e = omega arith

  pub right_product : IsProduct c y (product_bound c.f b (const_bound c.f x)) (magnitude x) w e
  right_product =
      subst (λ (n : ℕ). IsProduct c y (record {
        r = shifted_up c.f n;
        e = shifted_up c.f (b.r * 1 + k * b.e + b.e * 1) + 1;
      }) (magnitude x) w e) (mul_comm k b.r)
      (subst (λ (n : ℕ). IsProduct c y (record { r = s; e = shifted_up c.f n + 1 }) (magnitude x) w e)
      (ordered_parts k b.r b.e) product_is)
    where
      ordered_parts : (k r e : ℕ) → k * e + r + e ≡ r * 1 + k * e + e * 1
      ordered_parts k r e = omega arith
