-- No condition of a node has a fault, where all bounds are limited.
use Rattle.std.proofs.Common.{◌≡◌, ℕ, ◌+◌, ◌-◌, ◌*◌, ◌^◌, ◌<◌, ◌≤◌, [], ◌∷◌, pos, sym, ap, subst, arith, pow-add}
use Rattle.std.proofs.lemmas.Nat.{mul-le}
use Rattle.fx_rational.specs.Rational.{Rational, negative, scaled, floor, times, whole, AtMost}
use Rattle.fx_rational.proofs.Laws.{le_trans, le_of_equal, equal_sym, times_le}
use Rattle.fx_rational.proofs.Quotient.{above_nonneg}
use Rattle.fx_rational.proofs.Powers.{power, power_above, unit_above}
use Rattle.fx_model.specs.Function as function
use Rattle.fx_model.specs.Machine.{Round}
use Rattle.fx_inequalities.specs.Formula.{Sum, Difference, Span, span, zero_span, span_sum, span_difference, span_product, roundoff_at, unit_at, word_at}
use Rattle.fx_inequalities.specs.Claim.{BelowFraction, AboveFraction, inside}
use Rattle.fx_inequalities.specs.OperationSpans.{product_error}
use Rattle.fx_plan_laws.specs.Narrow.{IsNarrowNumber, IsNarrowInput}
use Rattle.fx_plan_laws.specs.Powers.{magnitude}
use Rattle.fx_plan_laws.proofs.Claims.{AreMet, below_above_met, over_fits, narrow_negative}
use Rattle.fx_plan_laws.proofs.Powers.{power_more}
use Rattle.fx_plan_laws.proofs.Sizes.{IsSmall, IsSmallSpan, AddsSizes, small_sum, small_difference, span_sums, span_differences, span_products, zero_interval_small}
use Rattle.fx_plan_laws.proofs.Values.{magnitude_nonneg, greater_left, greater_right}
use Rattle.fx_plan_laws.proofs.Words.{small_word_at}
use Rattle.fx_plan_laws.specs.Bounds.{units_up, shifted_up, const_bound}
use Rattle.fx_plan_laws.specs.Calm.{Numbers, reach_of}
use Rattle.fx_plan_laws.proofs.Factors.{IsRoomyInput, naturals_le}
use Rattle.fx_plan_laws.proofs.Rounded.{units_above, shifted_above}
use Rattle.fx_plan_laws.specs.CalmPlan.{units}
use Rattle.fx_plan_laws.proofs.Flattened.{IsLimited}
use Rattle.fx_plan_laws.proofs.Units.{small_units, inside_units, inside_units_at, small_unit, small_rounding}
use Rattle.fx_plan_laws.proofs.PlanValues.{below_end, above_end, error_end, word_up_to, word_low, word_high, units_value, to_units}

-- words of n bits hold 2^(m + f) four times
pub record IsSpacious (n : ℕ) (c : Numbers) : Type 0 where
  pub width : c.m + c.f + 3 ≡ n
  pub most : c.m + c.f ≤ 61
  pub point : c.f ≤ 58
  pub some : 1 ≤ c.f

-- ---- operations
-- the bounds a and b of operands are limited, and so is that of the result
module _ (n : ℕ) (c : Numbers) (space : IsSpacious n c) where
  pub limit_few : 2 ^ (c.m + c.f) ≤ 2 ^ 61
  limit_few = let m = space.most in power_more {a = c.m + c.f} {b = 61} m

  few : {r : ℕ} → r ≤ 2 ^ (c.m + c.f) → r < 2 ^ 127
  few l = let m = limit_few in omega (arith, l, m)

  pub same_inside : (r : ℕ) → r ≤ 2 ^ (c.m + c.f) → AreMet (inside (span (units c.f r)) (span (units c.f r)))
  same_inside r l = inside_units r (span (units c.f r)) (few l) (omega arith) (small_units c.f r (few l))

  pub turned_inside : (r : ℕ) → r ≤ 2 ^ (c.m + c.f) →
      AreMet (inside (span_difference zero_span (span (units c.f r))) (span (units c.f r)))
  turned_inside r l =
      let s = few l in
      inside_units {m = 0 + r} r (span_difference zero_span (span (units c.f r))) s (omega arith)
      (span_differences (omega (arith, s)) (zero_interval_small c.f 0 (omega arith)) (small_units c.f r s))

  pub copied_inside : (e : ℕ) → e ≤ 2 ^ (c.m + c.f) →
      AreMet (inside (span_sum (span (units c.f e)) (roundoff_at (pos c.f) (pos 0))) (span (units c.f e)))
  copied_inside e l =
      let s = few l in
      inside_units {m = e + 0} e (span_sum (span (units c.f e)) zero_span) s (omega arith)
      (span_sums (omega (arith, s)) (small_units c.f e s) (zero_interval_small c.f 0 (omega arith)))

  left_few : (a b : ℕ) → a + b ≤ 2 ^ (c.m + c.f) → a ≤ 2 ^ (c.m + c.f)
  left_few a b l = omega (arith, l)

  right_few : (a b : ℕ) → a + b ≤ 2 ^ (c.m + c.f) → b ≤ 2 ^ (c.m + c.f)
  right_few a b l = omega (arith, l)

  -- a sum or a difference
  both_small : (op : Span → Span → Span) → AddsSizes op → (a b : ℕ) → a + b ≤ 2 ^ (c.m + c.f) →
      IsSmallSpan c.f (a + b) (op (span (units c.f a)) (span (units c.f b)))
  both_small op adds a b l =
      adds c.f a b (span (units c.f a)) (span (units c.f b)) (few l) (small_units c.f a (few (left_few a b l)))
      (small_units c.f b (few (right_few a b l)))

  pub added_inside : (op : Span → Span → Span) → AddsSizes op → (a b : ℕ) → a + b ≤ 2 ^ (c.m + c.f) →
      AreMet (inside (op (span (units c.f a)) (span (units c.f b))) (span (units c.f (a + b))))
  added_inside op adds a b l =
      inside_units {m = a + b} (a + b) _ (few l) (omega arith) (both_small op adds a b l)

  pub added_error_inside : (op : Span → Span → Span) → AddsSizes op → (a b : ℕ) → a + b ≤ 2 ^ (c.m + c.f) →
      AreMet (inside (op
      (span_sum (op (span (units c.f a)) (span (units c.f b))) (roundoff_at (pos c.f) (pos 0)))
      (roundoff_at (pos c.f) (pos 0))) (span (units c.f (a + b))))
  added_error_inside op adds a b l = let s = few l in
      inside_units {m = a + b + 0 + 0} (a + b) _ s (omega arith)
      (adds c.f (a + b + 0) 0 _ _ (omega (arith, s))
      (span_sums (omega (arith, s)) (both_small op adds a b l) (zero_interval_small c.f 0 (omega arith)))
      (zero_interval_small c.f 0 (omega arith)))

  -- ---- products
  product_few : (a b : ℕ) → a ≤ 2 ^ (c.m + c.f) → b ≤ 2 ^ (c.m + c.f) → a * b ≤ 2 ^ 122
  product_few a b p q =
      let l = limit_few in
      let m = mul-le a b (2 ^ 61) (2 ^ 61) (omega (arith, p, l)) (omega (arith, q, l)) in
      let e = pow-add 2 61 61 in
      omega (arith, m, e)

  fewer : {r : ℕ} → r ≤ 2 ^ 122 → r < 2 ^ 127
  fewer l = omega (arith, l)

  twice_few : c.f + c.f ≤ 126
  twice_few = let p = space.point in omega (arith, p)

  twice_less : (f : ℕ) → (f + f) - f ≡ f
  twice_less f = omega arith

  pub product_inside : (a b : ℕ) → a ≤ 2 ^ (c.m + c.f) → b ≤ 2 ^ (c.m + c.f) →
      shifted_up c.f (a * b) ≤ 2 ^ (c.m + c.f) →
      AreMet (inside (span_product (span (units c.f a)) (span (units c.f b)))
      (span (units c.f (shifted_up c.f (a * b)))))
  product_inside a b p q l =
      let s = shifted_above c.f (a * b) in let e = twice_less c.f in
      inside_units_at {E = c.f + c.f} {m = a * b} (shifted_up c.f (a * b)) _ (omega arith) (few l)
      (subst (λ (k : ℕ). a * b ≤ shifted_up c.f (a * b) * 2 ^ k) (sym e) s)
      (span_products (fewer (product_few a b p q)) (small_units c.f a (few p)) (small_units c.f b (few q)))

  pub product_error_inside : (r : Round) (ra rb ea eb : ℕ) → ra ≤ 2 ^ (c.m + c.f) → rb ≤ 2 ^ (c.m + c.f) →
      ea ≤ 2 ^ (c.m + c.f) → eb ≤ 2 ^ (c.m + c.f) → shifted_up c.f (ra * eb + rb * ea + ea * eb) + 1 ≤ 2 ^ (c.m + c.f) →
      AreMet (inside (product_error r (pos c.f) c.f (span (units c.f ra)) (span (units c.f rb)) (span (units c.f ea))
      (span (units c.f eb)))
      (span (units c.f (shifted_up c.f (ra * eb + rb * ea + ea * eb) + 1))))
  product_error_inside r ra rb ea eb pa pb qa qb l =
      let x = ra * eb + rb * ea + ea * eb in
      let s = shifted_above c.f x in let e = twice_less c.f in let some = space.some in
      let one = product_few ra eb pa qb in let two = product_few rb ea pb qa in let three = product_few ea eb qa qb in
      let u = power_more {a = (c.f + c.f) - c.f} {b = 61} (let h = space.point in omega (arith, h)) in
      let up : (shifted_up c.f x + 1) * 2 ^ c.f ≡ shifted_up c.f x * 2 ^ c.f + 2 ^ c.f = omega arith in
      let unit : 2 ^ ((c.f + c.f) - c.f) ≡ 2 ^ c.f = ap (λ (k : ℕ). 2 ^ k) e in
      inside_units_at {E = c.f + c.f} {m = x + 2 ^ ((c.f + c.f) - c.f)} (shifted_up c.f x + 1) _ (omega arith) (few l)
      (subst (λ (k : ℕ). x + 2 ^ ((c.f + c.f) - c.f) ≤ (shifted_up c.f x + 1) * k) (sym unit)
      (omega (arith, s, up, unit)))
      (span_sums (omega (arith, one, two, three, u))
      (span_sums (omega (arith, one, two, three))
      (span_sums (omega (arith, one, two))
      (span_products (fewer one) (small_units c.f ra (few pa)) (small_units c.f eb (few qb)))
      (span_products (fewer two) (small_units c.f rb (few pb)) (small_units c.f ea (few qa)))) (span_products
      (fewer three) (small_units c.f ea (few qa)) (small_units c.f eb (few qb))))
      (small_rounding r c.f (c.f + c.f) c.f (omega (arith, some)) twice_few))

  -- ---- literals and inputs
  narrow_few : {r : ℕ} → r ≤ 2 ^ (c.m + c.f) → r ≤ 2 ^ 62
  narrow_few l = let m = limit_few in omega (arith, l, m)

  pub ends_met : (r : ℕ) (x z : Rational) → r ≤ 2 ^ (c.m + c.f) → IsNarrowNumber x → IsNarrowNumber z →
      AtMost (times (magnitude x) (power c.f)) (whole (pos r)) →
      AtMost (times (magnitude z) (power c.f)) (whole (pos r)) →
      AreMet (BelowFraction (span (units c.f r)).lo x ∷ AboveFraction z (span (units c.f r)).hi ∷ [])
  ends_met r x z l nx nz hx hz =
      let small = small_units c.f r (few l) in
      below_above_met (span (units c.f r)).lo (span (units c.f r)).hi x z (over_fits x (narrow_few l) small.lo nx)
      (over_fits z (narrow_few l) small.hi nz) (below_end x r c.f hx) (above_end z r c.f hz)

  pub const_range : (x : Rational) → IsNarrowNumber x → IsLimited c (const_bound c.f x) →
      AreMet (BelowFraction (span (units c.f (units_up c.f (magnitude x)))).lo x
      ∷ AboveFraction x (span (units c.f (units_up c.f (magnitude x)))).hi ∷ [])
  const_range x narrow l =
      let h = units_above c.f (magnitude x) (magnitude_nonneg x) in
      ends_met (units_up c.f (magnitude x)) x x l.r narrow narrow h h

  pub input_range : (i : function.Input) → IsNarrowInput i → IsRoomyInput c i →
      units_up c.f (reach_of i) ≤ 2 ^ (c.m + c.f) →
      AreMet (BelowFraction (span (units c.f (units_up c.f (reach_of i)))).lo i.lo
      ∷ AboveFraction i.hi (span (units c.f (units_up c.f (reach_of i)))).hi ∷ [])
  input_range i narrow h l =
      let p = above_nonneg (power_above c.f) in let a = units_above c.f (reach_of i) h.reach_nonneg in
      ends_met (units_up c.f (reach_of i)) i.lo i.hi l narrow.lo narrow.hi
      (le_trans (times_le (greater_left (magnitude i.lo) (magnitude i.hi)) p) a)
      (le_trans (times_le (greater_right (magnitude i.lo) (magnitude i.hi)) p) a)

  pub input_error : (i : function.Input) → IsNarrowInput i → IsRoomyInput c i →
      units_up c.f i.err + 1 ≤ 2 ^ (c.m + c.f) →
      AreMet (BelowFraction (Sum (span (units c.f (units_up c.f i.err + 1))).lo (unit_at (pos c.f))) (negative i.err)
      ∷ AboveFraction i.err (span (units c.f (units_up c.f i.err + 1))).hi ∷ [])
  input_error i narrow h l =
      let r = units_up c.f i.err in let a = units_above c.f i.err h.nonnegative in
      let small = small_units c.f (r + 1) (few l) in let lf = limit_few in
      let z : c.f - c.f ≡ 0 = omega arith in
      let one : IsSmall c.f 1 (unit_at (pos c.f)) =
      subst (λ (k : ℕ). IsSmall c.f (2 ^ k) (unit_at (pos c.f))) z
      (small_unit c.f c.f (omega arith) (let q = space.point in omega (arith, q))) in
      let s = small_sum (omega (arith, l, lf)) small.lo one in
      below_above_met (Sum (span (units c.f (r + 1))).lo (unit_at (pos c.f))) (span (units c.f (r + 1))).hi
      (negative i.err) i.err
      (over_fits (negative i.err) (omega (arith, l, lf)) s (narrow_negative i.err narrow.err))
      (over_fits i.err (narrow_few l) small.hi narrow.err) (error_end i.err r c.f a)
      (le_trans (to_units i.err r c.f a)
      (le_trans (times_le (naturals_le (let t : r ≤ r + 1 = omega arith in
      t)) (above_nonneg (unit_above (pos c.f)))) (le_of_equal (equal_sym (units_value (pos (r + 1)) c.f)))))

  pub const_error : (x : Rational) → IsNarrowNumber x → IsLimited c (const_bound c.f x) →
      (let w = floor (scaled x (pos c.f)) in
      AreMet (BelowFraction (Difference (word_at w (pos c.f)) (span (units c.f 1)).hi) x
      ∷ AboveFraction x (Difference (word_at w (pos c.f)) (span (units c.f 1)).lo) ∷ []))
  const_error x narrow l =
      let w = floor (scaled x (pos c.f)) in let r = units_up c.f (magnitude x) in
      let lr = l.r in let lf = limit_few in
      let word =
      small_word_at w c.f r (few l.r) (word_up_to x r c.f (units_above c.f (magnitude x) (magnitude_nonneg x))) in
      let one = small_units c.f 1 (omega arith) in
      below_above_met (Difference (word_at w (pos c.f)) (span (units c.f 1)).hi)
      (Difference (word_at w (pos c.f)) (span (units c.f 1)).lo) x x
      (over_fits x (omega (arith, lr, lf)) (small_difference (omega (arith, lr, lf)) word one.hi) narrow)
      (over_fits x (omega (arith, lr, lf)) (small_difference (omega (arith, lr, lf)) word one.lo) narrow)
      (word_low x c.f) (word_high x c.f)
