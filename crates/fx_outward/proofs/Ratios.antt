-- Quotients of short dyadics, and fractions, on a grid.
use Rattle.std.proofs.Common.{◌≡◌, ℕ, zero, suc, pred, ◌+◌, ◌-◌, ◌*◌, ◌^◌, ◌<◌, Bool, true, false, ◌&&◌, if◌then◌else◌, Option, Some, [], ◌∷◌, ℤ, pos, negsuc, ◌*ℤ◌, ◌<ℤ◌, refl, sym, ap, ap₂, subst, ◌∙◌, arith, pow_pos}
use Rattle.std.specs.Prelude.{unsigned_abs}
use Rattle.std.specs.List.{list_all}
use Rattle.std.proofs.lemmas.Int.{ints, unsigned_abs-mul}
use Rattle.std.proofs.lemmas.Nat.{mul-le}
use Rattle.std.proofs.Math.Nat.{mul-pos}
use Rattle.fx_rational.specs.Rational.{Rational, bottom, over, scaled, floor_div, ceil_div, lowest, Equal, AtMost, is_at_most, above_zero}
use Rattle.fx_rational.specs.Dyadic.{Dyadic, dyadic_value, fits_128, is_dyadic_at_most, least, greatest, product_fits}
use Rattle.fx_rational.specs.Interval.{Interval}
use Rattle.fx_rational.proofs.Dyadics.{raised, power_bottom}
use Rattle.fx_rational.proofs.Lowest.{lowest_is, suc_pred}
use Rattle.fx_rational.proofs.Laws.{equal_refl, equal_sym, equal_trans, times_same, le_trans, le_of_equal, le_antisym}
use Rattle.fx_rational.proofs.Tests.{at_most_true, at_most_false, at_most_test}
use Rattle.fx_rational.proofs.Quotient.{Above, above_more, times_cancel}
use Rattle.fx_inequalities.specs.Formula.{Formula, Num, Span, span, formula_value, formed, formula_fits}
use Rattle.fx_inequalities.specs.Claim.{BelowFraction, AboveFraction, fits}
use Rattle.fx_inequalities.specs.NodeConditions.{positive_quotient_claims}
use Rattle.fx_inequalities.proofs.Formed.{formed_is}
use Rattle.fx_bounds.proofs.Claims.{both_left, both_right}
use Rattle.fx_outward.specs.Grid.{lowest_dyadic, grid_down, grid_up, is_small}
use Rattle.fx_outward.specs.Narrow.{ratio, lesser_value, greater_value, positive_bounds, narrow, narrowest}
use Rattle.fx_formulas.specs.Judging.{FormsSpan}
use Rattle.fx_outward.specs.Narrowed.{IsIfSmall, answer_of}
use Rattle.fx_outward.proofs.Quotients.{ratio_back}
use Rattle.fx_outward.proofs.Grids.{grid_down_is, grid_up_is}
use Rattle.fx_outward.proofs.Spelling.{same_spelling, down_same, up_same}
use Rattle.fx_outward.proofs.Settled.{end_fits, kept_answer}
use Rattle.fx_outward.proofs.Lefts.{small_fits}
use Rattle.fx_outward.proofs.Shorts.{short_small}

-- ---- the lesser and the greater of two, first or last rounded
-- a choice by rounded numbers is the one by the numbers themselves, where the tests agree or it makes no difference
rounded_choice : (round : Rational → Dyadic) (x y : Rational) (s t : Bool) → (s ≡ true → t ≡ true) →
    (s ≡ false → t ≡ true → round x ≡ round y) → (if t then round x else round y) ≡ round (if s then x else y)
rounded_choice round x y true true p q = refl
rounded_choice round x y true false p q = absurd (let e = p refl in cc)
rounded_choice round x y false true p q = q refl refl
rounded_choice round x y false false p q = refl

pub down_lesser : (e : ℕ) (x y : Rational) → least (grid_down e x) (grid_down e y) ≡ grid_down e (lesser_value x y)
unfolding least
down_lesser e x y =
    rounded_choice (grid_down e) x y (is_at_most x y) (is_dyadic_at_most (grid_down e x) (grid_down e y))
    (λ p. (at_most_test (dyadic_value (grid_down e x)) (dyadic_value (grid_down e y))).1
    (more x y (at_most_true x y p)))
    (λ p q. same_spelling (grid_down e x) (grid_down e y) (le_antisym (at_most_true _ _ q)
    (more y x (at_most_false x y p))) (grid_down_is e x).lowest (grid_down_is e y).lowest)
  where
    more : (u v : Rational) → AtMost u v → AtMost (dyadic_value (grid_down e u)) (dyadic_value (grid_down e v))
    more u v l = let g = grid_down_is e u in (grid_down_is e v).greatest (grid_down e u) g.places (le_trans g.below l)

pub up_greater : (e : ℕ) (x y : Rational) → greatest (grid_up e x) (grid_up e y) ≡ grid_up e (greater_value x y)
unfolding greatest
up_greater e x y =
    rounded_choice (grid_up e) x y (is_at_most y x) (is_dyadic_at_most (grid_up e y) (grid_up e x))
    (λ p. (at_most_test (dyadic_value (grid_up e y)) (dyadic_value (grid_up e x))).1 (more y x (at_most_true y x p)))
    (λ p q. same_spelling (grid_up e x) (grid_up e y) (le_antisym (more x y (at_most_false y x p))
    (at_most_true _ _ q)) (grid_up_is e x).lowest (grid_up_is e y).lowest)
  where
    more : (u v : Rational) → AtMost u v → AtMost (dyadic_value (grid_up e u)) (dyadic_value (grid_up e v))
    more u v l = let g = grid_up_is e v in (grid_up_is e u).least (grid_up e v) g.places (le_trans l g.above)

-- ---- fractions
product_small : (m : ℤ) (q : ℕ) → unsigned_abs m < 2 ^ 62 → q < 2 ^ 62 → fits_128 (m *ℤ pos q) ≡ true
product_small m q h l =
    let e = unsigned_abs-mul m (pos q) in
    let p = mul-le (unsigned_abs m) q (2 ^ 62 - 1) (2 ^ 62 - 1) (omega (arith, h)) (omega (arith, l)) in
    small_fits (m *ℤ pos q) (omega (arith, e, p))

fractions_fit : (x y : Rational) (g : Interval) → bottom (lowest x) < 2 ^ 62 → bottom (lowest y) < 2 ^ 62 →
    is_small g.lo ≡ true → is_small g.hi ≡ true →
    list_all fits (BelowFraction (Num g.lo) x ∷ AboveFraction y (Num g.hi) ∷ []) ≡ true
unfolding formula_fits formed
fractions_fit x y g nx ny lo hi =
    let a = end_fits g.lo lo in let b = end_fits g.hi hi in
    let c = product_small g.lo.m (bottom (lowest x)) (short_small g.lo lo) nx in
    let d = product_small g.hi.m (bottom (lowest y)) (short_small g.hi hi) ny in
    rw (a, b, c, d) refl

pub fraction_answer : (o : Option Interval) (e : ℕ) (lo hi x y : Rational) → lo ≡ lowest x → hi ≡ lowest y →
    bottom lo < 2 ^ 62 → bottom hi < 2 ^ 62 → IsIfSmall o (record { lo = grid_down e lo; hi = grid_up e hi }) →
    answer_of o ≡ narrowest e (record { lo = x; hi = y })
    (λ g. BelowFraction (Num g.lo) x ∷ AboveFraction y (Num g.hi) ∷ [])
fraction_answer o e lo hi x y p q nl nh k =
    let down : grid_down e lo ≡ grid_down e x = ap (grid_down e) p ∙ down_same e (lowest x) x (lowest_is.same x) in
    let up : grid_up e hi ≡ grid_up e y = ap (grid_up e) q ∙ up_same e (lowest y) y (lowest_is.same y) in
    let same : Path Interval (record { lo = grid_down e lo; hi = grid_up e hi })
    (narrow e (record { lo = x; hi = y })) = (λ i. record { lo = down i; hi = up i }) in
    kept_answer o e (record { lo = x; hi = y }) (λ g. BelowFraction (Num g.lo) x ∷ AboveFraction y (Num g.hi) ∷ [])
    (subst (IsIfSmall o) same k)
    (λ s t. fractions_fit x y (narrow e (record { lo = x; hi = y })) (subst (λ (r : Rational). bottom r < 2 ^ 62) p nl)
    (subst (λ (r : Rational). bottom r < 2 ^ 62) q nh) s t)

-- ---- ratios
ratio_top : (a b : Dyadic) → (a.m *ℤ pos (suc (pred (2 ^ b.e)))) *ℤ pos (2 ^ 24) ≡ a.m *ℤ pos (2 ^ (24 + b.e))
ratio_top a b = ap (λ (k : ℕ). (a.m *ℤ pos k) *ℤ pos (2 ^ 24)) (power_bottom b.e) ∙ sym (raised a.m 24 b.e)

ratio_bottom : (a b : Dyadic) → 0 < unsigned_abs b.m →
    suc (pred (suc (pred (2 ^ a.e)) * unsigned_abs b.m)) ≡ unsigned_abs (b.m *ℤ pos (2 ^ a.e))
ratio_bottom a b h =
    suc_pred (suc (pred (2 ^ a.e)) * unsigned_abs b.m)
    (mul-pos {m = suc (pred (2 ^ a.e))} {n = unsigned_abs b.m} (omega arith) h)
    ∙ ap (λ (k : ℕ). k * unsigned_abs b.m) (power_bottom a.e)
    ∙ (let e : 2 ^ a.e * unsigned_abs b.m ≡ unsigned_abs b.m * 2 ^ a.e = omega arith in e)
    ∙ sym (unsigned_abs-mul b.m (pos (2 ^ a.e)))

pub ratio_down_is : (a b : Dyadic) → 0 < unsigned_abs b.m →
    lowest_dyadic (floor_div (a.m *ℤ pos (2 ^ (24 + b.e))) (unsigned_abs (b.m *ℤ pos (2 ^ a.e)))) 24
    ≡ grid_down 24 (ratio (dyadic_value a) (dyadic_value b))
unfolding grid_down scaled ratio dyadic_value over
ratio_down_is a b h =
    sym (ap₂ (λ (z : ℤ) (q : ℕ). lowest_dyadic (floor_div z q) 24) (ratio_top a b) (ratio_bottom a b h))

pub ratio_up_is : (a b : Dyadic) → 0 < unsigned_abs b.m →
    lowest_dyadic (ceil_div (a.m *ℤ pos (2 ^ (24 + b.e))) (unsigned_abs (b.m *ℤ pos (2 ^ a.e)))) 24
    ≡ grid_up 24 (ratio (dyadic_value a) (dyadic_value b))
unfolding grid_up scaled ratio dyadic_value over
ratio_up_is a b h = sym (ap₂ (λ (z : ℤ) (q : ℕ). lowest_dyadic (ceil_div z q) 24) (ratio_top a b) (ratio_bottom a b h))

positive_some : (m : ℤ) → above_zero m ≡ true → 0 < unsigned_abs m
positive_some (pos zero) h = absurd cc
positive_some (pos (suc n)) h = omega arith
positive_some (negsuc n) h = absurd cc

pub bottom_some : (b : Dyadic) (e : ℕ) → above_zero b.m ≡ true →
    (0 < unsigned_abs b.m) × (0 < unsigned_abs (b.m *ℤ pos (2 ^ e)))
bottom_some b e h =
    let p = positive_some b.m h in
    let q = mul-pos {m = unsigned_abs b.m} {n = 2 ^ e} p (pow_pos e) in
    let a = unsigned_abs-mul b.m (pos (2 ^ e)) in
    (p, omega (arith, q, a))

-- of equal numbers
pub ratio_same : (p q u v : Rational) → Above q → Equal p u → Equal q v → Equal (ratio p q) (ratio u v)
ratio_same p q u v above e f =
    let more : Above v = above_more above (le_of_equal f) in
    times_cancel more (equal_trans (times_same (equal_refl (ratio p q)) (equal_sym f))
    (equal_trans (ratio_back p q above) (equal_trans e (equal_sym (ratio_back u v more)))))

-- ---- a quotient of intervals
-- a dyadic above zero
pub above_value : (d : Dyadic) → above_zero d.m ≡ true → Above (dyadic_value d)
unfolding dyadic_value over
above_value d h = record { top = go d.m h }
  where
    go : (n : ℤ) → above_zero n ≡ true → pos 0 <ℤ n
    go (pos zero) e = absurd cc
    go (pos (suc n)) e = omega (arith, ints)
    go (negsuc n) e = absurd cc

pub forms_value : (d : Dyadic) (f : Formula) → d ≡ formed f → Equal (dyadic_value d) (formula_value f)
forms_value d f e = subst (λ (x : Dyadic). Equal (dyadic_value x) (formula_value f)) (sym e) (formed_is f)

four_fit : (s t : Span) (g : Interval) → (formula_fits s.lo && formula_fits s.hi) ≡ true →
    (formula_fits t.lo && formula_fits t.hi) ≡ true → is_small g.lo ≡ true → is_small g.hi ≡ true →
    is_small (formed t.lo) ≡ true → is_small (formed t.hi) ≡ true →
    list_all fits (positive_quotient_claims s t (span g)) ≡ true
unfolding formula_fits formed product_fits
four_fit s t g fs ft lo hi tl th =
    let a = end_fits g.lo lo in let b = end_fits g.hi hi in
    let sl = both_left (formula_fits s.lo) (formula_fits s.hi) fs in
    let sh = both_right (formula_fits s.lo) (formula_fits s.hi) fs in
    let ul = both_left (formula_fits t.lo) (formula_fits t.hi) ft in
    let uh = both_right (formula_fits t.lo) (formula_fits t.hi) ft in
    let p = products g.lo (formed t.lo) lo tl in let q = products g.lo (formed t.hi) lo th in
    let r = products g.hi (formed t.lo) hi tl in let w = products g.hi (formed t.hi) hi th in
    rw (a, b, sl, sh, ul, uh, p, q, r, w) refl
  where
    products : (d e : Dyadic) → is_small d ≡ true → is_small e ≡ true → fits_128 (d.m *ℤ e.m) ≡ true
    products d e h k =
        let l = short_small d h in let n = short_small e k in
        let a = unsigned_abs-mul d.m e.m in
        let p =
        mul-le (unsigned_abs d.m) (unsigned_abs e.m) (2 ^ 62 - 1) (2 ^ 62 - 1) (omega (arith, l))
        (omega (arith, n)) in
        small_fits (d.m *ℤ e.m) (omega (arith, a, p))

pub quotient_answer : (o : Option Interval) (a b : Interval) (s t : Span) → above_zero b.lo.m ≡ true →
    above_zero b.hi.m ≡ true → is_small b.lo ≡ true → is_small b.hi ≡ true → FormsSpan (Some a) s →
    FormsSpan (Some b) t →
    IsIfSmall o (record {
      lo =
          least (grid_down 24 (ratio (dyadic_value a.lo) (dyadic_value b.lo)))
          (grid_down 24 (ratio (dyadic_value a.lo) (dyadic_value b.hi)));
      hi =
          greatest (grid_up 24 (ratio (dyadic_value a.hi) (dyadic_value b.lo)))
          (grid_up 24 (ratio (dyadic_value a.hi) (dyadic_value b.hi)));
    }) →
    answer_of o ≡ narrowest 24 (positive_bounds s t) (λ g. positive_quotient_claims s t (span g))
quotient_answer o a b s t bl bh sl sh fa fb k =
    let al = forms_value a.lo s.lo (ap (λ (i : Interval). i.lo) fa.1) in
    let ah = forms_value a.hi s.hi (ap (λ (i : Interval). i.hi) fa.1) in
    let tl = forms_value b.lo t.lo (ap (λ (i : Interval). i.lo) fb.1) in
    let th = forms_value b.hi t.hi (ap (λ (i : Interval). i.hi) fb.1) in
    let above_lo = above_value b.lo bl in let above_hi = above_value b.hi bh in
    let ll = down_same 24 _ _ (ratio_same _ _ _ _ above_lo al tl) in
    let lh = down_same 24 _ _ (ratio_same _ _ _ _ above_hi al th) in
    let hl = up_same 24 _ _ (ratio_same _ _ _ _ above_lo ah tl) in
    let hh = up_same 24 _ _ (ratio_same _ _ _ _ above_hi ah th) in
    let lo = ap₂ least ll lh
    ∙ down_lesser 24 (ratio (formula_value s.lo) (formula_value t.lo))
    (ratio (formula_value s.lo) (formula_value t.hi)) in
    let hi = ap₂ greatest hl hh
    ∙ up_greater 24 (ratio (formula_value s.hi) (formula_value t.lo))
    (ratio (formula_value s.hi) (formula_value t.hi)) in
    let short_lo = ap (λ (i : Interval). is_small i.lo) (sym fb.1) ∙ sl in
    let short_hi = ap (λ (i : Interval). is_small i.hi) (sym fb.1) ∙ sh in
    kept_answer o 24 (positive_bounds s t) (λ g. positive_quotient_claims s t (span g))
    (subst (IsIfSmall o) (λ i. record { lo = lo i; hi = hi i }) k)
    (λ x y. four_fit s t (narrow 24 (positive_bounds s t)) fa.0 fb.0 x y short_lo short_hi)
