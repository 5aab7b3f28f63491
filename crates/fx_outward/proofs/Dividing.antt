-- The error of a quotient: its ends, and its answer at each sign of the divisor.
use Rattle.std.proofs.Common.{◌≡◌, ℕ, suc, pred, ◌+◌, ◌*◌, ◌^◌, ◌<◌, ◌≤◌, ltb, Bool, true, false, not, ◌&&◌, ◌||◌, if◌then◌else◌, Some, None, Result, Err, List, [], ◌∷◌, ℤ, pos, negsuc, ◌-ℤ◌, ◌*ℤ◌, neg_ℤ, ◌≤ℤ◌, ◌⊎◌, inl, inr, FitsSigned, refl, sym, ap, ap₂, subst, ◌∙◌, arith, pow-add}
use Rattle.std.specs.Prelude.{unsigned_abs}
use Rattle.std.specs.List.{list_all}
use Rattle.std.specs.Int.{w128}
use Rattle.std.proofs.lemmas.Int.{ints}
use Rattle.std.proofs.lemmas.Bool.{and_parts}
use Rattle.std.proofs.Math.Nat.{mul-pos}
use Rattle.fx_rational.proofs.Integers.{neg_ℤ-*ℤ}
use Rattle.fx_rational.specs.Rational.{Rational, bottom, over, plus, minus, negative, floor_div, Equal, AtMost, is_positive, is_negative, above_zero, below_zero}
use Rattle.fx_rational.specs.Dyadic.{Dyadic, dyadic_value, zero_dyadic, dyadic_difference, least, greatest, is_dyadic_at_most}
use Rattle.fx_rational.specs.Interval.{Interval}
use Rattle.fx_rational.proofs.Laws.{equal_refl, equal_sym, equal_trans, le_refl, le_trans, le_of_equal, minus_same, plus_same, Nonneg, nonneg_from}
use Rattle.fx_rational.proofs.Lowest.{suc_pred}
use Rattle.fx_rational.proofs.Tests.{at_most_true, at_most_false}
use Rattle.fx_rational.proofs.Dyadics.{power_bottom}
use Rattle.fx_model.specs.LawfulProgram.{IsPoint}
use Rattle.fx_inequalities.specs.Formula.{Formula, Span, span, formula_value, formed, zero_span, span_difference, unit_at}
use Rattle.fx_inequalities.specs.Claim.{Claim, Clear, fits, holds}
use Rattle.fx_inequalities.specs.OperationSpans.{without_unit}
use Rattle.fx_inequalities.specs.NodeConditions.{quotient_claims, positive_quotient_claims}
use Rattle.fx_formulas.specs.Judging.{judged, FormsSpan}
use Rattle.fx_formulas.specs.declared.judgement.Judgement.{Judgement}
use Rattle.fx_formulas.specs.declared.judgement.Judgement.TheVariants as judgement
use Rattle.fx_formulas.specs.Places.{IsShort, IsShortSpan}
use Rattle.fx_formulas.proofs.Judged.{dividend_none, divisor_none, positive_formed, negative_formed}
use Rattle.fx_formulas.proofs.Shorts.{short_sum, short_difference}
use Rattle.fx_outward.specs.declared.fault.Why.{Why}
use Rattle.fx_outward.specs.declared.fault.Why.TheVariants.{Zero, Beyond}
use Rattle.fx_outward.specs.Narrow.{Bounds, ratio, positive_bounds, quotient_bounds, is_apart, narrow, unit_value, widened}
use Rattle.fx_outward.specs.Grid.{lowest_dyadic, grid_down, grid_up, error_grid}
use Rattle.fx_outward.specs.Wide.{units_below}
use Rattle.fx_outward.specs.Dividing.{lesser_divisor, greater_divisor, around_quotient, unit_quotient, cleared_quotient}
use Rattle.fx_outward.proofs.Ends.{turned}
use Rattle.fx_outward.proofs.Exacts.{grid_few}
use Rattle.fx_outward.proofs.Grids.{grid_down_is, grid_up_is}
use Rattle.fx_outward.proofs.Ratios.{forms_value, above_value, ratio_same}
use Rattle.fx_outward.proofs.Settled.{narrowest_beyond}
use Rattle.fx_outward.proofs.Signs.{zero_less, below_above}
use Rattle.fx_outward.proofs.Spelling.{down_same, up_same}
use Rattle.fx_outward.proofs.UnitEnds.{exact_down, exact_up, lesser_of, greater_of, falls, rises}

-- ---- the ends as the code forms them
ratio_top : (a b : Dyadic) → (ratio (dyadic_value a) (dyadic_value b)).top ≡ a.m *ℤ pos (2 ^ b.e)
unfolding ratio dyadic_value over
ratio_top a b = ap (λ (k : ℕ). a.m *ℤ pos k) (power_bottom b.e)

ratio_bottom : (a b : Dyadic) → 0 < unsigned_abs b.m →
    bottom (ratio (dyadic_value a) (dyadic_value b)) ≡ unsigned_abs b.m * 2 ^ a.e
unfolding ratio dyadic_value over
ratio_bottom a b h =
    suc_pred (suc (pred (2 ^ a.e)) * unsigned_abs b.m)
    (mul-pos {m = suc (pred (2 ^ a.e))} {n = unsigned_abs b.m} (omega arith) h)
    ∙ ap (λ (k : ℕ). k * unsigned_abs b.m) (power_bottom a.e)
    ∙ (let e : 2 ^ a.e * unsigned_abs b.m ≡ unsigned_abs b.m * 2 ^ a.e = omega arith in e)

-- m * 2^p over d * 2^k, down on the grid of point f, less a unit
abbrev pub quotient_floor : ℤ → ℕ → ℕ → ℕ → ℤ → Dyadic
quotient_floor m p d k f =
    lowest_dyadic (floor_div ((m *ℤ pos (2 ^ p)) *ℤ pos (2 ^ error_grid f)) (d * 2 ^ k) -ℤ pos (units_below f))
    (error_grid f)

pub quotient_floor_same : {m n f g : ℤ} {p q d e k l : ℕ} → m ≡ n → p ≡ q → d ≡ e → k ≡ l → f ≡ g →
    quotient_floor m p d k f ≡ quotient_floor n q e l g
quotient_floor_same a b c d e = (λ i. quotient_floor (a i) (b i) (c i) (d i) (e i))

pub quotient_below_end : (a b : Dyadic) (f : ℤ) → 0 < unsigned_abs b.m →
    quotient_floor a.m b.e (unsigned_abs b.m) a.e f
    ≡ grid_down (error_grid f) (minus (ratio (dyadic_value a) (dyadic_value b)) (unit_value f))
quotient_below_end a b f h =
    let e = error_grid f in
    ap₂ (λ (z : ℤ) (k : ℕ). lowest_dyadic (floor_div (z *ℤ pos (2 ^ e)) k -ℤ pos (units_below f)) e)
    (sym (ratio_top a b)) (sym (ratio_bottom a b h)) ∙ exact_down (ratio (dyadic_value a) (dyadic_value b)) f

-- with the other sign, before it's turned back
abbrev pub turned_floor : Dyadic → Dyadic → ℤ → Dyadic
turned_floor a b f = quotient_floor (neg_ℤ a.m) b.e (unsigned_abs b.m) a.e f

pub quotient_above_end : (a b : Dyadic) (f : ℤ) → 0 < unsigned_abs b.m →
    turned (turned_floor a b f) ≡ grid_up (error_grid f) (plus (ratio (dyadic_value a) (dyadic_value b)) (unit_value f))
quotient_above_end a b f h =
    let e = error_grid f in
    ap₂ (λ (z : ℤ) (k : ℕ). turned (lowest_dyadic (floor_div (z *ℤ pos (2 ^ e)) k -ℤ pos (units_below f)) e))
    (neg_ℤ-*ℤ a.m (pos (2 ^ b.e)) ∙ ap neg_ℤ (sym (ratio_top a b))) (sym (ratio_bottom a b h))
    ∙ exact_up (ratio (dyadic_value a) (dyadic_value b)) f

-- the mantissa that has no other sign in 128 bits
limit_is : (m : ℤ) → FitsSigned w128 m → ltb (unsigned_abs m) (2 ^ 127) ≡ false → neg_ℤ m ≡ pos (2 ^ 127)
limit_is (pos n) f h = absurd (let s = f.sfits in let l : 2 ^ 127 ≤ n = grind (arith, h) in omega (arith, s, l))
limit_is (negsuc n) f h =
    let s = f.sfits in
    let l : 2 ^ 127 ≤ suc n = grind (arith, h) in
    let e : suc n ≡ 2 ^ 127 = omega (arith, s, l) in
    ap pos e

pub limit_turned : (m : ℤ) (p : ℕ) → FitsSigned w128 m → ltb (unsigned_abs m) (2 ^ 127) ≡ false →
    pos (2 ^ 126) *ℤ pos (2 ^ (p + 1)) ≡ neg_ℤ m *ℤ pos (2 ^ p)
limit_turned m p f h =
    let d = pow-add 2 p 1 in let e : 2 ^ 126 * 2 ^ (p + 1) ≡ 2 ^ 127 * 2 ^ p = omega (arith, d) in
    ap pos e ∙ ap (λ (z : ℤ). z *ℤ pos (2 ^ p)) (sym (limit_is m f h))

-- ---- ends of the divisor
either_way : (P : Dyadic → Type 0) (t : Bool) {x y : Dyadic} → (t ≡ true → P x) → (t ≡ false → P y) →
    P (if t then x else y)
either_way P true p q = p refl
either_way P false p q = q refl

abbrev pub IsAboveZero : Dyadic → Type 0
IsAboveZero d = above_zero d.m ≡ true

pub least_above : (x y : Dyadic) → IsAboveZero x → IsAboveZero y → IsAboveZero (least x y)
unfolding least
least_above x y p q = either_way IsAboveZero (is_dyadic_at_most x y) (λ e. p) (λ e. q)

pub greatest_above : (x y : Dyadic) → IsAboveZero x → IsAboveZero y → IsAboveZero (greatest x y)
unfolding greatest
greatest_above x y p q = either_way IsAboveZero (is_dyadic_at_most y x) (λ e. p) (λ e. q)

pub turned_choice : (t : Bool) (x y : Dyadic) → (if not t then x else y) ≡ (if t then y else x)
turned_choice true x y = refl
turned_choice false x y = refl

nonneg_value : (d : Dyadic) → below_zero d.m ≡ false → Nonneg (dyadic_value d)
unfolding dyadic_value over
nonneg_value d h = nonneg_from (go d.m h)
  where
    go : (n : ℤ) → below_zero n ≡ false → pos 0 ≤ℤ n
    go (pos n) e = omega (arith, ints)
    go (negsuc n) e = absurd cc

turned_value : (d : Dyadic) → below_zero d.m ≡ true → Nonneg (negative (dyadic_value d))
unfolding dyadic_value over negative
turned_value d h = nonneg_from (go d.m h)
  where
    go : (n : ℤ) → below_zero n ≡ true → pos 0 ≤ℤ neg_ℤ n
    go (pos n) e = absurd cc
    go (negsuc n) e = omega (arith, ints)

-- w is one of two numbers, and comes before both
pub record IsFirstOf (Before : Rational → Rational → Type 0) (u v w : Rational) : Type 0 where
  pub first : Before w u
  pub second : Before w v
  pub one : Equal w u ⊎ Equal w v

-- the greater ones come first
abbrev pub AtLeast : Rational → Rational → Type 0
AtLeast x y = AtMost y x

module _ (a l h : Dyadic) (al : IsAboveZero l) (ah : IsAboveZero h) where
  abbrev quotient_by : Dyadic → Rational
  quotient_by d = ratio (dyadic_value a) (dyadic_value d)

  abbrev IsFirst : (Rational → Rational → Type 0) → Dyadic → Type 0
  IsFirst Before d = IsFirstOf Before (quotient_by l) (quotient_by h) (quotient_by d)

  -- the one of two whose quotient comes before the other's
  by_test : (Before : Rational → Rational → Type 0) (t : Bool) → ((x : Rational) → Before x x) →
      (t ≡ true → Before (quotient_by l) (quotient_by h)) → (t ≡ false → Before (quotient_by h) (quotient_by l)) →
      IsFirst Before (if t then l else h)
  by_test Before t same p q =
      either_way (IsFirst Before) t (λ e. record { first = same _; second = p e; one = inl (equal_refl _) })
      (λ e. record { first = q e; second = same _; one = inr (equal_refl _) })

  -- with the divisor the quotient comes later
  abbrev IsLater : (Rational → Rational → Type 0) → Type 0
  IsLater Before = (x y : Dyadic) → IsAboveZero x → IsAboveZero y → AtMost (dyadic_value x) (dyadic_value y) →
      Before (quotient_by x) (quotient_by y)

  by_least : (Before : Rational → Rational → Type 0) → ((x : Rational) → Before x x) → IsLater Before →
      IsFirst Before (least l h)
  unfolding least
  by_least Before same later =
      by_test Before (is_dyadic_at_most l h) same (λ p. later l h al ah (at_most_true _ _ p))
      (λ p. later h l ah al (at_most_false _ _ p))

  by_greatest : (Before : Rational → Rational → Type 0) → ((x : Rational) → Before x x) →
      IsLater (λ x y. Before y x) → IsFirst Before (greatest l h)
  unfolding greatest
  by_greatest Before same later =
      by_test Before (is_dyadic_at_most h l) same (λ p. later h l ah al (at_most_true _ _ p))
      (λ p. later l h al ah (at_most_false _ _ p))

  rising : below_zero a.m ≡ true → IsLater AtMost
  rising e x y p q = rises (dyadic_value a) _ _ (above_value x p) (above_value y q) (turned_value a e)

  falling : below_zero a.m ≡ false → IsLater AtLeast
  falling e x y p q = falls (dyadic_value a) _ _ (above_value x p) (above_value y q) (nonneg_value a e)

  pub least_is : IsFirst AtMost (lesser_divisor a (record { lo = l; hi = h }))
  least_is =
      either_way (IsFirst AtMost) (below_zero a.m) (λ e. by_least AtMost le_refl (rising e))
      (λ e. by_greatest AtMost le_refl (falling e))

  pub greatest_is : IsFirst AtLeast (greater_divisor a (record { lo = l; hi = h }))
  greatest_is =
      either_way (IsFirst AtLeast) (below_zero a.m) (λ e. by_greatest AtLeast le_refl (rising e))
      (λ e. by_least AtLeast le_refl (falling e))

either : {u v u' v' w : Rational} → Equal u u' → Equal v v' → Equal w u ⊎ Equal w v → Equal w u' ⊎ Equal w v'
either p q (inl e) = inl (equal_trans e p)
either p q (inr e) = inr (equal_trans e q)

module _ (a b : Interval) (s t : Span) (f : ℤ) (bl : above_zero b.lo.m ≡ true) (bh : above_zero b.hi.m ≡ true)
    (fa : FormsSpan (Some a) s) (fb : FormsSpan (Some b) t) where
  tl : Equal (dyadic_value b.lo) (formula_value t.lo)
  tl = forms_value b.lo t.lo (ap (λ (i : Interval). i.lo) fb.1)

  th : Equal (dyadic_value b.hi) (formula_value t.hi)
  th = forms_value b.hi t.hi (ap (λ (i : Interval). i.hi) fb.1)

  -- the same of what formulas come to, where what comes before a number comes before its equals
  first_same : (Before : Rational → Rational → Type 0) →
      ((x y z : Rational) → Before x y → Equal y z → Before x z) → (d : Dyadic) (g : Formula) →
      d ≡ formed g → {w : Rational} →
      IsFirstOf Before (ratio (dyadic_value d) (dyadic_value b.lo)) (ratio (dyadic_value d) (dyadic_value b.hi)) w →
      IsFirstOf Before (ratio (formula_value g) (formula_value t.lo)) (ratio (formula_value g) (formula_value t.hi)) w
  first_same Before move d g is p =
      let x = forms_value d g is in let u = ratio_same _ _ _ _ (above_value b.lo bl) x tl in
      let v = ratio_same _ _ _ _ (above_value b.hi bh) x th in
      record { first = move _ _ _ p.first u; second = move _ _ _ p.second v; one = either u v p.one }

  pub low_end : grid_down (error_grid f)
      (minus (ratio (dyadic_value a.lo) (dyadic_value (lesser_divisor a.lo b))) (unit_value f))
      ≡ grid_down (error_grid f) (widened f (positive_bounds s t)).lo
  low_end =
      let p =
      first_same AtMost (λ x y z l e. le_trans l (le_of_equal e)) a.lo s.lo (ap (λ (i : Interval). i.lo) fa.1)
      (least_is a.lo b.lo b.hi bl bh) in
      down_same (error_grid f) _ _
      (minus_same (equal_sym (lesser_of _ _ _ p.first p.second p.one)) (equal_refl (unit_value f)))

  pub high_end : grid_up (error_grid f)
      (plus (ratio (dyadic_value a.hi) (dyadic_value (greater_divisor a.hi b))) (unit_value f))
      ≡ grid_up (error_grid f) (widened f (positive_bounds s t)).hi
  high_end =
      let p =
      first_same AtLeast (λ x y z l e. le_trans (le_of_equal (equal_sym e)) l) a.hi s.hi
      (ap (λ (i : Interval). i.hi) fa.1) (greatest_is a.hi b.lo b.hi bl bh) in
      up_same (error_grid f) _ _
      (plus_same (equal_sym (greater_of _ _ _ p.first p.second p.one)) (equal_refl (unit_value f)))

-- ---- what a judgement says
abbrev verdict : Bool → Bool → Judgement
verdict b c = if b then (if c then judgement.Holds else judgement.Fails) else judgement.Beyond

verdict_beyond : (b c : Bool) → judgement.Beyond ≡ verdict b c → b ≡ false
verdict_beyond false c e = refl
verdict_beyond true true e = absurd cc
verdict_beyond true false e = absurd cc

verdict_is : (d b c : Bool) → (if d then judgement.Holds else judgement.Fails) ≡ verdict b c → (b ≡ true) × (c ≡ d)
verdict_is true true true e = (refl, refl)
verdict_is true true false e = absurd cc
verdict_is true false c e = absurd cc
verdict_is false true false e = (refl, refl)
verdict_is false true true e = absurd cc
verdict_is false false c e = absurd cc

pub beyond_fits : (cs : List Claim) → judgement.Beyond ≡ judged cs → list_all fits cs ≡ false
beyond_fits cs e = verdict_beyond (list_all fits cs) (list_all holds cs) e

pub other_fits : (cs : List Claim) (j : Judgement) → j ≡ judged cs → (j ≡ judgement.Beyond → ⊥) →
    list_all fits cs ≡ true
other_fits cs j e other = by (list_all fits cs) refl e
  where
    by : (b : Bool) → list_all fits cs ≡ b → j ≡ verdict b (list_all holds cs) → list_all fits cs ≡ true
    by true h e = h
    by false h e = absurd (other e)

pub holds_both : (cs : List Claim) → judgement.Holds ≡ judged cs →
    (list_all fits cs ≡ true) × (list_all holds cs ≡ true)
holds_both cs e = verdict_is true (list_all fits cs) (list_all holds cs) e

pub fails_both : (cs : List Claim) → judgement.Fails ≡ judged cs →
    (list_all fits cs ≡ true) × (list_all holds cs ≡ false)
fails_both cs e = verdict_is false (list_all fits cs) (list_all holds cs) e

-- ---- an error less a unit is short
unit_short : (f : ℤ) → IsPoint f → IsShort 512 (unit_at f)
unit_short (pos n) h = let b = h.high in record { few = omega (arith, ints, b) }
unit_short (negsuc n) h = record { few = omega arith }

pub without_short : (f : ℤ) (bounds : Bounds) (h : Interval) → IsPoint f → h ≡ narrow (error_grid f) bounds →
    IsShortSpan 512 (without_unit f (span h))
without_short f bounds h point is =
    let e = error_grid f in let g = grid_few f point in let l = (grid_down_is e bounds.lo).places in
    let u = (grid_up_is e bounds.hi).places in
    let short = unit_short f point in
    subst (λ (i : Interval). IsShortSpan 512 (without_unit f (span i))) (sym is)
    (record {
      lo = short_sum (record { few = omega (arith, g, l) }) short;
      hi = short_difference (record { few = omega (arith, g, u) }) short;
    })

-- ---- the answer at each sign
module _ (f : ℤ) (s t : Span) where
  abbrev choose : Bool → Bool → Bool → Bool → Result Interval Why
  choose p q r n = if (p && q) ||
      (r && n) then around_quotient f
      (widened f (if p then positive_bounds s t
      else positive_bounds (span_difference zero_span s) (span_difference zero_span t))) s t else Err Zero

  pub unit_over : is_positive (formula_value t.lo) ≡ true → is_positive (formula_value t.hi) ≡ true →
      around_quotient f (widened f (positive_bounds s t)) s t ≡ unit_quotient f s t
  unit_over p q =
      (λ i. choose (sym p i) (sym q i) (is_negative (formula_value t.lo)) (is_negative (formula_value t.hi)))

  not_positive : (x : Rational) → is_negative x ≡ true → is_positive x ≡ false
  unfolding is_positive is_negative
  not_positive x h = go x.top h
    where
      go : (m : ℤ) → below_zero m ≡ true → above_zero m ≡ false
      go (pos n) h = absurd cc
      go (negsuc n) h = refl

  pub unit_under : is_negative (formula_value t.lo) ≡ true → is_negative (formula_value t.hi) ≡ true →
      around_quotient f (widened f (positive_bounds (span_difference zero_span s) (span_difference zero_span t))) s t
      ≡ unit_quotient f s t
  unit_under r n =
      let p = not_positive (formula_value t.lo) r in
      (λ i. choose (sym p i) (is_positive (formula_value t.hi)) (sym r i) (sym n i))

  pub unit_zero : (is_positive (formula_value t.lo) && is_positive (formula_value t.hi)) ≡ false →
      (is_negative (formula_value t.lo) && is_negative (formula_value t.hi)) ≡ false →
      Path (Result Interval Why) (Err Zero) (unit_quotient f s t)
  unit_zero h k = rw (h, k) refl

  -- what doesn't fit
  pub beyond_around : (bounds : Bounds) → ((u : Span) → list_all fits (quotient_claims s t u) ≡ false) →
      Path (Result Interval Why) (Err Beyond) (around_quotient f bounds s t)
  beyond_around bounds h =
      narrowest_beyond (error_grid f) bounds (λ g. quotient_claims s t (without_unit f (span g)))
      (h (without_unit f (span (narrow (error_grid f) bounds))))

  pub over_beyond : is_positive (formula_value t.lo) ≡ true → FormsSpan None s → (u : Span) →
      list_all fits (quotient_claims s t u) ≡ false
  over_beyond p h u =
      ap (λ (b : Bool). list_all fits (if b then positive_quotient_claims s t u
      else positive_quotient_claims (span_difference zero_span s) (span_difference zero_span t) u)) p
      ∙ beyond_fits (positive_quotient_claims s t u) (dividend_none s t u h)

  pub under_beyond : is_negative (formula_value t.lo) ≡ true →
      FormsSpan None (span_difference zero_span s) ⊎ FormsSpan None (span_difference zero_span t) → (u : Span) →
      list_all fits (quotient_claims s t u) ≡ false
  under_beyond r h u =
      let p = not_positive (formula_value t.lo) r in let v = span_difference zero_span s in
      let w = span_difference zero_span t in
      ap (λ (b : Bool). list_all fits (if b then positive_quotient_claims s t u else positive_quotient_claims v w u)) p
      ∙ beyond_fits (positive_quotient_claims v w u) (by h)
    where
      by : FormsSpan None (span_difference zero_span s) ⊎ FormsSpan None (span_difference zero_span t) →
          judgement.Beyond ≡ judged
          (positive_quotient_claims (span_difference zero_span s) (span_difference zero_span t) u)
      by (inl k) = dividend_none (span_difference zero_span s) (span_difference zero_span t) u k
      by (inr k) = divisor_none (span_difference zero_span s) (span_difference zero_span t) u k

-- ---- signs of what formulas come to
own_above : (d : Dyadic) → above_zero d.m ≡ is_positive (dyadic_value d)
unfolding is_positive dyadic_value over
own_above d = refl

own_below : (d : Dyadic) → below_zero d.m ≡ is_negative (dyadic_value d)
unfolding is_negative dyadic_value over
own_below d = refl

pub above_formed : (d : Dyadic) (g : Formula) → d ≡ formed g → above_zero d.m ≡ is_positive (formula_value g)
above_formed d g e = own_above d ∙ positive_formed d g e

pub below_formed : (d : Dyadic) (g : Formula) → d ≡ formed g → below_zero d.m ≡ is_negative (formula_value g)
below_formed d g e = own_below d ∙ negative_formed d g e

pub turned_above : (b z : Interval) (t : Span) → FormsSpan (Some b) t →
    FormsSpan (Some z) (span_difference zero_span t) → (below_zero b.lo.m && below_zero b.hi.m) ≡ true →
    (above_zero z.lo.m && above_zero z.hi.m) ≡ true
unfolding formed
turned_above b z t fb fz h =
    let below = and_parts (below_zero b.lo.m) (below_zero b.hi.m) h in
    let lo = ap (λ (i : Interval). i.lo) fz.1 ∙ ap (λ (i : Interval). dyadic_difference zero_dyadic i.hi) (sym fb.1)
    ∙ zero_less b.hi in
    let hi = ap (λ (i : Interval). i.hi) fz.1 ∙ ap (λ (i : Interval). dyadic_difference zero_dyadic i.lo) (sym fb.1)
    ∙ zero_less b.lo in
    let p = ap (λ (d : Dyadic). above_zero d.m) lo ∙ below_above b.hi.m b.hi.e below.1 in
    let q = ap (λ (d : Dyadic). above_zero d.m) hi ∙ below_above b.lo.m b.lo.e below.0 in
    rw (p, q) refl

-- a divisor below zero, with a number that doesn't fit
pub under_fails : (f : ℤ) (b : Interval) (s t : Span) → (below_zero b.lo.m && below_zero b.hi.m) ≡ true →
    FormsSpan (Some b) t → FormsSpan None (span_difference zero_span s) ⊎ FormsSpan None (span_difference zero_span t) →
    Path (Result Interval Why) (Err Beyond) (unit_quotient f s t)
under_fails f b s t below fb none =
    let signs = and_parts (below_zero b.lo.m) (below_zero b.hi.m) below in
    let r = sym (below_formed b.lo t.lo (ap (λ (i : Interval). i.lo) fb.1)) ∙ signs.0 in
    let n = sym (below_formed b.hi t.hi (ap (λ (i : Interval). i.hi) fb.1)) ∙ signs.1 in
    beyond_around f s t (widened f (positive_bounds (span_difference zero_span s) (span_difference zero_span t)))
    (under_beyond f s t r none) ∙ unit_under f s t r n

-- ---- after the test of the divisors
module _ (f : ℤ) (g s t : Span) where
  abbrev answers : Bool → Bool → Result Interval Why
  answers a b = if a then if b && is_apart t then around_quotient f (widened f (quotient_bounds s t)) s t else Err Zero
      else Err Beyond

  pub cleared_holds : list_all fits (Clear g t ∷ []) ≡ true → list_all holds (Clear g t ∷ []) ≡ true →
      unit_quotient f s t ≡ cleared_quotient f g s t
  cleared_holds p q = (λ i. answers (sym p i) (sym q i))

  pub cleared_fails : list_all fits (Clear g t ∷ []) ≡ true → list_all holds (Clear g t ∷ []) ≡ false →
      Path (Result Interval Why) (Err Zero) (cleared_quotient f g s t)
  cleared_fails p q = (λ i. answers (sym p i) (sym q i))

  pub cleared_beyond : list_all fits (Clear g t ∷ []) ≡ false →
      Path (Result Interval Why) (Err Beyond) (cleared_quotient f g s t)
  cleared_beyond p = (λ i. answers (sym p i) (list_all holds (Clear g t ∷ [])))
