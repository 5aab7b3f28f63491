-- What the code's tests of formulas say of the claims.
use Rattle.std.proofs.Common.{◌≡◌, ℕ, zero, suc, ◌+◌, ◌*◌, ◌≤◌, Bool, true, false, ◌&&◌, IsTrue, Option, Some, None, SomeIff, List, [], ◌∷◌, ℤ, pos, negsuc, ◌*ℤ◌, refl, sym, ap, ap₂, subst, ◌∙◌, ◌⊎◌, inl, inr, arith, if◌then◌else◌}
use Rattle.std.specs.Prelude.{◌||◌}
use Rattle.std.specs.List.{list_all}
use Rattle.std.proofs.lemmas.Bool.{lt-ltb, and_parts, false_from_ne_true}
use lib.Signed.{lt_z}
use Rattle.fx_rational.specs.Rational.{Rational, Equal, bottom, over, lowest, is_at_most, is_positive, is_negative, above_zero, below_zero}
use Rattle.fx_rational.specs.Dyadic.{Dyadic, dyadic_value, dyadic_sum, dyadic_difference, dyadic_product, sum_fits, difference_fits, product_fits, is_dyadic_at_most, fits_128}
use Rattle.fx_rational.specs.Interval.{Interval, interval_sum, interval_sum_fits, interval_difference, interval_difference_fits, interval_product, interval_product_fits, is_inside}
use Rattle.fx_rational.proofs.Lowest.{lowest_is}
use Rattle.fx_inequalities.specs.Formula.{Formula, Num, Sum, Difference, Product, formula_value, formed, formula_fits, Span, span, point, zero_span, span_sum, span_difference, span_product}
use Rattle.fx_inequalities.specs.Claim.{Claim, Below, BelowFraction, AboveFraction, Clear, inside, fits, fits_over, holds}
use Rattle.fx_inequalities.specs.NodeConditions.{positive_quotient_claims, quotient_claims}
use Rattle.fx_inequalities.proofs.Formed.{formed_is, at_most_same}
use Rattle.fx_formulas.specs.declared.judgement.Judgement.{Judgement}
use Rattle.fx_formulas.specs.declared.judgement.Judgement.TheVariants.{Beyond}
use Rattle.fx_formulas.specs.Judging.{judged, Forms, FormsSpan, IsNarrowInterval}
use Rattle.fx_formulas.specs.Places.{IsShort, IsShortSpan}
use Rattle.fx_formulas.proofs.Shorts.{formed_places}

-- the first two of three tests
three : (a b c : Bool) → (a && b && c) ≡ true → (a ≡ true) × (b ≡ true)
three a b c h = and_parts a b (and_parts (a && b) c h).0

-- one test, and no more
one_true : (a b : Bool) → a ≡ b → a ≡ (b && true)
one_true a true e = e
one_true a false e = e

-- ---- dyadics that formulas come to
pub both_again : (a b : Bool) → a ≡ true → b ≡ true → (a && b) ≡ true
both_again a b e f = rw (e, f) refl

-- an operation on numbers that fit
op_forms : (fit : Dyadic → Dyadic → Bool) (op : Dyadic → Dyadic →
    Dyadic) (r : Option Dyadic) (x y : Dyadic) (f g : Formula) → SomeIff r (IsTrue (fit x y)) (op x y) →
    Forms (Some x) f → Forms (Some y) g
    → SomeIff r (IsTrue (formula_fits f && formula_fits g && fit (formed f) (formed g))) (op (formed f) (formed g))
op_forms fit op (Some z) x y f g h j k =
    let same : fit (formed f) (formed g) ≡ true = ap₂ fit (sym j.1) (sym k.1) ∙ h.0 in
    (rw (j.0, k.0, same) refl, h.1 ∙ ap₂ op j.1 k.1)
op_forms fit op None x y f g h j k =
    λ all. h (ap₂ fit j.1 k.1 ∙ (and_parts (formula_fits f && formula_fits g) (fit (formed f) (formed g)) all).1)

-- and of which one doesn't
first_none : (f g : Formula) (b : Bool) → Forms None f → (formula_fits f && formula_fits g && b) ≡ true → ⊥
first_none f g b h all = h (three (formula_fits f) (formula_fits g) b all).0

pub second_none : (f g : Formula) (b : Bool) → Forms None g → (formula_fits f && formula_fits g && b) ≡ true → ⊥
second_none f g b h all = h (three (formula_fits f) (formula_fits g) b all).1

pub sum_forms : (r : Option Dyadic) (x y : Dyadic) (f g : Formula) →
    SomeIff r (IsTrue (sum_fits x y)) (dyadic_sum x y) → Forms (Some x) f → Forms (Some y) g → Forms r (Sum f g)
unfolding formula_fits formed
sum_forms r x y f g = op_forms sum_fits dyadic_sum r x y f g

pub difference_forms : (r : Option Dyadic) (x y : Dyadic) (f g : Formula) →
    SomeIff r (IsTrue (difference_fits x y)) (dyadic_difference x y) → Forms (Some x) f → Forms (Some y) g →
    Forms r (Difference f g)
unfolding formula_fits formed
difference_forms r x y f g = op_forms difference_fits dyadic_difference r x y f g

pub product_forms : (r : Option Dyadic) (x y : Dyadic) (f g : Formula) →
    SomeIff r (IsTrue (product_fits x y)) (dyadic_product x y) → Forms (Some x) f → Forms (Some y) g →
    Forms r (Product f g)
unfolding formula_fits formed
product_forms r x y f g = op_forms product_fits dyadic_product r x y f g

pub difference_none : (f g : Formula) → Forms None f ⊎ Forms None g → Forms None (Difference f g)
unfolding formula_fits formed
difference_none f g (inl h) = first_none f g (difference_fits (formed f) (formed g)) h
difference_none f g (inr h) = second_none f g (difference_fits (formed f) (formed g)) h

pub product_none : (f g : Formula) → Forms None f ⊎ Forms None g → Forms None (Product f g)
unfolding formula_fits formed
product_none f g (inl h) = first_none f g (product_fits (formed f) (formed g)) h
product_none f g (inr h) = second_none f g (product_fits (formed f) (formed g)) h

-- a number of a short formula is short
pub short_number : {x : Dyadic} {f : Formula} {n : ℕ} → Forms (Some x) f → IsShort n f → x.e ≤ n
short_number {x} {f} {n} h k =
    let e : x.e ≡ (formed f).e = ap (λ (y : Dyadic). y.e) h.1 in let p = formed_places f in let q = k.few in omega arith

-- ---- intervals that spans come to
pub interval_forms : (i : Interval) → IsNarrowInterval i → FormsSpan (Some i) (span i)
unfolding formula_fits formed
interval_forms i h = (h, refl)

pub point_forms : (x : Dyadic) (f : Formula) → Forms (Some x) f → FormsSpan (Some (record { lo = x; hi = x })) (point f)
point_forms x f h =
    (both_again (formula_fits f) (formula_fits f) h.0 h.0, ap (λ (y : Dyadic). record { lo = y; hi = y }) h.1)

-- every mantissa of both ends fits
abbrev pub span_fits : Span → Bool
span_fits s = formula_fits s.lo && formula_fits s.hi

abbrev pub formed_span : Span → Interval
formed_span s = record { lo = formed s.lo; hi = formed s.hi }

-- an operation on intervals gives what a span comes to, where it fits just where that span does
span_forms : (fit : Interval → Interval → Bool) (op : Interval → Interval →
    Interval) (u : Span) (r : Option Interval) (v w : Interval) (s t : Span) →
    (formula_fits s.lo ≡ true → formula_fits s.hi ≡ true → formula_fits t.lo ≡ true → formula_fits t.hi ≡ true →
    fit (formed_span s) (formed_span t) ≡ span_fits u) → op (formed_span s) (formed_span t) ≡ formed_span u →
    SomeIff r (IsTrue (fit v w)) (op v w) → FormsSpan (Some v) s → FormsSpan (Some w) t → FormsSpan r u
span_forms fit op u r v w s t fits is h j k =
    let a = and_parts (formula_fits s.lo) (formula_fits s.hi) j.0 in
    let b = and_parts (formula_fits t.lo) (formula_fits t.hi) k.0 in
    subst (λ (p : Bool). SomeIff r (IsTrue p) (formed_span u)) (fits a.0 a.1 b.0 b.1)
    (subst (λ (y : Interval). SomeIff r (IsTrue (fit (formed_span s) (formed_span t))) y) is
    (subst (λ (y : Interval). SomeIff r (IsTrue (fit (formed_span s) y)) (op (formed_span s) y)) k.1
    (subst (λ (y : Interval). SomeIff r (IsTrue (fit y w)) (op y w)) j.1 h)))

pub plus_forms : (r : Option Interval) (v w : Interval) (s t : Span) →
    SomeIff r (IsTrue (interval_sum_fits v w)) (interval_sum v w) → FormsSpan (Some v) s → FormsSpan (Some w) t →
    FormsSpan r (span_sum s t)
unfolding formula_fits formed interval_sum interval_sum_fits
plus_forms r v w s t =
    span_forms interval_sum_fits interval_sum (span_sum s t) r v w s t (λ a b c d. rw (a, b, c, d) refl) refl

pub minus_forms : (r : Option Interval) (v w : Interval) (s t : Span) →
    SomeIff r (IsTrue (interval_difference_fits v w)) (interval_difference v w) → FormsSpan (Some v) s →
    FormsSpan (Some w) t → FormsSpan r (span_difference s t)
unfolding formula_fits formed interval_difference interval_difference_fits
minus_forms r v w s t =
    span_forms interval_difference_fits interval_difference (span_difference s t) r v w s t
    (λ a b c d. rw (a, b, c, d) refl) refl

-- four products at either end
four : (a b c d : Bool) → (a && b && c && d) ≡ (((a && b) && (c && d)) && ((a && b) && (c && d)))
four false b c d = refl
four true false c d = refl
four true true false d = refl
four true true true false = refl
four true true true true = refl

pub times_forms : (r : Option Interval) (v w : Interval) (s t : Span) →
    SomeIff r (IsTrue (interval_product_fits v w)) (interval_product v w) → FormsSpan (Some v) s →
    FormsSpan (Some w) t → FormsSpan r (span_product s t)
unfolding formula_fits formed interval_product interval_product_fits
times_forms r v w s t =
    let ll = product_fits (formed s.lo) (formed t.lo) in let lh = product_fits (formed s.lo) (formed t.hi) in
    let hl = product_fits (formed s.hi) (formed t.lo) in let hh = product_fits (formed s.hi) (formed t.hi) in
    span_forms interval_product_fits interval_product (span_product s t) r v w s t
    (λ a b c d. rw (a, b, c, d) (four ll lh hl hh)) refl

-- what fits has parts that do
ends : (s : Span) → span_fits s ≡ true → (formula_fits s.lo ≡ true) × (formula_fits s.hi ≡ true)
ends s h = and_parts (formula_fits s.lo) (formula_fits s.hi) h

pub difference_parts : (s t : Span) → span_fits (span_difference s t) ≡ true →
    (span_fits s ≡ true) × (span_fits t ≡ true)
unfolding formula_fits
difference_parts s t all =
    let e = ends (span_difference s t) all in
    let lo = three (formula_fits s.lo) (formula_fits t.hi) (difference_fits (formed s.lo) (formed t.hi)) e.0 in
    let hi = three (formula_fits s.hi) (formula_fits t.lo) (difference_fits (formed s.hi) (formed t.lo)) e.1 in (
      both_again (formula_fits s.lo) (formula_fits s.hi) lo.0 hi.0,
      both_again (formula_fits t.lo) (formula_fits t.hi) hi.1 lo.1,
    )

pub product_parts : (s t : Span) → span_fits (span_product s t) ≡ true → (span_fits s ≡ true) × (span_fits t ≡ true)
unfolding formula_fits
product_parts s t all =
    let e = ends (span_product s t) all in
    let pll = formula_fits s.lo && formula_fits t.lo && product_fits (formed s.lo) (formed t.lo) in
    let plh = formula_fits s.lo && formula_fits t.hi && product_fits (formed s.lo) (formed t.hi) in
    let phl = formula_fits s.hi && formula_fits t.lo && product_fits (formed s.hi) (formed t.lo) in
    let phh = formula_fits s.hi && formula_fits t.hi && product_fits (formed s.hi) (formed t.hi) in
    let halves = and_parts (pll && plh) (phl && phh) e.0 in
    let first = and_parts pll plh halves.0 in let second = and_parts phl phh halves.1 in
    let ll = three (formula_fits s.lo) (formula_fits t.lo) (product_fits (formed s.lo) (formed t.lo)) first.0 in
    let hh = three (formula_fits s.hi) (formula_fits t.hi) (product_fits (formed s.hi) (formed t.hi)) second.1 in (
      both_again (formula_fits s.lo) (formula_fits s.hi) ll.0 hh.0,
      both_again (formula_fits t.lo) (formula_fits t.hi) ll.1 hh.1,
    )

-- a part that doesn't fit
pub minus_none : (s t : Span) → FormsSpan None s ⊎ FormsSpan None t → FormsSpan None (span_difference s t)
minus_none s t (inl h) = λ all. h (difference_parts s t all).0
minus_none s t (inr h) = λ all. h (difference_parts s t all).1

pub times_none : (s t : Span) → FormsSpan None s ⊎ FormsSpan None t → FormsSpan None (span_product s t)
times_none s t (inl h) = λ all. h (product_parts s t all).0
times_none s t (inr h) = λ all. h (product_parts s t all).1

-- an interval of a short span is short
pub short_interval : {v : Interval} {s : Span} {n : ℕ} → FormsSpan (Some v) s → IsShortSpan n s →
    (v.lo.e ≤ n) × (v.hi.e ≤ n)
short_interval {v} {s} {n} h k =
    let a : v.lo.e ≡ (formed s.lo).e = ap (λ (y : Interval). y.lo.e) h.1 in
    let b : v.hi.e ≡ (formed s.hi).e = ap (λ (y : Interval). y.hi.e) h.1 in
    let p = formed_places s.lo in let q = formed_places s.hi in let l = k.lo.few in let m = k.hi.few in
    (omega arith, omega arith)

-- ---- claims
-- what doesn't fit is beyond
pub not_fitting : (cs : List Claim) → (list_all fits cs ≡ true → ⊥) → Beyond ≡ judged cs
not_fitting cs h = rw (false_from_ne_true (list_all fits cs) h) refl

-- one number below another
pub below_numbers : (x y : Dyadic) (f g : Formula) (b : Bool) → Forms (Some x) f → Forms (Some y) g →
    b ≡ is_dyadic_at_most x y
    → SomeIff (Some b) (IsTrue (list_all fits (Below f g ∷ []))) (list_all holds (Below f g ∷ []))
below_numbers x y f g b h k e =
    let same : is_dyadic_at_most x y ≡ is_at_most (formula_value f) (formula_value g) = ap₂ is_dyadic_at_most h.1 k.1
    ∙ at_most_same (formed_is f) (formed_is g) in
    (rw (h.0, k.0) refl, one_true b (is_at_most (formula_value f) (formula_value g)) (e ∙ same))

-- an interval inside a limit
with_true : (a b : Bool) → (a && b) ≡ (a && (b && true))
with_true true true = refl
with_true true false = refl
with_true false b = refl

pub inside_some : (v w : Interval) (s t : Span) (b : Bool) → FormsSpan (Some v) s → FormsSpan (Some w) t →
    b ≡ is_inside v w
    → SomeIff (Some b) (IsTrue (list_all fits (inside s t))) (list_all holds (inside s t))
unfolding is_inside
inside_some v w s t b h k e =
    let f = and_parts (formula_fits s.lo) (formula_fits s.hi) h.0 in
    let n = and_parts (formula_fits t.lo) (formula_fits t.hi) k.0 in
    let lo : is_dyadic_at_most w.lo v.lo ≡ is_at_most (formula_value t.lo) (formula_value s.lo) =
    ap₂ (λ (x y : Interval). is_dyadic_at_most x.lo y.lo) k.1 h.1
    ∙ at_most_same (formed_is t.lo) (formed_is s.lo) in
    let hi : is_dyadic_at_most v.hi w.hi ≡ is_at_most (formula_value s.hi) (formula_value t.hi) =
    ap₂ (λ (x y : Interval). is_dyadic_at_most x.hi y.hi) h.1 k.1
    ∙ at_most_same (formed_is s.hi) (formed_is t.hi) in
    (rw (f.0, f.1, n.0, n.1) refl, e ∙ rw (lo, hi) (with_true _ _))

-- ---- signs
above_times : (z : ℤ) (k : ℕ) → above_zero (z *ℤ pos (suc k)) ≡ above_zero z
above_times (pos zero) k = let e : 0 * suc k ≡ 0 = omega arith in rw e refl
above_times (pos (suc n)) k = let e : suc n * suc k ≡ suc (k + n * suc k) = grind arith in rw e refl
above_times (negsuc n) k = let e : suc n * suc k ≡ suc (k + n * suc k) = grind arith in rw e refl

below_times : (z : ℤ) (k : ℕ) → below_zero (z *ℤ pos (suc k)) ≡ below_zero z
below_times (pos n) k = refl
below_times (negsuc n) k = let e : suc n * suc k ≡ suc (k + n * suc k) = grind arith in rw e refl

positive_same : {x y : Rational} → Equal x y → is_positive x ≡ is_positive y
unfolding is_positive
positive_same {x} {y} h = sym (above_times x.top y.less) ∙ ap above_zero h.equal ∙ above_times y.top x.less

negative_same : {x y : Rational} → Equal x y → is_negative x ≡ is_negative y
unfolding is_negative
negative_same {x} {y} h = sym (below_times x.top y.less) ∙ ap below_zero h.equal ∙ below_times y.top x.less

-- the sign of a formula's number is its dyadic's
pub positive_formed : (d : Dyadic) (f : Formula) → d ≡ formed f →
    is_positive (dyadic_value d) ≡ is_positive (formula_value f)
positive_formed d f e = ap (λ (y : Dyadic). is_positive (dyadic_value y)) e ∙ positive_same (formed_is f)

pub negative_formed : (d : Dyadic) (f : Formula) → d ≡ formed f →
    is_negative (dyadic_value d) ≡ is_negative (formula_value f)
negative_formed d f e = ap (λ (y : Dyadic). is_negative (dyadic_value y)) e ∙ negative_same (formed_is f)

-- two intervals on one side of zero
pub clear_some : (v w : Interval) (s t : Span) (b : Bool) → FormsSpan (Some v) s → FormsSpan (Some w) t
    → b ≡ ((is_positive (dyadic_value v.lo) && is_positive (dyadic_value w.lo)) ||
    (is_negative (dyadic_value v.hi) && is_negative (dyadic_value w.hi)))
    → SomeIff (Some b) (IsTrue (list_all fits (Clear s t ∷ []))) (list_all holds (Clear s t ∷ []))
clear_some v w s t b h k e =
    let f = and_parts (formula_fits s.lo) (formula_fits s.hi) h.0 in
    let n = and_parts (formula_fits t.lo) (formula_fits t.hi) k.0 in
    let p = positive_formed v.lo s.lo (ap (λ (y : Interval). y.lo) h.1) in
    let q = positive_formed w.lo t.lo (ap (λ (y : Interval). y.lo) k.1) in
    let m = negative_formed v.hi s.hi (ap (λ (y : Interval). y.hi) h.1) in
    let o = negative_formed w.hi t.hi (ap (λ (y : Interval). y.hi) k.1) in
    (rw (f.0, f.1, n.0, n.1) refl, one_true b (holds (Clear s t)) (e ∙ (λ i. (p i && q i) || (m i && o i))))

pub clear_none : (s t : Span) → FormsSpan None s ⊎ FormsSpan None t → Beyond ≡ judged (Clear s t ∷ [])
clear_none s t h =
    not_fitting (Clear s t ∷ []) (by (formula_fits s.lo) (formula_fits s.hi) (formula_fits t.lo) (formula_fits t.hi) h)
  where
    by : (a b c d : Bool) → ((a && b) ≡ true → ⊥) ⊎ ((c && d) ≡ true → ⊥) → ((((a && b) && c) && d) && true) ≡ true → ⊥
    by true true true true (inl h) k = h refl
    by true true true true (inr h) k = h refl
    by false b c d h k = absurd cc
    by true false c d h k = absurd cc
    by true true false d h k = absurd cc
    by true true true false h k = absurd cc

-- ---- quotients
quotient_parts : (s t u : Span) → list_all fits (positive_quotient_claims s t u) ≡ true →
    (span_fits s ≡ true) × (span_fits t ≡ true) × (span_fits u ≡ true)
unfolding formula_fits
quotient_parts s t u all =
    let f = λ (g : Formula). formula_fits g in let p = λ (g h : Formula). product_fits (formed g) (formed h) in
    let one =
    and_parts (fits (Below (Product u.lo t.lo) s.lo))
    (list_all fits (Below (Product u.lo t.hi) s.lo ∷ Below s.hi (Product u.hi t.lo) ∷ Below s.hi (Product u.hi t.hi)
    ∷ [])) all in
    let two =
    and_parts (fits (Below (Product u.lo t.hi) s.lo))
    (list_all fits (Below s.hi (Product u.hi t.lo) ∷ Below s.hi (Product u.hi t.hi) ∷ [])) one.1 in
    let more =
    and_parts (fits (Below s.hi (Product u.hi t.lo))) (list_all fits (Below s.hi (Product u.hi t.hi) ∷ [])) two.1 in
    let first = and_parts (formula_fits u.lo && formula_fits t.lo &&
    product_fits (formed u.lo) (formed t.lo)) (formula_fits s.lo) one.0 in
    let second = and_parts (formula_fits u.lo && formula_fits t.hi &&
    product_fits (formed u.lo) (formed t.hi)) (formula_fits s.lo) two.0 in
    let third = and_parts (formula_fits s.hi) (formula_fits u.hi && formula_fits t.lo &&
    product_fits (formed u.hi) (formed t.lo)) more.0 in
    let low = three (formula_fits u.lo) (formula_fits t.lo) (product_fits (formed u.lo) (formed t.lo)) first.0 in
    let high = three (formula_fits u.lo) (formula_fits t.hi) (product_fits (formed u.lo) (formed t.hi)) second.0 in
    let up = three (formula_fits u.hi) (formula_fits t.lo) (product_fits (formed u.hi) (formed t.lo)) third.1 in (
      both_again (formula_fits s.lo) (formula_fits s.hi) first.1 third.0,
      both_again (formula_fits t.lo) (formula_fits t.hi) low.1 high.1,
      both_again (formula_fits u.lo) (formula_fits u.hi) low.0 up.0,
    )

-- the dividend, the divisor or the limit doesn't fit
pub dividend_none : (s t u : Span) → FormsSpan None s → Beyond ≡ judged (positive_quotient_claims s t u)
dividend_none s t u h = not_fitting (positive_quotient_claims s t u) (λ all. h (quotient_parts s t u all).0)

pub divisor_none : (s t u : Span) → FormsSpan None t → Beyond ≡ judged (positive_quotient_claims s t u)
divisor_none s t u h = not_fitting (positive_quotient_claims s t u) (λ all. h (quotient_parts s t u all).1)

pub limit_none : (s t u : Span) → FormsSpan None u → Beyond ≡ judged (positive_quotient_claims s t u)
limit_none s t u h = not_fitting (positive_quotient_claims s t u) (λ all. h (quotient_parts s t u all).2)

-- of a divisor of either sign
pub quotient_none : (s t u : Span) → FormsSpan None t → Beyond ≡ judged (quotient_claims s t u)
quotient_none s t u h = by (is_positive (formula_value t.lo))
  where
    by : (b : Bool) → Beyond ≡ judged (if b then positive_quotient_claims s t u
        else positive_quotient_claims (span_difference zero_span s) (span_difference zero_span t) u)
    by true = divisor_none s t u h
    by false =
        divisor_none (span_difference zero_span s) (span_difference zero_span t) u (minus_none zero_span t (inr h))

pub quotient_above : (s t u : Span) (j : Judgement) → is_positive (formula_value t.lo) ≡ true →
    j ≡ judged (positive_quotient_claims s t u) → j ≡ judged (quotient_claims s t u)
quotient_above s t u j e h = rw e h

pub quotient_else : (s t u : Span) (j : Judgement) → is_positive (formula_value t.lo) ≡ false →
    j ≡ judged (positive_quotient_claims (span_difference zero_span s) (span_difference zero_span t) u) →
    j ≡ judged (quotient_claims s t u)
quotient_else s t u j e h = rw e h

-- ---- fractions
-- a test of a number that fits, beside a fraction
beside_fraction : (o : Option Bool) (d : Dyadic) (c : Rational) (f : Formula) (r : Rational) (t u : Bool) →
    SomeIff o (IsTrue (fits_128 (d.m *ℤ pos (bottom c)))) t → Forms (Some d) f → c ≡ lowest r → t ≡ u →
    SomeIff o (IsTrue (fits_over f r && true)) (u && true)
beside_fraction (Some b) d c f r t u h k e same =
    let fits : fits_128 ((formed f).m *ℤ pos (bottom (lowest r))) ≡ true =
    sym (λ i. fits_128 ((k.1 i).m *ℤ pos (bottom (e i)))) ∙ h.0 in
    (rw (k.0, fits) refl, one_true b u (h.1 ∙ same))
beside_fraction None d c f r t u h k e same = λ all.
    let fits =
    and_parts (formula_fits f) (fits_128 ((formed f).m *ℤ pos (bottom (lowest r))))
    (and_parts (fits_over f r) true all).0 in
    h ((λ i. fits_128 ((k.1 i).m *ℤ pos (bottom (e i)))) ∙ fits.1)

-- a dyadic below a fraction, or above one
pub below_some : (o : Option Bool) {d : Dyadic} {c : Rational} (f : Formula) (r : Rational) →
    SomeIff o (IsTrue (fits_128 (d.m *ℤ pos (bottom c)))) (is_at_most (dyadic_value d) c) → Forms (Some d) f →
    c ≡ lowest r → SomeIff o (IsTrue (list_all fits (BelowFraction f r ∷ []))) (list_all holds (BelowFraction f r ∷ []))
below_some o {d} {c} f r h k e =
    beside_fraction o d c f r (is_at_most (dyadic_value d) c) (is_at_most (formula_value f) r) h k e
    ((λ i. is_at_most (dyadic_value (k.1 i)) (e i)) ∙ at_most_same (formed_is f) (lowest_is.same r))

pub below_none : (f : Formula) (r : Rational) → Forms None f → Beyond ≡ judged (BelowFraction f r ∷ [])
below_none f r h = rw (false_from_ne_true (formula_fits f) h) refl

pub above_some : (o : Option Bool) {d : Dyadic} {c : Rational} (f : Formula) (r : Rational) →
    SomeIff o (IsTrue (fits_128 (d.m *ℤ pos (bottom c)))) (is_at_most c (dyadic_value d)) → Forms (Some d) f →
    c ≡ lowest r → SomeIff o (IsTrue (list_all fits (AboveFraction r f ∷ []))) (list_all holds (AboveFraction r f ∷ []))
above_some o {d} {c} f r h k e =
    beside_fraction o d c f r (is_at_most c (dyadic_value d)) (is_at_most r (formula_value f)) h k e
    ((λ i. is_at_most (e i) (dyadic_value (k.1 i))) ∙ at_most_same (lowest_is.same r) (formed_is f))

pub above_none : (f : Formula) (r : Rational) → Forms None f → Beyond ≡ judged (AboveFraction r f ∷ [])
above_none f r h = rw (false_from_ne_true (formula_fits f) h) refl

-- ---- the same of values that are equal
pub forms_number : (d e : Dyadic) → d ≡ e → fits_128 e.m ≡ true → Forms (Some d) (Num e)
unfolding formula_fits formed
forms_number d e same h = (h, same)

pub forms_end : (v : Interval) (s : Span) → FormsSpan (Some v) s → Forms (Some v.lo) s.lo × Forms (Some v.hi) s.hi
forms_end v s h =
    let f = and_parts (formula_fits s.lo) (formula_fits s.hi) h.0 in
    ((f.0, ap (λ (y : Interval). y.lo) h.1), (f.1, ap (λ (y : Interval). y.hi) h.1))

-- ---- tests of signs
above_is : (z : ℤ) → lt_z (pos 0) z ≡ above_zero z
above_is (pos zero) = refl
above_is (pos (suc n)) = lt-ltb 0 (suc n) (omega arith)
above_is (negsuc n) = refl

below_is : (z : ℤ) → lt_z z (pos 0) ≡ below_zero z
below_is (pos n) = grind arith
below_is (negsuc n) = refl

pub above_test : (d : Dyadic) → lt_z (pos 0) d.m ≡ is_positive (dyadic_value d)
unfolding is_positive dyadic_value over
above_test d = above_is d.m

pub below_test : (d : Dyadic) → lt_z d.m (pos 0) ≡ is_negative (dyadic_value d)
unfolding is_negative dyadic_value over
below_test d = below_is d.m

-- ---- ends
pub ends_forms : (x y : Dyadic) (f g : Formula) → Forms (Some x) f → Forms (Some y) g →
    FormsSpan (Some (record { lo = x; hi = y })) (record { lo = f; hi = g })
ends_forms x y f g h k = (both_again (formula_fits f) (formula_fits g) h.0 k.0, λ i. record { lo = h.1 i; hi = k.1 i })

pub ends_none : (f g : Formula) → Forms None f ⊎ Forms None g → FormsSpan None (record { lo = f; hi = g })
ends_none f g (inl h) = λ all. h (and_parts (formula_fits f) (formula_fits g) all).0
ends_none f g (inr h) = λ all. h (and_parts (formula_fits f) (formula_fits g) all).1
