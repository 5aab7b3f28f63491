-- The first place at which a test is true.
use Rattle.std.proofs.Common.{◌≡◌, ℕ, zero, suc, ◌+◌, ◌<◌, ◌≤◌, Bool, true, false, if◌then◌else◌, refl, sym, ap, ◌∙◌, arith}
use Rattle.fx_plan_laws.specs.Powers.{first_true}
use Rattle.fx_plan_laws.specs.Searches.{FirstTrueLaw}

-- none of the n was passed in vain: where it isn't the end, the test is true there
pub first_is_true : (n : ℕ) (test : ℕ → Bool) (i : ℕ) → first_true n test i < i + n → test (first_true n test i) ≡ true
first_is_true zero test i lt = absurd (omega (arith, lt))
first_is_true (suc n) test i lt = by (test i) refl (λ l. first_is_true n test (i + 1) l) lt
  where
    by : (t : Bool) → test i ≡ t → (first_true n test (i + 1) < (i + 1) + n → test (first_true n test (i + 1)) ≡ true) →
        (if t then i else first_true n test (i + 1)) < i + suc n →
        test (if t then i else first_true n test (i + 1)) ≡ true
    by true e more lt = e
    by false e more lt = more (omega (arith, lt))

-- it isn't behind another place where the test is true
pub first_is_least : (n : ℕ) (test : ℕ → Bool) (i j : ℕ) → i ≤ j → j < i + n → test j ≡ true → first_true n test i ≤ j
first_is_least zero test i j le lt e = absurd (omega (arith, le, lt))
first_is_least (suc n) test i j le lt e =
    by (test i) refl (λ l. first_is_least n test (i + 1) j l (omega (arith, lt)) e)
  where
    next : test i ≡ false → i + 1 ≤ j
    next f = by_order (λ (same : i ≡ j). absurd (let g : test j ≡ false = ap test (sym same) ∙ f in cc))
      where
        by_order : (i ≡ j → ⊥) → i + 1 ≤ j
        by_order other = grind (arith, le, other)

    by : (t : Bool) → test i ≡ t → (i + 1 ≤ j → first_true n test (i + 1) ≤ j) →
        (if t then i else first_true n test (i + 1)) ≤ j
    by true f more = le
    by false f more = more (next f)

-- nor behind the n
pub first_at_most : (n : ℕ) (test : ℕ → Bool) (i : ℕ) → first_true n test i ≤ i + n
first_at_most zero test i = omega arith
first_at_most (suc n) test i = by (test i) (first_at_most n test (i + 1))
  where
    by : (t : Bool) → first_true n test (i + 1) ≤ (i + 1) + n → (if t then i else first_true n test (i + 1)) ≤ i + suc n
    by true h = omega arith
    by false h = omega (arith, h)

-- nor before the first
pub first_at_least : (n : ℕ) (test : ℕ → Bool) (i : ℕ) → i ≤ first_true n test i
first_at_least zero test i = omega arith
first_at_least (suc n) test i = by (test i) (first_at_least n test (i + 1))
  where
    by : (t : Bool) → i + 1 ≤ first_true n test (i + 1) → i ≤ (if t then i else first_true n test (i + 1))
    by true h = omega arith
    by false h = omega (arith, h)

pub first_is : FirstTrueLaw
first_is n test i = record {
  from_first = first_at_least n test i;
  to_last = first_at_most n test i;
  holds = λ l. first_is_true n test i l;
  least = λ j p q e. first_is_least n test i j p q e;
}
