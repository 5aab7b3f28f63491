-- Forms of dyadics with few places, as each is that a text can spell: their products are near.
use Rattle.std.proofs.Common.{◌≡◌, ℕ, zero, suc, ◌≤◌, ◌<◌, ◌^◌, List, [], ◌∷◌, length, ◌⊎◌, inl, inr, refl, arith}
use Rattle.fx_model.specs.Tree.{at}
use Rattle.fx_rational.specs.Dyadic.{Dyadic, zero_dyadic}
use Rattle.fx_rational.specs.Interval.{Interval}
use Rattle.fx_inequalities.specs.Formula.{Num, span}
use Rattle.fx_formulas.specs.Places.{IsShort, IsShortSpan}
use Rattle.fx_formulas.proofs.Shorts.{short_within, short_sum, short_product, short_span_sum, short_span_difference, short_span_product, short_point, shorter_span}
use Rattle.fx_template.specs.AffineView.{LinearForm}
use Rattle.fx_template.specs.Combining.{HasNearForm, scaled_form, product_form}
use Rattle.fx_template.specs.ShortForms.{IsShortLinear}
use Rattle.fx_template.proofs.Near.{near_places, near_span}

-- half of the places that a dyadic can have
abbrev half : ℕ
half = 2 ^ 19

short_half : {p : ℕ} {a : LinearForm} → IsShortLinear p a → p ≤ half → IsShortLinear half a
short_half h le = record { coefs = λ j. short_within half le (h.coefs j); rest = shorter_span half le h.rest }

pub near_scaled : (n p : ℕ) (a : LinearForm) (m : Dyadic) → IsShortLinear p a → p ≤ 2 ^ 19 → IsShort half (Num m) →
    HasNearForm n (scaled_form a m)
near_scaled n p a m h le k =
    let short = short_half h le in
    record {
      coefs = λ j below. near_places _ (short_product k (short.coefs j));
      rest = near_span _ (short_span_product (short_point k) short.rest);
    }

pub near_product : (n p q : ℕ) (a b : LinearForm) (ranges : Interval × Interval) (centres : Dyadic × Dyadic) →
    IsShortLinear p a → IsShortLinear q b → p ≤ 2 ^ 19 → q ≤ 2 ^ 19 →
    IsShortSpan half (span ranges.0) → IsShortSpan half (span ranges.1) → IsShort half (Num centres.0) →
    IsShort half (Num centres.1) → HasNearForm n (product_form a b ranges centres)
near_product n p q a b ranges centres h k pl ql ga gb ma mb =
    let first = short_half h pl in let second = short_half k ql in
    record {
      coefs =
          λ j below. near_places _ (short_sum (short_product mb (first.coefs j)) (short_product ma (second.coefs j)));
      rest = near_span _ (short_span_sum
          (short_span_difference (short_span_sum (short_span_product (short_point mb) first.rest)
          (short_span_product (short_point ma) second.rest)) (short_point (short_product ma mb)))
          (short_span_product (short_span_difference ga (short_point ma)) (short_span_difference gb (short_point mb))));
    }

-- ---- ranges, one after the other
-- ---- the numbers of a form, one after the other
pub record AreShortBefore (n j : ℕ) (ds : List Dyadic) : Type 0 where
  pub each : (k : ℕ) → k < j → (at zero_dyadic ds k).e ≤ n

pub none_before : (n : ℕ) (ds : List Dyadic) → AreShortBefore n 0 ds
none_before n ds = record { each = λ k below. absurd (omega (arith, below)) }

-- past the last stand zeros
past_the_last : (ds : List Dyadic) (k : ℕ) → (k < length ds) ⊎ ((at zero_dyadic ds k).e ≡ 0)
past_the_last [] k = inr refl
past_the_last (d ∷ ds) zero = inl (omega arith)
past_the_last (d ∷ ds) (suc k) = by (past_the_last ds k)
  where
    by : (k < length ds) ⊎ ((at zero_dyadic ds k).e ≡ 0) →
        (suc k < length (d ∷ ds)) ⊎ ((at zero_dyadic (d ∷ ds) (suc k)).e ≡ 0)
    by (inl h) = inl (omega (arith, h))
    by (inr e) = inr e

pub all_short : (n : ℕ) (a : LinearForm) → AreShortBefore n (length a.coefs) a.coefs → a.rest.lo.e ≤ n →
    a.rest.hi.e ≤ n → IsShortLinear n a
all_short n a h lo hi = record {
  coefs = λ j. record { few = by j (past_the_last a.coefs j) };
  rest = record { lo = record { few = lo }; hi = record { few = hi } };
}
  where
    by : (j : ℕ) → (j < length a.coefs) ⊎ ((at zero_dyadic a.coefs j).e ≡ 0) → (at zero_dyadic a.coefs j).e ≤ n
    by j (inl below) = h.each j below
    by j (inr e) = omega (arith, e)
