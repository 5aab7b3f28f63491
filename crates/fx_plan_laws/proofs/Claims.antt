-- Claims that fit and are true, by the mantissas of their formulas at one exponent; beside fractions where these are
-- narrow.
use Rattle.std.proofs.Common.{◌≡◌, ℕ, suc, pred, ◌^◌, ◌/◌, ◌≤◌, true, List, [], ◌∷◌, pos, ◌*ℤ◌, ◌≤ℤ◌, refl, arith}
use Rattle.std.specs.Prelude.{unsigned_abs}
use Rattle.std.specs.List.{list_all}
use Rattle.std.proofs.Math.Nat.{div-le_self}
use Rattle.fx_rational.specs.Gcd.{gcd}
use Rattle.fx_rational.proofs.Integers.{nonneg_of_above}
use Rattle.fx_rational.proofs.Order.{mul_le_right, pow_above}
use Rattle.fx_rational.specs.Rational.{Rational, bottom, over, lowest, negative, AtMost}
use Rattle.fx_rational.specs.Dyadic.{Dyadic, dyadic_value, aligned, fits_128}
use Rattle.fx_rational.proofs.Laws.{equal_sym, le_trans, le_of_equal}
use Rattle.fx_rational.proofs.Tests.{at_most_holds}
use Rattle.fx_rational.proofs.Dyadics.{as_written, order, aligned_is}
use Rattle.fx_inequalities.specs.Formula.{Formula, Num, formula_value, formed, formula_fits, Span}
use Rattle.fx_inequalities.specs.Claim.{Claim, Below, BelowFraction, AboveFraction, fits, holds, fits_over, inside}
use Rattle.fx_inequalities.proofs.Formed.{formed_is}
use Rattle.fx_plan_laws.specs.Narrow.{IsNarrowNumber}
use Rattle.fx_plan_laws.proofs.Sizes.{within_more, product_up_to, within_fits, IsSmall, mantissa_within, within_pos}

-- each fits and is true
pub record AreMet (cs : List Claim) : Type 0 where
  pub fits : list_all fits cs ≡ true
  pub holds : list_all holds cs ≡ true

pub none_met : AreMet []
none_met = record { fits = refl; holds = refl }

-- mantissas at one exponent decide the order
pub le_aligned : (a b : Dyadic) (e : ℕ) → a.e ≤ e → b.e ≤ e → aligned a e ≤ℤ aligned b e →
    AtMost (dyadic_value a) (dyadic_value b)
le_aligned a b e h k l =
    le_trans (le_of_equal (equal_sym (aligned_is a e h)))
    (le_trans ((order (as_written (aligned a e) e) (as_written (aligned b e) e)).1
    (mul_le_right l (nonneg_of_above (pow_above e))))
    (le_of_equal (aligned_is b e k)))

pub le_formed : {e : ℕ} (a b : Formula) → (formed a).e ≤ e → (formed b).e ≤ e →
    aligned (formed a) e ≤ℤ aligned (formed b) e → AtMost (formula_value a) (formula_value b)
le_formed {e} a b h k l =
    le_trans (le_of_equal (equal_sym (formed_is a)))
    (le_trans (le_aligned (formed a) (formed b) e h k l) (le_of_equal (formed_is b)))

pub number_formed : (d : Dyadic) → formed (Num d) ≡ d
unfolding formed
number_formed d = refl

pub inside_met : (a b : Span) → formula_fits a.lo ≡ true → formula_fits a.hi ≡ true → formula_fits b.lo ≡ true →
    formula_fits b.hi ≡ true → AtMost (formula_value b.lo) (formula_value a.lo) →
    AtMost (formula_value a.hi) (formula_value b.hi) → AreMet (inside a b)
inside_met a b p q r s lo hi = record {
  fits = rw (p, q, r, s) refl;
  holds = let x = at_most_holds lo in let y = at_most_holds hi in rw (x, y) refl;
}

pub both_below_met : (a b c d : Formula) → formula_fits a ≡ true → formula_fits b ≡ true → formula_fits c ≡ true →
    formula_fits d ≡ true → AtMost (formula_value a) (formula_value b) → AtMost (formula_value c) (formula_value d) →
    AreMet (Below a b ∷ Below c d ∷ [])
both_below_met a b c d p q r s low high = record {
  fits = rw (p, q, r, s) refl;
  holds = let x = at_most_holds low in let y = at_most_holds high in rw (x, y) refl;
}

-- ---- beside fractions
at_least_one : (a b : ℕ) → a ≤ suc b → suc (pred a) ≤ suc b
at_least_one a b h = omega arith

-- lowest terms aren't wider
pub lowest_is_narrower : (q : Rational) → bottom (lowest q) ≤ bottom q
unfolding lowest over
lowest_is_narrower q =
    at_least_one (bottom q / gcd (unsigned_abs q.top) (bottom q)) q.less
    (div-le_self (bottom q) (gcd (unsigned_abs q.top) (bottom q)))

-- 2^62 times a denominator fits
pub over_fits : {e m : ℕ} {f : Formula} (c : Rational) → m ≤ 2 ^ 62 → IsSmall e m f → IsNarrowNumber c →
    fits_over f c ≡ true
over_fits {e} {m} {f} c l h narrow =
    let b = lowest_is_narrower c in
    let product =
    product_up_to (within_more l (mantissa_within h))
    (within_more {m = bottom (lowest c)} {k = 2 ^ 62} (omega (arith, b, narrow))
    (within_pos (bottom (lowest c)))) in
    let fine : fits_128 ((formed f).m *ℤ pos (bottom (lowest c))) ≡ true = within_fits (omega arith) product in
    let f = h.fits in rw (f, fine) refl

pub below_above_met : (a b : Formula) (c d : Rational) → fits_over a c ≡ true → fits_over b d ≡ true →
    AtMost (formula_value a) c → AtMost d (formula_value b) → AreMet (BelowFraction a c ∷ AboveFraction d b ∷ [])
below_above_met a b c d p q low high = record {
  fits = rw (p, q) refl;
  holds = let x = at_most_holds low in let y = at_most_holds high in rw (x, y) refl;
}

pub narrow_negative : (q : Rational) → IsNarrowNumber q → IsNarrowNumber (negative q)
unfolding negative
narrow_negative q h = h
