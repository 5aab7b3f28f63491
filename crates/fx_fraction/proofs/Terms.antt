-- Fractions in lowest terms, and the limits.
use Rattle.std.proofs.Common.{◌≡◌, ℕ, zero, suc, pred, ◌*◌, ◌/◌, ◌^◌, ◌<◌, ◌≤◌, ℤ, pos, negsuc, ◌*ℤ◌, neg_ℤ, ◌<ℤ◌, ◌-ℤ◌, Bool, true, false, Option, Some, FitsSigned, to_z, of_z, lit<, refl, sym, ap, subst, ◌∙◌, arith}
use Rattle.std.specs.Prelude.{unsigned_abs, int_lt, int_div, IsSomeAnd}
use Rattle.std.specs.Int.{IsGcd, w128}
use Rattle.std.proofs.Math.Nat.{div-le_self}
use Rattle.std.proofs.lemmas.Nat.{mul-lt}
use Rattle.std.proofs.lemmas.Int.{ints, fits_signed_mul, unsigned_abs-mul, to_z-of_z}
use Rattle.std.proofs.lemmas.Nat.Gcd.{same_from_IsGcd}
use Rattle.fx_rational.specs.Gcd.{gcd}
use Rattle.fx_rational.proofs.LowestTerms.{gcd_is}
use Rattle.fx_rational.specs.Rational.{Rational, bottom, over, negative, quotient, divided, lowest}
use Rattle.fx_rational.specs.Decimal.{Decimal}
use Rattle.fx_rational.proofs.Lowest.{suc_pred, size-neg_ℤ, part_some, lowest_top, lowest_bottom}
use Rattle.fx_fraction.specs.Numeral.{signed}
use Rattle.fx_fraction.specs.Fractions.{IsFraction, FitsFraction}
use Rattle.fx_fraction.proofs.Quanta.{ten_pos, ten_small}

pub signed_size : (s : Bool) (t : ℕ) → unsigned_abs (signed s t) ≡ t
signed_size true zero = refl
signed_size true (suc t) = refl
signed_size false t = refl

-- what `made` makes is within the limits
pub fraction_is : (s : Bool) (t u : ℕ) (x y : ℤ) → 0 < u → t < 2 ^ 62 → u < 2 ^ 62 → IsGcd t u 1 → x ≡ signed s t →
    y ≡ pos u → IsFraction x y
fraction_is s t u x y above small few h ex ey =
    let m : unsigned_abs x ≡ t = ap unsigned_abs ex ∙ signed_size s t in
    let n : unsigned_abs y ≡ u = ap unsigned_abs ey in
    record {
      above = rw ey (omega (arith, ints));
      top_small = omega arith;
      bottom_small = omega arith;
      coprime = subst (λ k. IsGcd k (unsigned_abs y) 1) (sym m) (subst (λ k. IsGcd t k 1) (sym n) h);
    }

not_below : (a : ℕ) → int_lt (pos a) (pos 0) ≡ false
not_below a = grind (arith, ints)

-- a quotient by a number above zero keeps the sign
quotient_signed : (z : ℤ) (g : ℕ) → signed (int_lt z (pos 0)) (unsigned_abs z / g) ≡ int_div z (pos g)
quotient_signed (pos n) g = ap (λ s. signed s (n / g)) (not_below n)
quotient_signed (negsuc n) g = refl

-- p / q divided by the greatest common divisor
pub lowest_over : (p : ℤ) (q g : ℕ) → 0 < q → IsGcd (unsigned_abs p) q g
    → (let made : Rational = record { top = signed (int_lt p (pos 0)) (unsigned_abs p / g); less = pred (q / g) } in
    made ≡ lowest (over p q))
unfolding lowest over
lowest_over p zero g some h = absurd (omega arith)
lowest_over p (suc k) g some h =
    let e : g ≡ gcd (unsigned_abs p) (suc k) =
    same_from_IsGcd (unsigned_abs p) (suc k) g (gcd (unsigned_abs p) (suc k)) h (gcd_is (unsigned_abs p) (suc k)) in
    let at = λ (n : ℕ). let made : Rational = record {
      top = signed (int_lt p (pos 0)) (unsigned_abs p / n);
      less = pred (suc k / n);
    } in made in
    ap at e ∙ (λ i. record {
      top = quotient_signed p (gcd (unsigned_abs p) (suc k)) i;
      less = pred (suc k / gcd (unsigned_abs p) (suc k));
    })

-- the numbers of the spelling in lowest terms
pub top_over : (p : ℤ) (q g : ℕ) → 0 < q → IsGcd (unsigned_abs p) q g →
    unsigned_abs (lowest (over p q)).top ≡ unsigned_abs p / g
top_over p q g some h = ap (λ (r : Rational). unsigned_abs r.top) (sym (lowest_over p q g some h))
    ∙ signed_size (int_lt p (pos 0)) (unsigned_abs p / g)

pub bottom_over : (p : ℤ) (q g : ℕ) → 0 < q → IsGcd (unsigned_abs p) q g → bottom (lowest (over p q)) ≡ q / g
bottom_over p q g some h =
    ap (λ (r : Rational). bottom r) (sym (lowest_over p q g some h)) ∙ suc_pred (q / g) (part_some q g some h.1)

-- what is made of the parts
pub made_is : (p : ℤ) (q g t u : ℕ) (s : Bool) (c : Rational) → 0 < q → IsGcd (unsigned_abs p) q g →
    s ≡ int_lt p (pos 0) → t ≡ unsigned_abs p / g → u ≡ q / g → t < 2 ^ 62 → u < 2 ^ 62
    → c ≡ record { top = signed s t; less = pred u } → FitsFraction (lowest (over p q)) × (c ≡ lowest (over p q))
made_is p q g t u s c some h es et eu small few e =
    let l : c ≡ lowest (over p q) = e ∙ (λ i. record { top = signed (es i) (et i); less = pred (eu i) })
    ∙ lowest_over p q g some h in
    let a = top_over p q g some h in
    let b = bottom_over p q g some h in
    (record { top = rw a (omega arith); bottom = rw b (omega arith) }, l)

-- ---- the operations in 128 bits

pub product_fits : (x y : ℤ) → unsigned_abs x < 2 ^ 62 → unsigned_abs y < 2 ^ 62 → FitsSigned w128 (x *ℤ y)
product_fits x y h k = fits_signed_mul w128 x y (2 ^ 62) (2 ^ 62) (omega arith) (omega arith) (lit< tt)

pub product_small : (x y : ℤ) → unsigned_abs x < 2 ^ 62 → unsigned_abs y < 2 ^ 62 → unsigned_abs (x *ℤ y) < 2 ^ 124
product_small x y h k =
    rw (unsigned_abs-mul x y) (let m = mul-lt (unsigned_abs x) (unsigned_abs y) (2 ^ 62) (2 ^ 62) h k in omega arith)

pub small_fits : (x : ℤ) → unsigned_abs x < 2 ^ 124 → FitsSigned w128 x
small_fits (pos n) h = record { sfits = omega arith }
small_fits (negsuc n) h = record { sfits = omega arith }

-- `-p`
pub neg_fits : (p : ℤ) → FitsSigned w128 p → unsigned_abs p < 2 ^ 124 →
    to_z w128 (of_z w128 (pos 0 -ℤ to_z w128 (of_z w128 p))) ≡ neg_ℤ p
neg_fits p f h =
    let e : pos 0 -ℤ to_z w128 (of_z w128 p) ≡ neg_ℤ p = rw (to_z-of_z w128 p f) (omega (arith, ints)) in
    ap (λ z. to_z w128 (of_z w128 z)) e ∙ to_z-of_z w128 (neg_ℤ p) (small_fits (neg_ℤ p) (rw (size-neg_ℤ p) h))

pub fraction_neg : (p q x y : ℤ) → IsFraction p q → x ≡ neg_ℤ p → y ≡ q → IsFraction x y
fraction_neg p q x y h ex ey =
    let m : unsigned_abs x ≡ unsigned_abs p = ap unsigned_abs ex ∙ size-neg_ℤ p in
    record {
      above = rw ey h.above;
      top_small = omega (arith, h.top_small);
      bottom_small = rw ey h.bottom_small;
      coprime = subst (λ k. IsGcd k (unsigned_abs y) 1) (sym m) (rw ey h.coprime);
    }

pub negative_is : (a : Rational) (x : ℤ) (n : ℕ) → x ≡ neg_ℤ a.top → n ≡ a.less →
    (let c : Rational = record { top = x; less = n } in c ≡ negative a)
unfolding negative
negative_is a x n e f = rw (e, f) refl

-- ---- quotients

-- a divisor above zero, and one below it
pub quotient_up : (a b : Rational) → pos 0 <ℤ b.top →
    quotient a b ≡ Some (over (a.top *ℤ pos (bottom b)) (bottom a * unsigned_abs b.top))
unfolding quotient divided
quotient_up a b h = by b.top h
  where
    by : (t : ℤ) → pos 0 <ℤ t →
        divided a.top (bottom a) t (bottom b) ≡ Some (over (a.top *ℤ pos (bottom b)) (bottom a * unsigned_abs t))
    by (pos zero) h = absurd (omega (arith, ints))
    by (pos (suc m)) h = refl
    by (negsuc m) h = absurd h.lt

pub quotient_down : (a b : Rational) → b.top <ℤ pos 0 →
    quotient a b ≡ Some (over (neg_ℤ (a.top *ℤ pos (bottom b))) (bottom a * unsigned_abs b.top))
unfolding quotient divided
quotient_down a b h = by b.top h
  where
    by : (t : ℤ) → t <ℤ pos 0 →
        divided a.top (bottom a) t (bottom b)
        ≡ Some (over (neg_ℤ (a.top *ℤ pos (bottom b))) (bottom a * unsigned_abs t))
    by (pos m) h = absurd (omega (arith, ints))
    by (negsuc m) h = refl

pub some_and : (o : Option Rational) (r : Rational) (P : Rational → Type 0) → o ≡ Some r → P r → IsSomeAnd o P
some_and o r P e h = subst (λ x. IsSomeAnd x P) (sym e) h

-- ---- decimals

-- lower terms keep the limits
pub lowest_fits : (r : Rational) → unsigned_abs r.top < 2 ^ 62 → bottom r < 2 ^ 62 → FitsFraction (lowest r)
lowest_fits r h k = record {
  top = rw (lowest_top r) (omega (arith, div-le_self (unsigned_abs r.top) (gcd (unsigned_abs r.top) (bottom r))));
  bottom = rw (lowest_bottom r) (omega (arith, div-le_self (bottom r) (gcd (unsigned_abs r.top) (bottom r))));
}

pub decimal_fits : (d : Decimal) → unsigned_abs d.a < 2 ^ 62 → d.b ≤ 18 → FitsFraction (lowest (over d.a (10 ^ d.b)))
unfolding over
decimal_fits d h k = lowest_fits (over d.a (10 ^ d.b)) h (let p = ten_small d.b k in
    let s = suc_pred (10 ^ d.b) (ten_pos d.b) in omega arith)
