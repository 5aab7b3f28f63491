-- The spelling in lowest terms.
use Rattle.std.proofs.Common.{◌≡◌, ℕ, zero, suc, pred, ◌*◌, ◌/◌, ◌<◌, ℤ, pos, negsuc, ◌*ℤ◌, neg_ℤ, [], ◌∷◌, refl, sym, ap, subst, ◌∙◌, arith}
use Rattle.std.specs.Prelude.{unsigned_abs, int_div}
use Rattle.std.specs.Int.{IsGcd, ◌∣◌}
use Rattle.std.proofs.lemmas.Nat.Gcd.{mod-eq-zero_of_dvd, same_from_IsGcd}
use Rattle.fx_rational.specs.Gcd.{IsLowest, gcd}
use Rattle.fx_rational.proofs.Integers.{neg_ℤ-*ℤ}
use Rattle.fx_rational.proofs.LowestTerms.{scaled, gcd_is, one_spelling}
use Rattle.fx_rational.proofs.Quote.{by_quotes, quotes}
use Rattle.fx_rational.specs.Rational.{Rational, bottom, over, Equal, lowest}
use Rattle.fx_rational.specs.LowestLaw.{LowestLaw}
use Rattle.fx_rational.proofs.Laws.{equal_sym, equal_trans}

pub gcd_above : (a b g : ℕ) → 0 < b → IsGcd a b g → 0 < g
gcd_above a b zero h d = absurd (let e = mod-eq-zero_of_dvd 0 d.1 in omega arith)
gcd_above a b (suc g) h d = omega arith

pub times_back : (a g : ℕ) → g ∣ a → a ≡ a / g * g
times_back a g d = let e = mod-eq-zero_of_dvd g d in omega arith

one_of : (h g : ℕ) → 0 < g → h * g ≡ g → h ≡ 1
one_of zero g some e = absurd (omega arith)
one_of (suc zero) g some e = refl
one_of (suc (suc h)) g some e = absurd (omega arith)

-- what is left of two numbers has no common divisor
pub parts_apart : (a b g : ℕ) → 0 < g → IsGcd a b g → IsGcd (a / g) (b / g) 1
parts_apart a b g some h =
    let r = scaled (b / g) (a / g) (b / g) (omega arith) in
    let k : IsGcd (a / g * g) (b / g * g) (r.0 * g) = r.2 g in
    let k' : IsGcd a (b / g * g) (r.0 * g) = subst (λ x. IsGcd x (b / g * g) (r.0 * g)) (sym (times_back a g h.0)) k in
    let k'' : IsGcd a b (r.0 * g) = subst (λ x. IsGcd a x (r.0 * g)) (sym (times_back b g h.1)) k' in
    subst (λ x. IsGcd (a / g) (b / g) x) (one_of r.0 g some (same_from_IsGcd a b (r.0 * g) g k'' h)) r.1

pub part_some : (b g : ℕ) → 0 < b → g ∣ b → 0 < b / g
part_some b g below d = by (b / g) (times_back b g d)
  where
    by : (q : ℕ) → b ≡ q * g → 0 < q
    by zero e = absurd (omega arith)
    by (suc q) e = omega arith

pub size-neg_ℤ : (z : ℤ) → unsigned_abs (neg_ℤ z) ≡ unsigned_abs z
size-neg_ℤ (pos zero) = refl
size-neg_ℤ (pos (suc n)) = refl
size-neg_ℤ (negsuc n) = refl

part_size : (z : ℤ) (g : ℕ) → unsigned_abs (int_div z (pos g)) ≡ unsigned_abs z / g
part_size (pos n) g = refl
part_size (negsuc n) g = size-neg_ℤ (pos (suc n / g))

part_back : (z : ℤ) (g : ℕ) → g ∣ unsigned_abs z → int_div z (pos g) *ℤ pos g ≡ z
part_back (pos n) g d = ap pos (sym (times_back n g d))
part_back (negsuc n) g d =
    neg_ℤ-*ℤ (pos (suc n / g)) (pos g) ∙ ap (λ (k : ℕ). neg_ℤ (pos k)) (sym (times_back (suc n) g d))

-- ---- the spelling of r, whose numbers have the greatest common divisor g

abbrev divisor : Rational → ℕ
divisor r = gcd (unsigned_abs r.top) (bottom r)

divisor_is : (r : Rational) → IsGcd (unsigned_abs r.top) (bottom r) (divisor r)
divisor_is r = gcd_is (unsigned_abs r.top) (bottom r)

divisor_some : (r : Rational) → 0 < divisor r
divisor_some r = gcd_above (unsigned_abs r.top) (bottom r) (divisor r) (omega arith) (divisor_is r)

bottom_some : (r : Rational) → 0 < bottom r / divisor r
bottom_some r = part_some (bottom r) (divisor r) (omega arith) (divisor_is r).1

pub suc_pred : (n : ℕ) → 0 < n → suc (pred n) ≡ n
suc_pred zero h = absurd (omega arith)
suc_pred (suc n) h = refl

pub lowest_top : (r : Rational) → unsigned_abs (lowest r).top ≡ unsigned_abs r.top / divisor r
unfolding lowest over
lowest_top r = part_size r.top (divisor r)

pub lowest_bottom : (r : Rational) → bottom (lowest r) ≡ bottom r / divisor r
unfolding lowest over
lowest_bottom r = suc_pred (bottom r / divisor r) (bottom_some r)

top_back : (r : Rational) → (lowest r).top *ℤ pos (divisor r) ≡ r.top
unfolding lowest over
top_back r = part_back r.top (divisor r) (divisor_is r).0

bottom_back : (r : Rational) → bottom (lowest r) * divisor r ≡ bottom r
bottom_back r = ap (λ n. n * divisor r) (lowest_bottom r) ∙ sym (times_back (bottom r) (divisor r) (divisor_is r).1)

regrouped : (x q g b : ℤ) → q *ℤ g ≡ b → x *ℤ b ≡ (x *ℤ g) *ℤ q
regrouped x q g b e =
    ap (λ z. x *ℤ z) (sym e) ∙ by_quotes {ρ = x ∷ q ∷ g ∷ []} (search quotes depth 20) (search quotes depth 20) refl

-- ---- the law

lowest_same : (r : Rational) → Equal (lowest r) r
lowest_same r =
    record {
      equal =
          regrouped (lowest r).top (pos (bottom (lowest r))) (pos (divisor r)) (pos (bottom r)) (ap pos (bottom_back r))
          ∙ ap (λ z. z *ℤ pos (bottom (lowest r))) (top_back r);
    }

lowest_reduced : (r : Rational) → IsLowest (lowest r).top (bottom (lowest r))
lowest_reduced r = record {
  above = omega arith;
  coprime = subst (λ n. IsGcd (unsigned_abs (lowest r).top) n 1) (sym (lowest_bottom r))
      (subst (λ n. IsGcd n (bottom r / divisor r) 1) (sym (lowest_top r))
      (parts_apart (unsigned_abs r.top) (bottom r) (divisor r) (divisor_some r) (divisor_is r)));
}

rational_same : (r s : Rational) → r.top ≡ s.top → bottom r ≡ bottom s → r ≡ s
rational_same r s e f = λ i. record { top = e i; less = pred (f i) }

lowest_only : (r s : Rational) → Equal s r → IsLowest s.top (bottom s) → s ≡ lowest r
lowest_only r s e h =
    let k =
    one_spelling s.top (lowest r).top (bottom s) (bottom (lowest r)) h (lowest_reduced r)
    (equal_trans e (equal_sym (lowest_same r))).equal in
    rational_same s (lowest r) k.0 k.1

pub lowest_is : LowestLaw
lowest_is = record {
  same = lowest_same;
  reduced = lowest_reduced;
  only = lowest_only;
  of_equals = λ r s e. lowest_only s (lowest r) (equal_trans (lowest_same r) e) (lowest_reduced r);
}
