-- Words at a point: their mantissas, and sums that lie well inside all words.
use Rattle.std.proofs.Common.{◌≡◌, ℕ, suc, ◌+◌, ◌-◌, ◌*◌, ◌^◌, ◌<◌, ◌≤◌, [], ◌∷◌, ℤ, pos, negsuc, ◌+ℤ◌, ◌*ℤ◌, neg_ℤ, sym, ap, subst, ◌∙◌, arith, pow_pos, pow-add}
use Rattle.std.proofs.lemmas.Int.{ints}
use Rattle.std.proofs.lemmas.Nat.{mul-le}
use Rattle.fx_rational.proofs.Integers.{neg_ℤ-*ℤ}
use Rattle.fx_rational.specs.Rational.{AtMost}
use Rattle.fx_rational.specs.Dyadic.{Dyadic, aligned, word_dyadic}
use Rattle.fx_rational.proofs.Dyadics.{dyadic_exponent, raised}
use Rattle.fx_inequalities.specs.Formula.{Formula, formula_value, formed, word_at}
use Rattle.fx_inequalities.specs.Claim.{Below}
use Rattle.fx_fraction.proofs.Halvings.{double_power}
use Rattle.fx_plan_laws.proofs.Powers.{power_small}
use Rattle.fx_plan_laws.proofs.Sizes.{IsUpTo, product_up_to, IsSmall, small_number, aligned_at, within_pos}
use Rattle.fx_plan_laws.proofs.Claims.{AreMet, le_formed, number_formed, both_below_met}

word_places : (w f : ℤ) (e d : ℕ) → pos e ≡ pos d +ℤ f → (word_dyadic w f).e ≤ e
word_places w (pos f) e d h = let l = dyadic_exponent w f in omega (arith, ints, l)
word_places w (negsuc f) e d h = omega arith

-- word w at point f has the mantissa w * 2^d at the exponent f + d
word_mantissa : (w f : ℤ) (e d : ℕ) → pos e ≡ pos d +ℤ f → aligned (word_dyadic w f) e ≡ w *ℤ pos (2 ^ d)
word_mantissa w (pos f) e d h =
    let q : e - f ≡ d = omega (arith, ints) in aligned_at w f e ∙ ap (λ (n : ℕ). w *ℤ pos (2 ^ n)) q
word_mantissa w (negsuc f) e d h =
    let q : (e - 0) + suc f ≡ d = omega (arith, ints) in
    sym (raised w (e - 0) (suc f)) ∙ ap (λ (n : ℕ). w *ℤ pos (2 ^ n)) q

pub small_word : {m e : ℕ} (d : ℕ) (w f : ℤ) → pos e ≡ pos d +ℤ f → m * 2 ^ d < 2 ^ 127 → IsUpTo m w →
    IsSmall e (m * 2 ^ d) (word_at w f)
small_word {m} {e} d w f at l h =
    small_number (word_dyadic w f) e (m * 2 ^ d) (word_places w f e d at)
    (subst (IsUpTo (m * 2 ^ d)) (sym (word_mantissa w f e d at)) (product_up_to h (within_pos (2 ^ d)))) l

-- at the exponent of its point it is the word itself
pub small_word_at : (w : ℤ) (f r : ℕ) → r < 2 ^ 127 → IsUpTo r w → IsSmall f r (word_at w (pos f))
small_word_at w f r l h =
    let e : r * 2 ^ 0 ≡ r = omega arith in
    subst (λ (m : ℕ). IsSmall f m (word_at w (pos f))) e
    (small_word {m = r} {e = f} 0 w (pos f) (omega (arith, ints)) (omega (arith, l)) h)

-- where a sum is at most half of what the words reach
module _ (n e d t : ℕ) (f : ℤ) (at : pos e ≡ pos d +ℤ f) (some : 2 ≤ n) (fits : (n - 1) + d ≤ 126)
    (few : t ≤ 2 ^ (n - 2 + d)) where
  double : 2 ^ (n - 1) ≡ 2 ^ (n - 2) + 2 ^ (n - 2)
  double = let e : n - 1 ≡ (n - 2) + 1 = omega arith in ap (λ (k : ℕ). 2 ^ k) e ∙ double_power (n - 2)

  whole_few : 2 ^ (n - 1) * 2 ^ d < 2 ^ 127
  whole_few = let p = pow-add 2 (n - 1) d in let q = power_small fits in omega (arith, p, q)

  half_few : t ≤ 2 ^ (n - 2) * 2 ^ d
  half_few = let p = pow-add 2 (n - 2) d in omega (arith, p, few)

  low_few : t ≤ 2 ^ (n - 1) * 2 ^ d
  low_few =
      let m = mul-le (2 ^ (n - 2)) (2 ^ d) (2 ^ (n - 1)) (2 ^ d) (omega (arith, double)) (omega arith) in
      omega (arith, half_few, m)

  high_few : t ≤ (2 ^ (n - 1) - 1) * 2 ^ d
  high_few =
      let p = pow_pos (n - 2) in
      let m = mul-le (2 ^ (n - 2)) (2 ^ d) (2 ^ (n - 1) - 1) (2 ^ d) (omega (arith, double, p)) (omega arith) in
      omega (arith, half_few, m)

  low_word : IsSmall e (2 ^ (n - 1) * 2 ^ d) (word_at (neg_ℤ (pos (2 ^ (n - 1)))) f)
  low_word =
      small_word d (neg_ℤ (pos (2 ^ (n - 1)))) f at whole_few
      (record { low = omega (arith, ints); high = omega (arith, ints) })

  high_word : IsSmall e (2 ^ (n - 1) * 2 ^ d) (word_at (pos (2 ^ (n - 1) - 1)) f)
  high_word =
      small_word d (pos (2 ^ (n - 1) - 1)) f at whole_few
      (record { low = omega (arith, ints); high = omega (arith, ints) })

  low_mantissa : aligned (formed (word_at (neg_ℤ (pos (2 ^ (n - 1)))) f)) e ≡ neg_ℤ (pos (2 ^ (n - 1) * 2 ^ d))
  low_mantissa = ap (λ (x : Dyadic). aligned x e) (number_formed (word_dyadic (neg_ℤ (pos (2 ^ (n - 1)))) f))
      ∙ word_mantissa (neg_ℤ (pos (2 ^ (n - 1)))) f e d at ∙ neg_ℤ-*ℤ (pos (2 ^ (n - 1))) (pos (2 ^ d))

  high_mantissa : aligned (formed (word_at (pos (2 ^ (n - 1) - 1)) f)) e ≡ pos ((2 ^ (n - 1) - 1) * 2 ^ d)
  high_mantissa = ap (λ (x : Dyadic). aligned x e) (number_formed (word_dyadic (pos (2 ^ (n - 1) - 1)) f))
      ∙ word_mantissa (pos (2 ^ (n - 1) - 1)) f e d at

  pub low_holds : (s : Formula) → IsSmall e t s →
      AtMost (formula_value (word_at (neg_ℤ (pos (2 ^ (n - 1)))) f)) (formula_value s)
  low_holds s h = le_formed (word_at (neg_ℤ (pos (2 ^ (n - 1)))) f) s low_word.places h.places (let q = h.size.low in
      let r = low_mantissa in let l = low_few in omega (arith, ints, q, r, l))

  pub high_holds : (s : Formula) → IsSmall e t s →
      AtMost (formula_value s) (formula_value (word_at (pos (2 ^ (n - 1) - 1)) f))
  high_holds s h = le_formed s (word_at (pos (2 ^ (n - 1) - 1)) f) h.places high_word.places (let q = h.size.high in
      let r = high_mantissa in let l = high_few in omega (arith, ints, q, r, l))

  pub words_met : (a b : Formula) → IsSmall e t a → IsSmall e t b →
      AreMet (Below (word_at (neg_ℤ (pos (2 ^ (n - 1)))) f) a ∷ Below b (word_at (pos (2 ^ (n - 1) - 1)) f) ∷ [])
  words_met a b h g =
      both_below_met (word_at (neg_ℤ (pos (2 ^ (n - 1)))) f) a b
      (word_at (pos (2 ^ (n - 1) - 1)) f) low_word.fits h.fits g.fits high_word.fits (low_holds a h) (high_holds b g)
