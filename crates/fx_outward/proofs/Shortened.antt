-- A whole part with binary places that don't all end in zeros, without those zeros.
use Rattle.std.proofs.Common.{◌≡◌, ℕ, ◌-◌, ◌/◌, ◌^◌, ◌<◌, ◌≤◌, true, false, ℤ, pos, ◌*ℤ◌, ◌+ℤ◌, sym, ap, ◌∙◌, arith}
use Rattle.std.proofs.Math.Pow.{pow_mono}
use Rattle.fx_rational.specs.Dyadic.{dyadic, fits_128}
use Rattle.fx_fraction.proofs.Halvings.{Parts}
use Rattle.fx_outward.specs.Grid.{is_small, lowest_dyadic}
use Rattle.fx_outward.proofs.Halves.{odd_step, long_sum, long_left}
use Rattle.fx_outward.proofs.Trimmed.{odd_left, fewer_places}

-- what is left of so few places fits
pub few_left : {f t s : ℕ} → Parts f s t → s ≤ 126 → f / 2 ^ t < 2 ^ 127
few_left {t = t} {s = s} p most =
    let n : s - t ≤ 126 = omega (arith, most) in let power : 2 ^ (s - t) ≤ 2 ^ 126 = pow_mono n in
    let few = p.few in let is = p.shifted in omega (arith, few, is, power)

module _ (w : ℤ) (f t s e : ℕ) (p : Parts f s t) (fits : s ≤ e) where
  -- a place is left
  some_left : 0 < s - t
  some_left = let l = p.less in omega (arith, l)

  -- with those zeros it's the same
  same_lowest : lowest_dyadic (w *ℤ pos (2 ^ (s - t)) +ℤ pos p.rest) (e - t) ≡
      lowest_dyadic (w *ℤ pos (2 ^ s) +ℤ pos f) e
  same_lowest = let l = p.less in fewer_places w f p.rest t s e (omega (arith, l)) fits p.is

  -- it's in lowest terms
  pub shortened : dyadic (w *ℤ pos (2 ^ (s - t)) +ℤ pos p.rest) (e - t) ≡
      lowest_dyadic (w *ℤ pos (2 ^ s) +ℤ pos f) e
  shortened =
      odd_step w p.rest (s - t) (e - t) some_left (omega (arith, fits)) (odd_left p.rest p.odd) ∙ same_lowest

  -- it isn't short where its mantissa doesn't fit
  pub too_long : (fits_128 (w *ℤ pos (2 ^ (s - t)) +ℤ pos p.rest) ≡ true → ⊥) →
      is_small (lowest_dyadic (w *ℤ pos (2 ^ s) +ℤ pos f) e) ≡ false
  too_long out =
      ap is_small (sym same_lowest)
      ∙ long_sum w p.rest (s - t) (e - t) some_left (omega (arith, fits)) (odd_left p.rest p.odd) out

  -- nor where the whole part's doesn't
  pub whole_too_long : s ≤ 126 → (fits_128 (w *ℤ pos (2 ^ (s - t))) ≡ true → ⊥) →
      is_small (lowest_dyadic (w *ℤ pos (2 ^ s) +ℤ pos f) e) ≡ false
  whole_too_long most out =
      ap is_small (sym same_lowest)
      ∙ long_left w p.rest (s - t) (e - t) some_left (omega (arith, most)) (omega (arith, fits)) p.few
      (odd_left p.rest p.odd) out
