-- The ends of literals' and inputs' errors on the grid.
use Rattle.std.proofs.Common.{◌≡◌, ℕ, ◌^◌, ℤ, pos, ◌-ℤ◌, ◌*ℤ◌, neg_ℤ, sym, ap, subst, ◌∙◌}
use Rattle.fx_rational.specs.Rational.{Rational, bottom, over, minus, negative, lowest, scaled, floor, floor_div, ceil_div, Equal}
use Rattle.fx_rational.proofs.Lowest.{lowest_is}
use Rattle.fx_rational.proofs.Laws.{equal_trans, equal_refl, minus_same, negative_same}
use Rattle.fx_inequalities.specs.Formula.{formula_value, word_at}
use Rattle.fx_outward.specs.Grid.{lowest_dyadic, grid_down, grid_up}
use Rattle.fx_outward.specs.Narrow.{unit_value}
use Rattle.fx_outward.specs.Exact.{scaled_top, scaled_bottom, unit_bottom}
use Rattle.fx_outward.proofs.Exacts.{over_down, over_up, literal_word, literal_value, input_value, unit_some}
use Rattle.fx_outward.proofs.Spelling.{down_same, up_same}

module _ (c : Rational) (f : ℤ) (e r : ℕ)
    (left : pos r ≡ scaled_top c f -ℤ floor_div (scaled_top c f) (scaled_bottom c f) *ℤ pos (scaled_bottom c f)) where
  same : Equal (over (neg_ℤ (pos r)) (unit_bottom c f)) (minus (formula_value (word_at (floor (scaled c f)) f)) c)
  same = literal_value c (floor (scaled c f)) f r (left
      ∙ ap (λ (z : ℤ). scaled_top c f -ℤ z *ℤ pos (scaled_bottom c f)) (sym (literal_word c f)))

  pub literal_down : lowest_dyadic (floor_div (neg_ℤ (pos r) *ℤ pos (2 ^ e)) (unit_bottom c f)) e
      ≡ grid_down e (minus (formula_value (word_at (floor (scaled c f)) f)) c)
  literal_down = over_down (neg_ℤ (pos r)) (unit_bottom c f) e (unit_some c f) ∙ down_same e _ _ same

  pub literal_up : lowest_dyadic (ceil_div (neg_ℤ (pos r) *ℤ pos (2 ^ e)) (unit_bottom c f)) e
      ≡ grid_up e (minus (formula_value (word_at (floor (scaled c f)) f)) c)
  literal_up = over_up (neg_ℤ (pos r)) (unit_bottom c f) e (unit_some c f) ∙ up_same e _ _ same

module _ (c r : Rational) (f : ℤ) (e : ℕ) (is : c ≡ lowest r) where
  equal : Equal c r
  equal = subst (λ (q : Rational). Equal q r) (sym is) (lowest_is.same r)

  pub input_down : lowest_dyadic
      (floor_div ((neg_ℤ (scaled_top c f) -ℤ pos (scaled_bottom c f)) *ℤ pos (2 ^ e)) (unit_bottom c f)) e
      ≡ grid_down e (minus (negative r) (unit_value f))
  input_down = over_down (neg_ℤ (scaled_top c f) -ℤ pos (scaled_bottom c f)) (unit_bottom c f) e (unit_some c f)
      ∙ down_same e _ _ (equal_trans (input_value c f) (minus_same (negative_same equal) (equal_refl (unit_value f))))

  pub input_up : lowest_dyadic (ceil_div (c.top *ℤ pos (2 ^ e)) (bottom c)) e ≡ grid_up e r
  unfolding grid_up scaled
  input_up = up_same e c r equal
