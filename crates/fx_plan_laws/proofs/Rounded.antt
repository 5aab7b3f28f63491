-- Numbers in units, rounded upward.
use Rattle.std.proofs.Common.{◌≡◌, ℕ, suc, ◌+◌, ◌-◌, ◌*◌, ◌^◌, ◌<◌, ◌≤◌, [], ◌∷◌, ℤ, pos, negsuc, ◌+ℤ◌, ◌-ℤ◌, ◌*ℤ◌, ◌≤ℤ◌, ◌<ℤ◌, refl, sym, subst, arith, pow_pos}
use Rattle.std.specs.Prelude.{unsigned_abs}
use Rattle.std.proofs.lemmas.Int.{ints}
use Rattle.std.proofs.lemmas.Nat.{div-add-mod', mod_below}
use Rattle.std.proofs.Math.Nat.{mul-pos}
use Rattle.fx_rational.proofs.Quote.{by_quotes, quotes}
use Rattle.fx_rational.proofs.Integers.{mul_nonneg, nonneg_of_above}
use Rattle.fx_rational.proofs.Order.{pow_above}
use Rattle.fx_rational.specs.Rational.{Rational, bottom, whole, plus, times, scaled, ceil_div, AtMost}
use Rattle.fx_rational.proofs.Laws.{equal_sym, le_refl, le_trans, le_of_equal, plus_le, Nonneg, nonneg_top}
use Rattle.fx_rational.proofs.Floors.{ceiling_is, ceiling_le}
use Rattle.fx_rational.proofs.Powers.{power, scaled_is, whole_sum}
use Rattle.fx_plan_laws.specs.Bounds.{units_up, shifted_up}

-- ---- a ceiling
-- of a number that isn't negative
ceiling_nonneg : (t : ℤ) (d : ℕ) → 0 < d → pos 0 ≤ℤ t → pos 0 ≤ℤ ceil_div t d
ceiling_nonneg t d some h = go (ceil_div t d) (ceiling_is t d some).not_below
  where
    below : (n d : ℕ) (t : ℤ) → pos 0 ≤ℤ t → t ≤ℤ (negsuc n *ℤ pos d) → 0 < d → ⊥
    below n d t h l some = let m = mul-pos {m = suc n} {n = d} (omega arith) some in omega (arith, ints, h, l, m)

    go : (z : ℤ) → t ≤ℤ (z *ℤ pos d) → pos 0 ≤ℤ z
    go (pos n) l = omega (arith, ints)
    go (negsuc n) l = absurd (below n d t h l some)

size_of : (z : ℤ) → pos 0 ≤ℤ z → pos (unsigned_abs z) ≡ z
size_of (pos n) h = refl
size_of (negsuc n) h = absurd h.le

less_one : (z d : ℤ) → (z -ℤ pos 1) *ℤ d ≡ z *ℤ d -ℤ d
less_one z d = by_quotes {ρ = z ∷ d ∷ []} (search quotes depth 20) (search quotes depth 20) refl

-- x in units, as it is rounded
module _ (f : ℕ) (x : Rational) (n : Nonneg x) where
  scaled_nonneg : pos 0 ≤ℤ (scaled x (pos f)).top
  unfolding scaled
  scaled_nonneg = mul_nonneg (nonneg_top n) (nonneg_of_above (pow_above f))

  scaled_bottom : bottom (scaled x (pos f)) ≡ bottom x
  unfolding scaled
  scaled_bottom = refl

  units_are : pos (units_up f x) ≡ ceil_div (scaled x (pos f)).top (bottom x)
  unfolding units_up
  units_are = size_of _ (ceiling_nonneg (scaled x (pos f)).top (bottom x) (omega arith) scaled_nonneg)

  -- what is rounded isn't below it, and less than one above it
  rounded : AtMost (scaled x (pos f)) (whole (pos (units_up f x))) ×
      AtMost (whole (pos (units_up f x) -ℤ pos 1)) (scaled x (pos f))
  rounded =
      let h = ceiling_is (scaled x (pos f)).top (bottom x) (omega arith) in
      let g =
      go (scaled x (pos f)).top (pos (units_up f x)) (bottom x) (bottom (scaled x (pos f)))
      scaled_bottom units_are h.not_below h.least in
      (record { at_most = g.0 }, record { at_most = g.1 })
    where
      go : (t z : ℤ) (d b : ℕ) → b ≡ d → z ≡ ceil_div t d → t ≤ℤ (ceil_div t d *ℤ pos d) →
          (ceil_div t d *ℤ pos d -ℤ pos d) <ℤ t →
          ((t *ℤ pos 1) ≤ℤ (z *ℤ pos b)) × (((z -ℤ pos 1) *ℤ pos b) ≤ℤ (t *ℤ pos 1))
      go t z d b e is l m =
          subst (λ (k : ℕ). ((t *ℤ pos 1) ≤ℤ (z *ℤ pos k)) × (((z -ℤ pos 1) *ℤ pos k) ≤ℤ (t *ℤ pos 1))) (sym e)
          (subst (λ (y : ℤ). ((t *ℤ pos 1) ≤ℤ (y *ℤ pos d)) × (((y -ℤ pos 1) *ℤ pos d) ≤ℤ (t *ℤ pos 1))) (sym is)
          (omega (arith, ints, l), let q = less_one (ceil_div t d) (pos d) in omega (arith, ints, m, q)))

  pub units_above : AtMost (times x (power f)) (whole (pos (units_up f x)))
  units_above = le_trans (le_of_equal (equal_sym (scaled_is x f))) rounded.0

  pub units_below : AtMost (whole (pos (units_up f x))) (plus (times x (power f)) (whole (pos 1)))
  units_below =
      let z = pos (units_up f x) in
      let e : (z -ℤ pos 1) +ℤ pos 1 ≡ z = omega (arith, ints) in
      subst (λ (y : ℤ). AtMost (whole y) (plus (times x (power f)) (whole (pos 1)))) e
      (le_trans (le_of_equal (whole_sum (z -ℤ pos 1) (pos 1)))
      (plus_le (le_trans rounded.1 (le_of_equal (scaled_is x f))) (le_refl (whole (pos 1)))))

  -- a whole number that isn't below x in units isn't below what is rounded
  pub units_least : (k : ℕ) → AtMost (times x (power f)) (whole (pos k)) → units_up f x ≤ k
  units_least k h =
      go (scaled x (pos f)).top x.less (bottom (scaled x (pos f))) scaled_bottom (units_up f x) units_are
      (le_trans (le_of_equal (scaled_is x f)) h).at_most
    where
      go : (t : ℤ) (d b : ℕ) → b ≡ suc d → (u : ℕ) → pos u ≡ ceil_div t (suc d) → (t *ℤ pos 1) ≤ℤ (pos k *ℤ pos b) →
          u ≤ k
      go t d b e u is l =
          let m : (t *ℤ pos 1) ≤ℤ (pos k *ℤ pos (suc d)) = subst (λ (j : ℕ). (t *ℤ pos 1) ≤ℤ (pos k *ℤ pos j)) e l in
          let c = (ceiling_le t (pos k) (suc d) (omega (arith, ints))).1 (omega (arith, ints, m)) in
          omega (arith, ints, c, is)

-- ---- a shift
pub shifted_above : (f n : ℕ) → n ≤ shifted_up f n * 2 ^ f
unfolding shifted_up
shifted_above f n =
    let d = div-add-mod' (n + (2 ^ f - 1)) (2 ^ f) in
    let m = mod_below (n + (2 ^ f - 1)) (2 ^ f) (pow_pos f) in
    omega (arith, d, m)

pub shifted_below : (f n : ℕ) → shifted_up f n * 2 ^ f ≤ n + 2 ^ f
unfolding shifted_up
shifted_below f n = let d = div-add-mod' (n + (2 ^ f - 1)) (2 ^ f) in let p = pow_pos f in omega (arith, d, p)
