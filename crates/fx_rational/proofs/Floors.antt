-- What a floor and a ceiling are: of a quotient of whole numbers, by products alone, and of a fraction.
use Rattle.std.proofs.Common.{ℕ, arith, refl, pos, negsuc, ℤ, ◌+ℤ◌, ◌*ℤ◌, neg_ℤ, ◌≤ℤ◌, ◌<ℤ◌, ◌↔◌, ◌≡◌, [], ◌∷◌}
use Rattle.std.proofs.lemmas.Int.{ints}
use Rattle.std.proofs.lemmas.Nat.{div-add-mod', mod_below}
use Rattle.fx_rational.proofs.Integers.{neg_ℤ-*ℤ, nonneg_of_above}
use Rattle.fx_rational.proofs.Order.{mul_le_right, lt_of_mul}
use Rattle.fx_rational.proofs.Quote.{by_quotes, quotes}
use Rattle.fx_rational.specs.Rational.{Rational, bottom, whole, over, plus, floor, floor_div, ceil_div, AtMost}
use Rattle.fx_rational.specs.DyadicLaws.{FloorLaw, CeilingLaw}

pub floor_is : FloorLaw
floor_is (pos a) d h =
    let e = div-add-mod' a d in let l = mod_below a d h in
    record { not_above = omega (arith, ints); greatest = omega (arith, ints) }
floor_is (negsuc a) d h =
    let e = div-add-mod' a d in let l = mod_below a d h in
    record { not_above = omega (arith, ints); greatest = omega (arith, ints) }

-- the ceiling is the floor of the negated number, negated
pub ceiling_is : CeilingLaw
ceiling_is v d h =
    let f = floor_is (neg_ℤ v) d h in let n = neg_ℤ-*ℤ (floor_div (neg_ℤ v) d) (pos d) in let p = f.not_above in
    let q = f.greatest in
    record { not_below = omega (arith, ints); least = omega (arith, ints) }

pub one_more_times : (w d : ℤ) → (w +ℤ pos 1) *ℤ d ≡ w *ℤ d +ℤ d
one_more_times w d = by_quotes {ρ = w ∷ d ∷ []} (search quotes depth 20) (search quotes depth 20) refl

-- v is at most the floor of w / d exactly where d times v is at most w
pub le_floor : (v w : ℤ) (d : ℕ) → pos 0 <ℤ pos d → (v ≤ℤ floor_div w d) ↔ ((v *ℤ pos d) ≤ℤ w)
le_floor v w d above =
    let f = floor_is w d (omega (arith, ints)) in (
      λ h. let p = mul_le_right h (nonneg_of_above above) in let q = f.not_above in omega (arith, ints),
      λ h. let e = one_more_times (floor_div w d) (pos d) in let l = f.greatest in
          let p : (v *ℤ pos d) <ℤ ((floor_div w d +ℤ pos 1) *ℤ pos d) = omega (arith, ints) in
          let q = lt_of_mul (nonneg_of_above above) p in omega (arith, ints),
    )

-- the ceiling of v / d is at most w exactly where v is at most d times w
pub ceiling_le : (v w : ℤ) (d : ℕ) → pos 0 <ℤ pos d → (ceil_div v d ≤ℤ w) ↔ (v ≤ℤ (w *ℤ pos d))
ceiling_le v w d above =
    let c = ceiling_is v d (omega (arith, ints)) in (
      λ h. let p = mul_le_right h (nonneg_of_above above) in let q = c.not_below in omega (arith, ints),
      λ h. let e = one_more_times w (pos d) in let l = c.least in
          let p : (ceil_div v d *ℤ pos d) <ℤ ((w +ℤ pos 1) *ℤ pos d) = omega (arith, ints) in
          let q = lt_of_mul (nonneg_of_above above) p in omega (arith, ints),
    )

-- ---- of a fraction
-- q isn't above x, and less than 1 is lost
pub record Floors (q : ℤ) (x : Rational) : Type 0 where
  pub low : AtMost (whole q) x
  pub high : AtMost x (plus (whole q) (whole (pos 1)))

pub floor_floors : (x : Rational) → Floors (floor x) x
unfolding floor plus over
floor_floors x = let h = floor_is x.top (bottom x) (omega arith) in let p = h.not_above in let q = h.greatest in
    record {
      low = record { at_most = omega (arith, ints) };
      high = record { at_most = over_sum (floor_div x.top (bottom x)) x.top (pos (bottom x)) q };
    }
  where
    over_sum : (q t b : ℤ) → t <ℤ (q *ℤ b +ℤ b) → (t *ℤ pos 1) ≤ℤ ((q *ℤ pos 1 +ℤ pos 1 *ℤ pos 1) *ℤ b)
    over_sum q t b h =
        let e : (q *ℤ pos 1 +ℤ pos 1 *ℤ pos 1) *ℤ b ≡ q *ℤ b +ℤ b =
        by_quotes {ρ = q ∷ b ∷ []} (search quotes depth 20) (search quotes depth 20) refl in
        omega (arith, ints)

pub floor-greatest : (x : Rational) (n : ℤ) → AtMost (whole n) x → n ≤ℤ floor x
unfolding floor
floor-greatest x n h =
    go n (floor_div x.top (bottom x)) x.top (pos (bottom x)) (omega (arith, ints)) h.at_most
    (floor_is x.top (bottom x) (omega arith)).greatest
  where
    go : (n q t b : ℤ) → pos 0 ≤ℤ b → (n *ℤ b) ≤ℤ (t *ℤ pos 1) → t <ℤ (q *ℤ b +ℤ b) → n ≤ℤ q
    go n q t b above h k =
        let e : (q +ℤ pos 1) *ℤ b ≡ q *ℤ b +ℤ b =
        by_quotes {ρ = q ∷ b ∷ []} (search quotes depth 20) (search quotes depth 20) refl in
        let l : n <ℤ (q +ℤ pos 1) = lt_of_mul {c = b} above (omega (arith, ints)) in omega (arith, ints)
