-- The ends of a quotient's error: which quotients they are, and a unit on either side.
use Rattle.std.proofs.Common.{◌≡◌, ℕ, suc, ◌+◌, ◌-◌, ◌*◌, ◌^◌, ◌<◌, ℤ, pos, negsuc, ◌+ℤ◌, ◌-ℤ◌, ◌*ℤ◌, neg_ℤ, ◌≤ℤ◌, ◌⊎◌, inl, inr, [], ◌∷◌, refl, sym, ap, ◌∙◌, arith, pow-add}
use Rattle.std.proofs.Math.IntN.{neg_ℤ-neg_ℤ}
use Rattle.std.proofs.lemmas.Int.{ints}
use Rattle.std.proofs.lemmas.Nat.{pow_pos}
use Rattle.fx_rational.proofs.Integers.{neg_ℤ-*ℤ}
use Rattle.fx_rational.proofs.Order.{mul_le_right}
use Rattle.fx_rational.proofs.Quote as int
use Rattle.fx_rational.specs.Rational.{Rational, bottom, over, plus, minus, negative, times, scaled, floor_div, Equal, AtMost}
use Rattle.fx_rational.proofs.Ring.{by_quotes, quotes}
use Rattle.fx_rational.proofs.Laws.{equal_sym, le_refl, le_trans, le_of_equal, le_antisym, Nonneg, nonneg_from, nonneg_top, nonneg_times, gap, ordered}
use Rattle.fx_rational.proofs.Quotient.{Above}
use Rattle.fx_outward.specs.Grid.{lowest_dyadic, grid_down, grid_up, error_grid}
use Rattle.fx_outward.specs.Narrow.{ratio, lesser_value, greater_value, unit_value}
use Rattle.fx_outward.specs.Exact.{scaled_top, scaled_bottom, unit_bottom}
use Rattle.fx_outward.specs.Wide.{units_below}
use Rattle.fx_outward.proofs.Ends.{floor_only, turned, trimmed_neg}
use Rattle.fx_outward.proofs.Exacts.{over_down, unit_some, input_value}
use Rattle.fx_outward.proofs.LongDivision.{left_of, remainder_is, cancelled}
use Rattle.fx_outward.proofs.Quotients.{below_lesser, above_greater, below_ratio, above_ratio, ratio_back}
use Rattle.fx_outward.proofs.Spelling.{down_same}

-- ---- less a unit
move : (q d r u : ℤ) → (q *ℤ d +ℤ r) -ℤ u *ℤ d ≡ (q -ℤ u) *ℤ d +ℤ r
move q d r u = int.by_quotes {ρ = q ∷ d ∷ r ∷ u ∷ []} (search int.quotes depth 20) (search int.quotes depth 20) refl

floor_less : (v : ℤ) (d u : ℕ) → 0 < d → floor_div (v -ℤ pos u *ℤ pos d) d ≡ floor_div v d -ℤ pos u
floor_less v d u some =
    let h = remainder_is v d some in let r = left_of v d in
    floor_only (v -ℤ pos u *ℤ pos d) (floor_div v d -ℤ pos u) d r (ap (λ (z : ℤ). z -ℤ pos u *ℤ pos d) h.0
    ∙ move (floor_div v d) (pos d) (pos r) (pos u)) h.1

high_less : (t b p u g : ℤ) → g ≡ p *ℤ u → (neg_ℤ (t *ℤ p) -ℤ b) *ℤ g ≡ (neg_ℤ t *ℤ g -ℤ u *ℤ b) *ℤ p
high_less t b p u g e =
    rw e (int.by_quotes {ρ = t ∷ b ∷ p ∷ u ∷ []} (search int.quotes depth 20) (search int.quotes depth 20) refl)

low_less : (t b p g : ℤ) → (neg_ℤ t -ℤ b *ℤ p) *ℤ g ≡ neg_ℤ t *ℤ g -ℤ (p *ℤ g) *ℤ b
low_less t b p g = int.by_quotes {ρ = t ∷ b ∷ p ∷ g ∷ []} (search int.quotes depth 20) (search int.quotes depth 20) refl

floor_is_less : (c : Rational) (f : ℤ) →
    floor_div ((neg_ℤ (scaled_top c f) -ℤ pos (scaled_bottom c f)) *ℤ pos (2 ^ error_grid f)) (unit_bottom c f)
    ≡ floor_div (neg_ℤ c.top *ℤ pos (2 ^ error_grid f)) (bottom c) -ℤ pos (units_below f)
floor_is_less c (pos k) =
    let g = 2 ^ (k + 8) in let p = pow-add 2 k 8 in
    ap (λ (z : ℤ). floor_div z (bottom c * 2 ^ k))
    (high_less c.top (pos (bottom c)) (pos (2 ^ k)) (pos (2 ^ 8)) (pos g) (ap pos p))
    ∙ cancelled (neg_ℤ c.top *ℤ pos g -ℤ pos (2 ^ 8) *ℤ pos (bottom c)) (bottom c) (2 ^ k) (omega arith) (pow_pos k)
    ∙ floor_less (neg_ℤ c.top *ℤ pos g) (bottom c) (2 ^ 8) (omega arith)
floor_is_less c (negsuc k) =
    let g = 2 ^ (7 - k) in
    ap (λ (z : ℤ). floor_div z (bottom c)) (low_less c.top (pos (bottom c)) (pos (2 ^ suc k)) (pos g))
    ∙ floor_less (neg_ℤ c.top *ℤ pos g) (bottom c) (2 ^ suc k * g) (omega arith)

-- the other sign of c, less a unit
pub less_down : (c : Rational) (f : ℤ) →
    lowest_dyadic (floor_div (neg_ℤ c.top *ℤ pos (2 ^ error_grid f)) (bottom c) -ℤ pos (units_below f)) (error_grid f)
    ≡ grid_down (error_grid f) (minus (negative c) (unit_value f))
less_down c f =
    let e = error_grid f in
    ap (λ (z : ℤ). lowest_dyadic z e) (sym (floor_is_less c f))
    ∙ over_down (neg_ℤ (scaled_top c f) -ℤ pos (scaled_bottom c f)) (unit_bottom c f) e (unit_some c f)
    ∙ down_same e _ _ (input_value c f)

back_negative : (q : Rational) → negative (negative q) ≡ q
unfolding negative
back_negative q = (λ i. record { top = neg_ℤ-neg_ℤ q.top i; less = q.less })

pub exact_down : (q : Rational) (f : ℤ) →
    lowest_dyadic (floor_div (q.top *ℤ pos (2 ^ error_grid f)) (bottom q) -ℤ pos (units_below f)) (error_grid f)
    ≡ grid_down (error_grid f) (minus q (unit_value f))
unfolding negative
exact_down q f =
    let e = error_grid f in
    ap (λ (z : ℤ). lowest_dyadic (floor_div (z *ℤ pos (2 ^ e)) (bottom q) -ℤ pos (units_below f)) e)
    (sym (neg_ℤ-neg_ℤ q.top))
    ∙ less_down (negative q) f ∙ ap (λ (r : Rational). grid_down e (minus r (unit_value f))) (back_negative q)

up_turned : (e : ℕ) (x : Rational) → grid_up e x ≡ turned (grid_down e (negative x))
unfolding grid_up grid_down scaled negative
up_turned e x =
    trimmed_neg (floor_div (neg_ℤ (x.top *ℤ pos (2 ^ e))) (bottom x)) e
    ∙ ap (λ (z : ℤ). turned (lowest_dyadic (floor_div z (bottom x)) e)) (sym (neg_ℤ-*ℤ x.top (pos (2 ^ e))))

pub exact_up : (q : Rational) (f : ℤ) →
    turned (lowest_dyadic (floor_div (neg_ℤ q.top *ℤ pos (2 ^ error_grid f)) (bottom q) -ℤ pos (units_below f))
    (error_grid f)) ≡ grid_up (error_grid f) (plus q (unit_value f))
exact_up q f =
    let e = error_grid f in let u = unit_value f in
    ap turned (less_down q f
    ∙ down_same e (minus (negative q) u) (negative (plus q u))
    (by_quotes {ρ = q ∷ u ∷ []} {b = negative (plus q u)} (search quotes depth 20) (search quotes depth 20) refl))
    ∙ sym (up_turned e (plus q u))

-- ---- which quotient is the least, and which the greatest
pub lesser_of : (u v w : Rational) → AtMost w u → AtMost w v → Equal w u ⊎ Equal w v → Equal (lesser_value u v) w
lesser_of u v w p q h =
    le_antisym (by h ((below_lesser (lesser_value u v) u v).0 (le_refl _))) ((below_lesser w u v).1 (p, q))
  where
    by : Equal w u ⊎ Equal w v → AtMost (lesser_value u v) u × AtMost (lesser_value u v) v → AtMost (lesser_value u v) w
    by (inl e) k = le_trans k.0 (le_of_equal (equal_sym e))
    by (inr e) k = le_trans k.1 (le_of_equal (equal_sym e))

pub greater_of : (u v w : Rational) → AtMost u w → AtMost v w → Equal w u ⊎ Equal w v → Equal (greater_value u v) w
greater_of u v w p q h =
    le_antisym ((above_greater w u v).1 (p, q)) (by h ((above_greater (greater_value u v) u v).0 (le_refl _)))
  where
    by : Equal w u ⊎ Equal w v → AtMost u (greater_value u v) × AtMost v (greater_value u v) →
        AtMost w (greater_value u v)
    by (inl e) k = le_trans (le_of_equal e) k.0
    by (inr e) k = le_trans (le_of_equal e) k.1

ratio_nonneg : (a b : Rational) → Nonneg a → Nonneg (ratio a b)
unfolding ratio over
ratio_nonneg a b h = nonneg_from (top_of a.top (nonneg_top h))
  where
    top_of : (n : ℤ) → pos 0 ≤ℤ n → pos 0 ≤ℤ (n *ℤ pos (bottom b))
    top_of n p =
        let c : pos 0 ≤ℤ pos (bottom b) = omega (arith, ints) in let m = mul_le_right p c in omega (arith, ints, m)

turned_nonneg : (a b : Rational) → Nonneg (negative a) → Nonneg (negative (ratio a b))
unfolding ratio over negative
turned_nonneg a b h = nonneg_from (top_of a.top (nonneg_top h))
  where
    top_of : (n : ℤ) → pos 0 ≤ℤ neg_ℤ n → pos 0 ≤ℤ neg_ℤ (n *ℤ pos (bottom b))
    top_of n p =
        let c : pos 0 ≤ℤ pos (bottom b) = omega (arith, ints) in
        let m = mul_le_right p c in
        let e = neg_ℤ-*ℤ n (pos (bottom b)) in
        omega (arith, ints, m, e)

-- a greater divisor gives a lesser quotient of what isn't below zero
pub falls : (a b c : Rational) → Above b → Above c → Nonneg a → AtMost b c → AtMost (ratio a c) (ratio a b)
falls a b c p q h le =
    let r = ratio a b in
    (above_ratio r a c q).1 (le_trans (le_of_equal (equal_sym (ratio_back a b p)))
    (ordered (nonneg_times (ratio_nonneg a b h) (gap le))
    (by_quotes {ρ = r ∷ b ∷ c ∷ []} {b = times r (minus c b)} (search quotes depth 20)
    (search quotes depth 20) refl)))

-- and a greater one of what is
pub rises : (a b c : Rational) → Above b → Above c → Nonneg (negative a) → AtMost b c → AtMost (ratio a b) (ratio a c)
rises a b c p q h le =
    let r = ratio a b in
    (below_ratio r a c q).1
    (le_trans (ordered (nonneg_times (turned_nonneg a b h) (gap le))
    (by_quotes {ρ = r ∷ b ∷ c ∷ []} {b = times (negative r) (minus c b)} (search quotes depth 20)
    (search quotes depth 20) refl))
    (le_of_equal (ratio_back a b p)))
