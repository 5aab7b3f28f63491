-- Comparisons of decimals, in units of 10^-18.
use Rattle.std.proofs.Common.{◌≡◌, ℕ, suc, pred, ◌+◌, ◌-◌, ◌*◌, ◌^◌, ◌<◌, ◌≤◌, ℤ, pos, negsuc, ◌+ℤ◌, ◌-ℤ◌, ◌*ℤ◌, neg_ℤ, ◌≤ℤ◌, ◌<ℤ◌, true, [], ◌∷◌, FitsSigned, to_z, of_z, refl, sym, ap, subst, ◌∙◌, arith}
use Rattle.std.specs.Prelude.{unsigned_abs, int_le}
use Rattle.std.specs.Int.{w64, w128}
use Rattle.std.proofs.lemmas.Nat.{mul-lt, mul-le, pow-add}
use Rattle.std.proofs.lemmas.Int.{ints, unsigned_abs-mul, to_z-of_z}
use Rattle.std.specs.Cmp.{both_ways}
use lib.IntN.{*ℤ_comm}
use Rattle.fx_rational.proofs.Integers.{le_by_certificate, neg_ℤ-*ℤ, mul_above, mul_nonneg, nonneg_of_above, difference_nonneg, suc_above}
use Rattle.fx_rational.proofs.Quote.{by_quotes, quotes}
use Rattle.fx_rational.specs.Rational.{over, plus, minus, negative, is_at_most}
use Rattle.fx_rational.specs.Decimal.{Decimal, decimal_value}
use Rattle.fx_fraction.specs.Units.{smallest_units}
use Rattle.fx_fraction.proofs.Quanta.{ten_pos, ten_small}
use Rattle.fx_rational.proofs.Lowest.{suc_pred}

whole_unit : (b : ℕ) → b ≤ 18 → pos (10 ^ (18 - b)) *ℤ pos (10 ^ b) ≡ pos (10 ^ 18)
whole_unit b h =
    let k : (18 - b) + b ≡ 18 = omega arith in ap pos (sym (pow-add 10 (18 - b) b) ∙ ap (λ (n : ℕ). 10 ^ n) k)

-- both orders of three decimals with the units L, E, G and the denominators l, e, g, where L * l, E * e and G * g are T
abbrev left_side : (a b x y z : ℤ) → ℤ
left_side a b x y z = (a *ℤ y +ℤ b *ℤ x) *ℤ z

-- T * (c * (x * y) - (a * y + b * x) * z) = x * y * z * (c * G - (a * L + b * E))
scaled_up : (a b c x y z L E G T : ℤ) → L *ℤ x ≡ T → E *ℤ y ≡ T → G *ℤ z ≡ T
    → (c *ℤ (x *ℤ y) -ℤ left_side a b x y z) *ℤ T ≡ (x *ℤ y *ℤ z) *ℤ (c *ℤ G -ℤ (a *ℤ L +ℤ b *ℤ E))
scaled_up a b c x y z L E G T p q r =
    by_quotes {ρ = a ∷ b ∷ c ∷ x ∷ y ∷ z ∷ T ∷ []} {b = c *ℤ (x *ℤ y) *ℤ T -ℤ (a *ℤ y *ℤ z *ℤ T +ℤ b *ℤ x *ℤ z *ℤ T)}
    (search quotes depth 20) (search quotes depth 20) refl
    ∙ ap (λ t. c *ℤ (x *ℤ y) *ℤ t -ℤ (a *ℤ y *ℤ z *ℤ T +ℤ b *ℤ x *ℤ z *ℤ T)) (sym r)
    ∙ ap (λ t. c *ℤ (x *ℤ y) *ℤ (G *ℤ z) -ℤ (a *ℤ y *ℤ z *ℤ t +ℤ b *ℤ x *ℤ z *ℤ T)) (sym p)
    ∙ ap (λ t. c *ℤ (x *ℤ y) *ℤ (G *ℤ z) -ℤ (a *ℤ y *ℤ z *ℤ (L *ℤ x) +ℤ b *ℤ x *ℤ z *ℤ t)) (sym q)
    ∙ by_quotes {ρ = a ∷ b ∷ c ∷ x ∷ y ∷ z ∷ L ∷ E ∷ G ∷ []} (search quotes depth 20) (search quotes depth 20) refl

-- a sum of decimals is at most a decimal exactly where it is in units
pub sum_below : (a b c x y z L E G T : ℤ) → L *ℤ x ≡ T → E *ℤ y ≡ T → G *ℤ z ≡ T → pos 0 <ℤ x → pos 0 <ℤ y →
    pos 0 <ℤ z → pos 0 <ℤ T
    → (left_side a b x y z ≤ℤ (c *ℤ (x *ℤ y)) → (a *ℤ L +ℤ b *ℤ E) ≤ℤ (c *ℤ G))
sum_below a b c x y z L E G T p q r hx hy hz ht h =
    le_by_certificate (mul_above (mul_above hx hy) hz) (mul_nonneg (difference_nonneg h) (nonneg_of_above ht))
    (sym (scaled_up a b c x y z L E G T p q r))

pub sum_below_back : (a b c x y z L E G T : ℤ) → L *ℤ x ≡ T → E *ℤ y ≡ T → G *ℤ z ≡ T → pos 0 <ℤ x → pos 0 <ℤ y →
    pos 0 <ℤ z → pos 0 <ℤ T
    → ((a *ℤ L +ℤ b *ℤ E) ≤ℤ (c *ℤ G) → left_side a b x y z ≤ℤ (c *ℤ (x *ℤ y)))
sum_below_back a b c x y z L E G T p q r hx hy hz ht h =
    le_by_certificate ht (mul_nonneg (nonneg_of_above (mul_above (mul_above hx hy) hz)) (difference_nonneg h))
    (*ℤ_comm T (c *ℤ (x *ℤ y) -ℤ left_side a b x y z) ∙ scaled_up a b c x y z L E G T p q r)

-- the same turned round
scaled_down : (a b c x y z L E G T : ℤ) → L *ℤ x ≡ T → E *ℤ y ≡ T → G *ℤ z ≡ T
    → (left_side a b x y z -ℤ c *ℤ (x *ℤ y)) *ℤ T ≡ (x *ℤ y *ℤ z) *ℤ ((a *ℤ L +ℤ b *ℤ E) -ℤ c *ℤ G)
scaled_down a b c x y z L E G T p q r =
    by_quotes {ρ = a ∷ b ∷ c ∷ x ∷ y ∷ z ∷ T
    ∷ []} {b =
    (neg_ℤ c *ℤ (x *ℤ y) -ℤ left_side (neg_ℤ a) (neg_ℤ b) x y z) *ℤ T} (search quotes depth 20)
    (search quotes depth 20) refl
    ∙ scaled_up (neg_ℤ a) (neg_ℤ b) (neg_ℤ c) x y z L E G T p q r
    ∙ by_quotes {ρ = a ∷ b ∷ c ∷ x ∷ y ∷ z ∷ L ∷ E ∷ G ∷ []} (search quotes depth 20) (search quotes depth 20) refl

pub sum_above : (a b c x y z L E G T : ℤ) → L *ℤ x ≡ T → E *ℤ y ≡ T → G *ℤ z ≡ T → pos 0 <ℤ x → pos 0 <ℤ y →
    pos 0 <ℤ z → pos 0 <ℤ T
    → ((c *ℤ (x *ℤ y)) ≤ℤ left_side a b x y z → (c *ℤ G) ≤ℤ (a *ℤ L +ℤ b *ℤ E))
sum_above a b c x y z L E G T p q r hx hy hz ht h =
    le_by_certificate (mul_above (mul_above hx hy) hz) (mul_nonneg (difference_nonneg h) (nonneg_of_above ht))
    (sym (scaled_down a b c x y z L E G T p q r))

pub sum_above_back : (a b c x y z L E G T : ℤ) → L *ℤ x ≡ T → E *ℤ y ≡ T → G *ℤ z ≡ T → pos 0 <ℤ x → pos 0 <ℤ y →
    pos 0 <ℤ z → pos 0 <ℤ T
    → ((c *ℤ G) ≤ℤ (a *ℤ L +ℤ b *ℤ E) → (c *ℤ (x *ℤ y)) ≤ℤ left_side a b x y z)
sum_above_back a b c x y z L E G T p q r hx hy hz ht h =
    le_by_certificate ht (mul_nonneg (nonneg_of_above (mul_above (mul_above hx hy) hz)) (difference_nonneg h))
    (*ℤ_comm T (left_side a b x y z -ℤ c *ℤ (x *ℤ y)) ∙ scaled_down a b c x y z L E G T p q r)

pub le_true : (a b : ℤ) → a ≤ℤ b → int_le a b ≡ true
le_true a b h = grind (arith, ints)

pub true_le : (a b : ℤ) → int_le a b ≡ true → a ≤ℤ b
true_le a b e = omega (arith, ints)

pub le_along : {a b c d : ℤ} → a ≡ b → c ≡ d → a ≤ℤ c → b ≤ℤ d
le_along {a} {b} {c} {d} p q h = subst (λ x. x ≤ℤ d) p (subst (λ y. a ≤ℤ y) q h)

in_bounds : (x : ℤ) → unsigned_abs x ≤ 2 ^ 62 * 10 ^ 18 → (neg_ℤ (pos (2 ^ 123)) ≤ℤ x) × (x ≤ℤ pos (2 ^ 123))
in_bounds (pos n) h = (omega (arith, ints), omega (arith, ints))
in_bounds (negsuc n) h = (omega (arith, ints), omega (arith, ints))

fits_between : (x : ℤ) → neg_ℤ (pos (2 ^ 124)) ≤ℤ x → x ≤ℤ pos (2 ^ 124) → FitsSigned w128 x
fits_between (pos n) low high = record { sfits = omega (arith, ints) }
fits_between (negsuc n) low high = record { sfits = omega (arith, ints) }

den_unit : (d : Decimal) → d.b ≤ 18 → pos (10 ^ (18 - d.b)) *ℤ pos (suc (pred (10 ^ d.b))) ≡ pos (10 ^ 18)
den_unit d h = ap (λ (n : ℕ). pos (10 ^ (18 - d.b)) *ℤ pos n) (suc_pred (10 ^ d.b) (ten_pos d.b)) ∙ whole_unit d.b h

ten_above : pos 0 <ℤ pos (10 ^ 18)
ten_above = omega (arith, ints)

-- the denominator of a sum
pub den_sum : (m n : ℕ) → pos (suc (pred (suc m * suc n))) ≡ pos (suc m) *ℤ pos (suc n)
den_sum m n =
    let h : 0 < suc m * suc n = mul-lt 0 0 (suc m) (suc n) (omega arith) (omega arith) in
    ap pos (suc_pred (suc m * suc n) h)

-- the same test, of a difference in units
pub above_is : (g lo err : Decimal) (x y z : ℤ) → x ≡ smallest_units lo → y ≡ smallest_units err →
    z ≡ smallest_units g → g.b ≤ 18 → lo.b ≤ 18 → err.b ≤ 18
    → int_le (x -ℤ y) z ≡ is_at_most (minus (decimal_value lo) (decimal_value err)) (decimal_value g)
unfolding is_at_most minus plus negative over decimal_value
above_is g lo err x y z ex ey ez hg hl he =
    let a = lo.a in let b = neg_ℤ err.a in let c = g.a in
    let m = pred (10 ^ lo.b) in let n = pred (10 ^ err.b) in
    let X = pos (suc m) in let Y = pos (suc n) in let Z = pos (suc (pred (10 ^ g.b))) in
    let L = pos (10 ^ (18 - lo.b)) in let E = pos (10 ^ (18 - err.b)) in let G = pos (10 ^ (18 - g.b)) in
    let nn : neg_ℤ err.a *ℤ pos (10 ^ (18 - err.b)) ≡ neg_ℤ (err.a *ℤ pos (10 ^ (18 - err.b))) =
    neg_ℤ-*ℤ err.a (pos (10 ^ (18 - err.b))) in
    let e : a *ℤ L +ℤ b *ℤ E ≡ x -ℤ y = ap (λ t. a *ℤ L +ℤ t) nn ∙ sym (rw (ex, ey) refl) in
    let d : c *ℤ pos (suc (pred (suc m * suc n))) ≡ c *ℤ (X *ℤ Y) = ap (λ t. c *ℤ t) (den_sum m n) in
    both_ways _ _
    (λ t. le_true _ _ (subst (λ w. left_side a b X Y Z ≤ℤ w) (sym d)
    (sum_below_back a b c X Y Z L E G (pos (10 ^ 18)) (den_unit lo hl) (den_unit err he) (den_unit g hg) (suc_above m)
    (suc_above n) (suc_above (pred (10 ^ g.b))) ten_above
    (le_along (sym e) ez (true_le (x -ℤ y) z t)))))
    (λ t. le_true (x -ℤ y) z (le_along e (sym ez)
    (sum_below a b c X Y Z L E G (pos (10 ^ 18)) (den_unit lo hl) (den_unit err he) (den_unit g hg) (suc_above m)
    (suc_above n) (suc_above (pred (10 ^ g.b))) ten_above
    (subst (λ w. left_side a b X Y Z ≤ℤ w) d (true_le _ _ t)))))

-- the same test, of a sum in units
pub below_is : (g hi err : Decimal) (x y z : ℤ) → x ≡ smallest_units hi → y ≡ smallest_units err →
    z ≡ smallest_units g → g.b ≤ 18 → hi.b ≤ 18 → err.b ≤ 18
    → int_le z (x +ℤ y) ≡ is_at_most (decimal_value g) (plus (decimal_value hi) (decimal_value err))
unfolding is_at_most plus over decimal_value
below_is g hi err x y z ex ey ez hg hl he =
    let a = hi.a in let b = err.a in let c = g.a in
    let m = pred (10 ^ hi.b) in let n = pred (10 ^ err.b) in
    let X = pos (suc m) in let Y = pos (suc n) in let Z = pos (suc (pred (10 ^ g.b))) in
    let L = pos (10 ^ (18 - hi.b)) in let E = pos (10 ^ (18 - err.b)) in let G = pos (10 ^ (18 - g.b)) in
    let e : a *ℤ L +ℤ b *ℤ E ≡ x +ℤ y = sym (rw (ex, ey) refl) in
    let d : c *ℤ pos (suc (pred (suc m * suc n))) ≡ c *ℤ (X *ℤ Y) = ap (λ t. c *ℤ t) (den_sum m n) in
    both_ways _ _
    (λ t. le_true _ _ (subst (λ w. w ≤ℤ left_side a b X Y Z) (sym d)
    (sum_above_back a b c X Y Z L E G (pos (10 ^ 18)) (den_unit hi hl) (den_unit err he) (den_unit g hg) (suc_above m)
    (suc_above n) (suc_above (pred (10 ^ g.b))) ten_above
    (le_along ez (sym e) (true_le z (x +ℤ y) t)))))
    (λ t. le_true z (x +ℤ y) (le_along (sym ez) e
    (sum_above a b c X Y Z L E G (pos (10 ^ 18)) (den_unit hi hl) (den_unit err he) (den_unit g hg) (suc_above m)
    (suc_above n) (suc_above (pred (10 ^ g.b))) ten_above
    (subst (λ w. w ≤ℤ left_side a b X Y Z) d (true_le _ _ t)))))

-- bounds in 128 bits
abs_bound : (a : ℤ) (n : ℕ) → unsigned_abs a < 2 ^ 62 → n ≤ 10 ^ 18 → unsigned_abs (a *ℤ pos n) ≤ 2 ^ 62 * 10 ^ 18
abs_bound a n h le = rw (unsigned_abs-mul a (pos n)) (mul-le (unsigned_abs a) n (2 ^ 62) (10 ^ 18) (omega arith) le)

pub unit_bound : (a : ℤ) (b : ℕ) → unsigned_abs a < 2 ^ 62 → b ≤ 18 →
    unsigned_abs (a *ℤ pos (10 ^ (18 - b))) ≤ 2 ^ 62 * 10 ^ 18
unit_bound a b h le = abs_bound a (10 ^ (18 - b)) h (ten_small (18 - b) (omega arith))

pub unit_fits : (x : ℤ) → unsigned_abs x ≤ 2 ^ 62 * 10 ^ 18 → FitsSigned w128 x
unit_fits (pos n) h = record { sfits = omega arith }
unit_fits (negsuc n) h = record { sfits = omega arith }

pub short_sum_fits : (x y : ℤ) → unsigned_abs x ≤ 2 ^ 62 * 10 ^ 18 → unsigned_abs y ≤ 2 ^ 62 * 10 ^ 18 →
    FitsSigned w128 (x +ℤ y)
short_sum_fits x y h k =
    fits_between (x +ℤ y) (omega (arith, ints, in_bounds x h, in_bounds y k))
    (omega (arith, ints, in_bounds x h, in_bounds y k))

pub short_difference_fits : (x y : ℤ) → unsigned_abs x ≤ 2 ^ 62 * 10 ^ 18 → unsigned_abs y ≤ 2 ^ 62 * 10 ^ 18 →
    FitsSigned w128 (x -ℤ y)
short_difference_fits x y h k =
    fits_between (x -ℤ y) (omega (arith, ints, in_bounds x h, in_bounds y k))
    (omega (arith, ints, in_bounds x h, in_bounds y k))

-- the product that the code forms
pub record IsUnits (a : ℤ) (b : ℕ) (z : ℤ) : Type 0 where
  pub fits : FitsSigned w128 z
  pub value : to_z w128 (of_z w128 z) ≡ a *ℤ pos (10 ^ (18 - b))
  pub small : unsigned_abs (to_z w128 (of_z w128 z)) ≤ 2 ^ 62 * 10 ^ 18

pub units_product : (a : ℤ) (b : ℕ) (x y : ℤ) → unsigned_abs a < 2 ^ 62 → b ≤ 18 → x ≡ a → y ≡ pos (10 ^ (18 - b)) →
    IsUnits a b (x *ℤ y)
units_product a b x y h k ex ey =
    let e : x *ℤ y ≡ a *ℤ pos (10 ^ (18 - b)) = (λ i. ex i *ℤ ey i) in
    let s = unit_bound a b h k in
    let f : FitsSigned w128 (x *ℤ y) = rw e (unit_fits (a *ℤ pos (10 ^ (18 - b))) s) in
    let v : to_z w128 (of_z w128 (x *ℤ y)) ≡ a *ℤ pos (10 ^ (18 - b)) = to_z-of_z w128 (x *ℤ y) f ∙ e in
    record { fits = f; value = v; small = rw v s }

-- a power of ten as a signed number
pub small_whole : (n b : ℕ) → n ≡ 10 ^ (18 - b) → to_z w64 n ≡ pos (10 ^ (18 - b))
small_whole n b e =
    let few : n ≤ 10 ^ 18 = rw e (ten_small (18 - b) (omega arith)) in
    let same : to_z w64 n ≡ pos n = omega (arith, ints) in
    same ∙ ap pos e
