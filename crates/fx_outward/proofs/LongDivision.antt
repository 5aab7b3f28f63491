-- Floors of quotients by powers of two, as whole parts and binary places, and when they aren't short.
use Rattle.std.proofs.Common.{◌≡◌, ℕ, zero, suc, ◌+◌, ◌-◌, ◌*◌, ◌/◌, ◌^◌, ◌<◌, ◌≤◌, ltb, Bool, true, false, if◌then◌else◌, ℤ, pos, negsuc, ◌+ℤ◌, ◌-ℤ◌, ◌*ℤ◌, [], ◌∷◌, refl, sym, ap, ap₂, Option, subst, ◌∙◌, arith, pow-add}
use Rattle.std.specs.Prelude.{unsigned_abs}
use Rattle.std.proofs.Math.Pow.{pow_mono}
use Rattle.std.proofs.lemmas.Int.{ints, unsigned_abs-mul}
use Rattle.std.proofs.lemmas.Nat.{mul-le, pow_pos, div_below}
use Rattle.std.proofs.Math.Nat.{mul-lt-mul_of_pos_right}
use Rattle.fx_rational.proofs.Integers.{*ℤ_assoc}
use Rattle.fx_rational.proofs.Quote.{by_quotes, quotes}
use Rattle.fx_rational.specs.Dyadic.{Dyadic}
use Rattle.fx_rational.specs.Rational.{floor_div}
use Rattle.fx_rational.proofs.Floors.{floor_is, one_more_times}
use Rattle.fx_model.specs.LawfulProgram.{IsPoint}
use Rattle.fx_fraction.proofs.Halvings.{split_power}
use Rattle.fx_outward.specs.Grid.{is_even, is_small, lowest_dyadic, error_grid}
use Rattle.fx_outward.specs.Wide.{IsEnd, units_below}
use Rattle.fx_outward.proofs.Grids.{half_of}
use Rattle.fx_outward.proofs.Ends.{floor_only, whole_places}

-- ---- a factor that both have
spread : (q d k r : ℤ) → (q *ℤ d +ℤ r) *ℤ k ≡ q *ℤ (d *ℤ k) +ℤ r *ℤ k
spread q d k r = by_quotes {ρ = q ∷ d ∷ k ∷ r ∷ []} (search quotes depth 20) (search quotes depth 20) refl

-- what a floor leaves
abbrev pub left_of : ℤ → ℕ → ℕ
left_of v d = unsigned_abs (v -ℤ floor_div v d *ℤ pos d)

pub remainder_is : (v : ℤ) (d : ℕ) → 0 < d → (v ≡ floor_div v d *ℤ pos d +ℤ pos (left_of v d)) × (left_of v d < d)
remainder_is v d some = by (v -ℤ floor_div v d *ℤ pos d) refl
  where
    by : (z : ℤ) → v -ℤ floor_div v d *ℤ pos d ≡ z →
        (v ≡ floor_div v d *ℤ pos d +ℤ pos (unsigned_abs z)) × (unsigned_abs z < d)
    by (pos n) e =
        let f = floor_is v d some in let g = f.greatest in (omega (arith, ints, e), omega (arith, ints, e, g))
    by (negsuc n) e = absurd (let f = floor_is v d some in let p = f.not_above in omega (arith, ints, e, p))

pub cancelled : (v : ℤ) (d k : ℕ) → 0 < d → 0 < k → floor_div (v *ℤ pos k) (d * k) ≡ floor_div v d
cancelled v d k some more =
    let h = remainder_is v d some in let r = left_of v d in
    floor_only (v *ℤ pos k) (floor_div v d) (d * k) (r * k) (ap (λ (z : ℤ). z *ℤ pos k) h.0
    ∙ spread (floor_div v d) (pos d) (pos k) (pos r)) (mul-lt-mul_of_pos_right {m = r} {n = d} {k = k} h.1 more)

-- a floor of a floor
nest : (q d k s r : ℤ) → (q *ℤ k +ℤ s) *ℤ d +ℤ r ≡ q *ℤ (d *ℤ k) +ℤ (s *ℤ d +ℤ r)
nest q d k s r = by_quotes {ρ = q ∷ d ∷ k ∷ s ∷ r ∷ []} (search quotes depth 20) (search quotes depth 20) refl

joined_less : (h l p q : ℕ) → h < q → l < p → h * p + l < q * p
joined_less h l p q a b = let m = mul-le (suc h) p q p a (omega arith) in omega (arith, m, b)

pub nested : (v : ℤ) (d k : ℕ) → 0 < d → 0 < k → floor_div v (d * k) ≡ floor_div (floor_div v d) k
nested v d k some more =
    let h = remainder_is v d some in let g = remainder_is (floor_div v d) k more in let r = left_of v d in
    let s = left_of (floor_div v d) k in let q = floor_div (floor_div v d) k in
    let less : s * d + r < d * k = let l = joined_less s r d k g.1 h.1 in omega (arith, l) in
    floor_only v q (d * k) (s * d + r) (h.0 ∙ ap (λ (z : ℤ). z *ℤ pos d +ℤ pos r) g.0
    ∙ nest q (pos d) (pos k) (pos s) (pos r)) less

-- ---- places before others
pub joined_few : (h l s e : ℕ) → h < 2 ^ (e - s) → l < 2 ^ s → s ≤ e → h * 2 ^ s + l < 2 ^ e
joined_few h l s e a b fits =
    let p = split_power s e fits in let j = joined_less h l (2 ^ s) (2 ^ (e - s)) a b in omega (arith, j, p)

-- ---- a divisor's power above the dividend's, by at most the grid's places
both_shifted : (w a b l f : ℤ) → (w *ℤ a +ℤ l) *ℤ b +ℤ f ≡ w *ℤ (b *ℤ a) +ℤ (l *ℤ b +ℤ f)
both_shifted w a b l f = by_quotes {ρ = w ∷ a ∷ b ∷ l ∷ f ∷ []} (search quotes depth 20) (search quotes depth 20) refl

pub lowered_is : (n m w : ℤ) (d r j e l : ℕ) → n ≡ m *ℤ pos d +ℤ pos r → 0 < d → m ≡ w *ℤ pos (2 ^ j) +ℤ pos l → j ≤ e →
    floor_div (n *ℤ pos (2 ^ e)) (d * 2 ^ j) ≡ w *ℤ pos (2 ^ e) +ℤ pos (l * 2 ^ (e - j) + r * 2 ^ (e - j) / d)
lowered_is n m w d r j e l h some g within =
    let p = split_power j e within in let q = 2 ^ (e - j) in
    ap (λ (k : ℕ). floor_div (n *ℤ pos k) (d * 2 ^ j)) (sym p)
    ∙ ap (λ (z : ℤ). floor_div z (d * 2 ^ j)) (sym (*ℤ_assoc n (pos q) (pos (2 ^ j))))
    ∙ cancelled (n *ℤ pos q) d (2 ^ j) some (pow_pos j) ∙ whole_places n m d r q h some
    ∙ ap (λ (z : ℤ). z *ℤ pos q +ℤ pos (r * q / d)) g ∙ both_shifted w (pos (2 ^ j)) (pos q) (pos l) (pos (r * q / d))
    ∙ ap (λ (k : ℕ). w *ℤ pos k +ℤ pos (l * q + r * q / d)) p

-- by more
pub shifted_is : (n : ℤ) (d i e : ℕ) → 0 < d →
    floor_div (n *ℤ pos (2 ^ e)) (d * 2 ^ (i + e)) ≡ floor_div (floor_div n d) (2 ^ i)
shifted_is n d i e some =
    let a : d * 2 ^ (i + e) ≡ (d * 2 ^ i) * 2 ^ e = ap (λ (k : ℕ). d * k) (pow-add 2 i e)
    ∙ (let b : d * (2 ^ i * 2 ^ e) ≡ (d * 2 ^ i) * 2 ^ e = grind arith in b) in
    let product : 0 < d * 2 ^ i = let p = pow_pos i in grind (arith, some, p) in
    ap (floor_div (n *ℤ pos (2 ^ e))) a ∙ cancelled n (d * 2 ^ i) (2 ^ e) product (pow_pos e)
    ∙ nested n d (2 ^ i) some (pow_pos i)

-- ---- the powers of a quotient of dyadics
swap : (n a b : ℤ) → (n *ℤ a) *ℤ b ≡ (n *ℤ b) *ℤ a
swap n a b = by_quotes {ρ = n ∷ a ∷ b ∷ []} (search quotes depth 20) (search quotes depth 20) refl

pub more_above : (n : ℤ) (d p c e : ℕ) → 0 < d → c ≤ p →
    floor_div ((n *ℤ pos (2 ^ (p - c))) *ℤ pos (2 ^ e)) d ≡ floor_div ((n *ℤ pos (2 ^ p)) *ℤ pos (2 ^ e)) (d * 2 ^ c)
more_above n d p c e some le =
    let t = 2 ^ (p - c) in let g = 2 ^ e in let k = 2 ^ c in
    sym (ap (λ (y : ℕ). floor_div ((n *ℤ pos y) *ℤ pos g) (d * k)) (sym (split_power c p le))
    ∙ ap (λ (z : ℤ). floor_div (z *ℤ pos g) (d * k)) (sym (*ℤ_assoc n (pos t) (pos k)))
    ∙ ap (λ (z : ℤ). floor_div z (d * k)) (swap (n *ℤ pos t) (pos k) (pos g))
    ∙ cancelled ((n *ℤ pos t) *ℤ pos g) d k some (pow_pos c))

pub more_below : (n : ℤ) (d p c e : ℕ) → 0 < d → p ≤ c →
    floor_div (n *ℤ pos (2 ^ e)) (d * 2 ^ (c - p)) ≡ floor_div ((n *ℤ pos (2 ^ p)) *ℤ pos (2 ^ e)) (d * 2 ^ c)
more_below n d p c e some le =
    let j = 2 ^ (c - p) in let g = 2 ^ e in let k = 2 ^ p in
    let a : d * 2 ^ c ≡ (d * j) * k = ap (λ (y : ℕ). d * y) (sym (split_power p c le))
    ∙ (let b : d * (j * k) ≡ (d * j) * k = grind arith in b) in
    let product : 0 < d * j = let q = pow_pos (c - p) in grind (arith, some, q) in
    sym (ap (floor_div ((n *ℤ pos k) *ℤ pos g)) a ∙ ap (λ (z : ℤ). floor_div z ((d * j) * k)) (swap n (pos k) (pos g))
    ∙ cancelled (n *ℤ pos g) (d * j) k product (pow_pos p))

-- ---- what isn't short
long_end : (m : ℤ) → 2 ^ 62 ≤ unsigned_abs m → ltb (unsigned_abs m) (2 ^ 62) ≡ false
long_end m h = grind (arith, h)

pub long_lowest : (m : ℤ) (e : ℕ) → 2 ^ 62 * 2 ^ e ≤ unsigned_abs m → is_small (lowest_dyadic m e) ≡ false
unfolding lowest_dyadic
long_lowest m zero h = long_end m (omega (arith, h))
long_lowest m (suc e) h = by (is_even m) refl (λ l. long_lowest (floor_div m 2) e l)
  where
    twice : 2 ^ suc e ≡ 2 ^ e * 2
    twice = let k : suc e ≡ e + 1 = omega arith in ap (λ (n : ℕ). 2 ^ n) k ∙ pow-add 2 e 1

    half : is_even m ≡ true → 2 ^ 62 * 2 ^ e ≤ unsigned_abs (floor_div m 2)
    half t =
        let a = unsigned_abs-mul (floor_div m 2) (pos 2) in
        let b = ap unsigned_abs (half_of m t) in
        let c = twice in
        omega (arith, h, a, b, c)

    by : (t : Bool) → is_even m ≡ t →
        (2 ^ 62 * 2 ^ e ≤ unsigned_abs (floor_div m 2) → is_small (lowest_dyadic (floor_div m 2) e) ≡ false) →
        is_small (if t then lowest_dyadic (floor_div m 2) e else record { m = m; e = suc e }) ≡ false
    by true t more = more (half t)
    by false t more =
        let p = pow_pos (suc e) in
        let q = mul-le (2 ^ 62) 1 (2 ^ 62) (2 ^ suc e) (omega arith) p in
        long_end m (omega (arith, h, q))

-- a unit is at most 2^64
pub units_few : (f : ℤ) → IsPoint f → units_below f ≤ 2 ^ 64 * 2 ^ error_grid f
units_few (pos f) h =
    let p = pow_pos (f + 8) in let q = mul-le (2 ^ 64) 1 (2 ^ 64) (2 ^ (f + 8)) (omega arith) p in omega (arith, q)
units_few (negsuc f) h =
    let low = h.low in let few : suc f ≤ 64 = omega (arith, ints, low) in let p : 2 ^ suc f ≤ 2 ^ 64 = pow_mono few in
    mul-le (2 ^ suc f) (2 ^ (7 - f)) (2 ^ 64) (2 ^ (7 - f)) p (omega arith)

far_sum : (w : ℤ) (p f u g : ℕ) → 2 ^ 66 ≤ unsigned_abs w → f < p → g ≤ p → u ≤ 2 ^ 64 * g →
    2 ^ 62 * g ≤ unsigned_abs ((w *ℤ pos p +ℤ pos f) -ℤ pos u)
far_sum (pos n) p f u g far few more unit = let m = mul-le (2 ^ 66) p n p far (omega arith) in
    by ((pos n *ℤ pos p +ℤ pos f) -ℤ pos u) refl m
  where
    by : (z : ℤ) → (pos n *ℤ pos p +ℤ pos f) -ℤ pos u ≡ z → 2 ^ 66 * p ≤ n * p → 2 ^ 62 * g ≤ unsigned_abs z
    by (pos k) e m = omega (arith, ints, e, m, few, more, unit)
    by (negsuc k) e m = omega (arith, ints, e, m, few, more, unit)
far_sum (negsuc n) p f u g far few more unit = let m = mul-le (2 ^ 66) p (suc n) p far (omega arith) in
    by ((negsuc n *ℤ pos p +ℤ pos f) -ℤ pos u) refl m
  where
    by : (z : ℤ) → (negsuc n *ℤ pos p +ℤ pos f) -ℤ pos u ≡ z → 2 ^ 66 * p ≤ suc n * p → 2 ^ 62 * g ≤ unsigned_abs z
    by (pos k) e m = omega (arith, ints, e, m, few, more, unit)
    by (negsuc k) e m = omega (arith, ints, e, m, few, more, unit)

far_is : (w : ℤ) → ltb (unsigned_abs w) (2 ^ 66) ≡ false → 2 ^ 66 ≤ unsigned_abs w
far_is w h = grind (arith, h)

-- a whole part past 66 bits
pub far_whole : (w f : ℤ) (n : ℕ) → IsPoint f → ltb (unsigned_abs w) (2 ^ 66) ≡ false → n < 2 ^ error_grid f →
    is_small (lowest_dyadic ((w *ℤ pos (2 ^ error_grid f) +ℤ pos n) -ℤ pos (units_below f)) (error_grid f)) ≡ false
far_whole w f n point far few =
    long_lowest ((w *ℤ pos (2 ^ error_grid f) +ℤ pos n) -ℤ pos (units_below f)) (error_grid f)
    (far_sum w (2 ^ error_grid f) n (units_below f) (2 ^ error_grid f) (far_is w far) few (omega arith)
    (units_few f point))

-- the same before it's doubled further
pub far_raised : (v w f : ℤ) (d r t : ℕ) → IsPoint f → ltb (unsigned_abs w) (2 ^ 66) ≡ false → v ≡ w *ℤ pos d +ℤ pos r →
    r < d →
    is_small (lowest_dyadic (floor_div ((v *ℤ pos (2 ^ t)) *ℤ pos (2 ^ error_grid f)) d -ℤ pos (units_below f))
    (error_grid f)) ≡ false
far_raised v w f d r t point far h less =
    let g = 2 ^ error_grid f in let p = 2 ^ t * g in let n = r * p / d in let some : 0 < d = omega (arith, less) in
    let product : 0 < p = let a = pow_pos t in let b = pow_pos (error_grid f) in grind (arith, a, b) in
    let is : floor_div ((v *ℤ pos (2 ^ t)) *ℤ pos g) d ≡ w *ℤ pos p +ℤ pos n =
    ap (λ (z : ℤ). floor_div z d) (*ℤ_assoc v (pos (2 ^ t)) (pos g)) ∙ whole_places v w d r p h some in
    let few : n < p =
    div_below (r * p) d p some (let l = mul-lt-mul_of_pos_right {m = r} {n = d} {k = p} less product in
    omega (arith, l)) in
    let more : g ≤ p = let a = pow_pos t in let m = mul-le 1 g (2 ^ t) g a (omega arith) in omega (arith, m) in
    subst (λ (z : ℤ). is_small (lowest_dyadic (z -ℤ pos (units_below f)) (error_grid f)) ≡ false) (sym is)
    (long_lowest ((w *ℤ pos p +ℤ pos n) -ℤ pos (units_below f)) (error_grid f)
    (far_sum w p n (units_below f) g (far_is w far) few more (units_few f point)))

-- ---- less a unit
pub less_one : (w : ℤ) (f p : ℕ) → 256 ≤ p →
    (w -ℤ pos (2 ^ 0)) *ℤ pos p +ℤ pos (f + (p - 256)) ≡ (w *ℤ pos p +ℤ pos f) -ℤ pos 256
less_one w f p h = let e = one_less w (pos p) in omega (arith, ints, e, h)
  where
    one_less : (w p : ℤ) → (w -ℤ pos 1) *ℤ p ≡ w *ℤ p -ℤ p
    one_less w p = by_quotes {ρ = w ∷ p ∷ []} (search quotes depth 20) (search quotes depth 20) refl

pub less_whole : (w k p f : ℤ) → (w -ℤ k) *ℤ p +ℤ f ≡ (w *ℤ p +ℤ f) -ℤ k *ℤ p
less_whole w k p f = by_quotes {ρ = w ∷ k ∷ p ∷ f ∷ []} (search quotes depth 20) (search quotes depth 20) refl

-- ---- doubled
pub raised_zero : (v w : ℤ) (d r g : ℕ) → v ≡ w *ℤ pos d +ℤ pos r → 0 < d →
    w *ℤ pos g +ℤ pos (r * g / d) ≡ floor_div ((v *ℤ pos (2 ^ 0)) *ℤ pos g) d
raised_zero v w d r g h some =
    let one : v *ℤ pos (2 ^ 0) ≡ v = omega (arith, ints) in
    sym (ap (λ (z : ℤ). floor_div (z *ℤ pos g) d) one ∙ whole_places v w d r g h some)

pub power_step : (v : ℤ) (t : ℕ) → 0 < t → (v *ℤ pos 2) *ℤ pos (2 ^ (t - 1)) ≡ v *ℤ pos (2 ^ t)
power_step v t some = *ℤ_assoc v (pos 2) (pos (2 ^ (t - 1)))
    ∙ ap (λ (k : ℕ). v *ℤ pos k) (let p = split_power 1 t some in omega (arith, p))

two_times : (w d r : ℤ) → (w *ℤ d +ℤ r) *ℤ pos 2 ≡ (w +ℤ w) *ℤ d +ℤ (r +ℤ r)
two_times w d r = by_quotes {ρ = w ∷ d ∷ r ∷ []} (search quotes depth 20) (search quotes depth 20) refl

pub twice_less : (v w : ℤ) (d r : ℕ) → v ≡ w *ℤ pos d +ℤ pos r → v *ℤ pos 2 ≡ (w +ℤ w) *ℤ pos d +ℤ pos (r + r)
twice_less v w d r h = ap (λ (z : ℤ). z *ℤ pos 2) h ∙ two_times w (pos d) (pos r)

pub twice_more : (v w : ℤ) (d r : ℕ) → v ≡ w *ℤ pos d +ℤ pos r → d ≤ r + r →
    v *ℤ pos 2 ≡ ((w +ℤ w) +ℤ pos 1) *ℤ pos d +ℤ pos ((r + r) - d)
twice_more v w d r h le =
    let e = twice_less v w d r h in let m = one_more_times (w +ℤ w) (pos d) in omega (arith, ints, e, m, le)

-- the end of twice the dividend, by a power less, is that of the power
pub end_of_next : (x : Option Dyadic) (v f z : ℤ) (d t : ℕ) → 0 < t → z ≡ f →
    IsEnd x (lowest_dyadic (floor_div (((v *ℤ pos 2) *ℤ pos (2 ^ (t - 1))) *ℤ pos (2 ^ error_grid z)) d
    -ℤ pos (units_below z)) (error_grid z)) →
    IsEnd x (lowest_dyadic (floor_div ((v *ℤ pos (2 ^ t)) *ℤ pos (2 ^ error_grid f)) d -ℤ pos (units_below f))
    (error_grid f))
end_of_next x v f z d t some same =
    let end = λ (g y : ℤ). lowest_dyadic (floor_div (y *ℤ pos (2 ^ error_grid g)) d -ℤ pos (units_below g))
    (error_grid g) in
    subst (IsEnd x) (ap₂ end same (power_step v t some))
