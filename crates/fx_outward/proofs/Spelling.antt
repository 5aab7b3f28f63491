-- A dyadic in lowest terms has one spelling, so that what is greatest below a number on a grid is the definition's
-- dyadic.
use Rattle.std.proofs.Common.{◌≡◌, ℕ, zero, suc, ◌-◌, ◌*◌, ◌%◌, ◌^◌, ◌<◌, ◌≤◌, Bool, true, false, if◌then◌else◌, ℤ, pos, negsuc, ◌*ℤ◌, ◌⊎◌, ⊎_elim, refl, sym, ap, subst, ◌∙◌, arith, pow-add}
use Rattle.std.specs.Prelude.{unsigned_abs}
use Rattle.std.proofs.lemmas.Int.{ints}
use Rattle.std.proofs.lemmas.Nat.{div-add-mod', mod_below}
use Rattle.fx_rational.proofs.Integers.{*ℤ_assoc}
use Rattle.fx_rational.specs.Rational.{Rational, floor_div, Equal}
use Rattle.fx_rational.specs.Dyadic.{Dyadic, dyadic, dyadic_value, rounded_down, rounded_up}
use Rattle.fx_rational.proofs.Laws.{equal_sym, le_trans, le_of_equal, le_antisym}
use Rattle.fx_rational.proofs.Dyadics.{below_finer, below_coarser}
use Rattle.fx_rational.proofs.Lowest.{size-neg_ℤ}
use Rattle.fx_rational.proofs.Roundings.{rounded_down_is, rounded_up_is}
use Rattle.fx_outward.specs.Grid.{is_even, lowest_dyadic, grid_down, grid_up}
use Rattle.fx_outward.proofs.Grids.{lowest_dyadic_is, IsDown, grid_down_is, IsUp, grid_up_is}

-- ---- one spelling
two : (n : ℕ) → (n * 2) % 2 ≡ 0
two n = let d = div-add-mod' (n * 2) 2 in let l = mod_below (n * 2) 2 (omega arith) in omega (arith, d, l)

pub even_double : (z : ℤ) → unsigned_abs (z *ℤ pos 2) % 2 ≡ 0
even_double (pos n) = two n
even_double (negsuc n) = ap (λ (k : ℕ). k % 2) (size-neg_ℤ (pos (suc n * 2))) ∙ two (suc n)

pub doubled : (m : ℤ) (t : ℕ) → m *ℤ pos (2 ^ suc t) ≡ (m *ℤ pos (2 ^ t)) *ℤ pos 2
doubled m t = ap (λ (k : ℕ). m *ℤ pos k) (ap (λ (n : ℕ). 2 ^ n) (omega arith) ∙ pow-add 2 t 1)
    ∙ sym (*ℤ_assoc m (pos (2 ^ t)) (pos 2))

-- of the exponents b's is at least a's
one_side : (a b : Dyadic) → a.e ≤ b.e → Equal (dyadic_value a) (dyadic_value b) → (0 < b.e → unsigned_abs b.m % 2 ≡ 1) →
    a ≡ b
one_side a b h e odd = by (b.e - a.e) refl
  where
    mantissa : a.m *ℤ pos (2 ^ (b.e - a.e)) ≡ b.m
    mantissa =
        let l = (below_finer a b h).0 (le_of_equal e) in
        let g = (below_coarser b a h).0 (le_of_equal (equal_sym e)) in
        omega (arith, ints, l, g)

    by : (s : ℕ) → b.e - a.e ≡ s → a ≡ b
    by zero z =
        let places : a.e ≡ b.e = omega (arith, h, z) in
        let same : a.m ≡ b.m = (let one : a.m *ℤ pos (2 ^ 0) ≡ a.m = omega (arith, ints) in sym one)
        ∙ ap (λ (k : ℕ). a.m *ℤ pos (2 ^ k)) (sym z) ∙ mantissa in
        (λ i. record { m = same i; e = places i })
    by (suc t) z = absurd (
        let m : (a.m *ℤ pos (2 ^ t)) *ℤ pos 2 ≡ b.m = sym (doubled a.m t) ∙ ap (λ (k : ℕ). a.m *ℤ pos (2 ^ k)) (sym z)
        ∙ mantissa in
        let even : unsigned_abs b.m % 2 ≡ 0 =
        subst (λ (y : ℤ). unsigned_abs y % 2 ≡ 0) m (even_double (a.m *ℤ pos (2 ^ t))) in
        let o = odd (omega (arith, h, z)) in omega (arith, even, o)
        )

total : (a b : ℕ) → (a ≤ b) ⊎ (b ≤ a)
total a b = grind arith

pub same_spelling : (a b : Dyadic) → Equal (dyadic_value a) (dyadic_value b) → (0 < a.e → unsigned_abs a.m % 2 ≡ 1) →
    (0 < b.e → unsigned_abs b.m % 2 ≡ 1) → a ≡ b
same_spelling a b e p q =
    ⊎_elim (λ (l : a.e ≤ b.e). one_side a b l e q) (λ (l : b.e ≤ a.e). sym (one_side b a l (equal_sym e) p))
    (total a.e b.e)

-- ---- trimmed, step by step
pub trim_zero : (m : ℤ) (e : ℕ) → e ≡ 0 → dyadic m 0 ≡ lowest_dyadic m e
unfolding lowest_dyadic
trim_zero (pos zero) e h = rw h refl
trim_zero (pos (suc n)) e h = rw h refl
trim_zero (negsuc n) e h = rw h refl

pub trim_even : (m : ℤ) (e : ℕ) → 0 < e → is_even m ≡ true →
    lowest_dyadic (floor_div m (2 ^ 1)) (e - 1) ≡ lowest_dyadic m e
unfolding lowest_dyadic
trim_even m zero h t = absurd (omega (arith, h))
trim_even m (suc e) h t =
    let one : suc e - 1 ≡ e = omega arith in
    ap (lowest_dyadic (floor_div m 2)) one
    ∙ ap (λ (b : Bool). if b then lowest_dyadic (floor_div m 2) e else record { m = m; e = suc e }) (sym t)

pub trim_odd : (m : ℤ) (e : ℕ) → 0 < e → is_even m ≡ false → dyadic m e ≡ lowest_dyadic m e
unfolding lowest_dyadic
trim_odd m zero h t = absurd (omega (arith, h))
trim_odd (pos zero) (suc e) h t = absurd cc
trim_odd (pos (suc n)) (suc e) h t =
    ap (λ (b : Bool). if b then lowest_dyadic (floor_div (pos (suc n)) 2) e
    else record { m = pos (suc n); e = suc e }) (sym t)
trim_odd (negsuc n) (suc e) h t =
    ap (λ (b : Bool). if b then lowest_dyadic (floor_div (negsuc n) 2) e
    else record { m = negsuc n; e = suc e }) (sym t)

-- ---- what is down is the definition's
pub down_only : (e : ℕ) (x : Rational) (r : Dyadic) → IsDown e x r → r ≡ grid_down e x
down_only e x r h = let g = grid_down_is e x in
    same_spelling r (grid_down e x)
    (le_antisym (g.greatest r h.places h.below) (h.greatest (grid_down e x) g.places g.below)) h.lowest g.lowest

pub up_only : (e : ℕ) (x : Rational) (r : Dyadic) → IsUp e x r → r ≡ grid_up e x
up_only e x r h = let g = grid_up_is e x in
    same_spelling r (grid_up e x)
    (le_antisym (h.least (grid_up e x) g.places g.above) (g.least r h.places h.above)) h.lowest g.lowest

-- equal numbers have the same
pub down_same : (e : ℕ) (x y : Rational) → Equal x y → grid_down e x ≡ grid_down e y
down_same e x y h = let g = grid_down_is e x in
    down_only e y (grid_down e x) (record {
      below = le_trans g.below (le_of_equal h);
      places = g.places;
      lowest = g.lowest;
      greatest = λ d p l. g.greatest d p (le_trans l (le_of_equal (equal_sym h)));
    })

pub up_same : (e : ℕ) (x y : Rational) → Equal x y → grid_up e x ≡ grid_up e y
up_same e x y h = let g = grid_up_is e x in
    up_only e y (grid_up e x) (record {
      above = le_trans (le_of_equal (equal_sym h)) g.above;
      places = g.places;
      lowest = g.lowest;
      least = λ d p l. g.least d p (le_trans (le_of_equal h) l);
    })

-- a dyadic that is rounded and then trimmed
pub rounded_down_only : (d : Dyadic) (e : ℕ) →
    lowest_dyadic (rounded_down d e).m (rounded_down d e).e ≡ grid_down e (dyadic_value d)
rounded_down_only d e = let r = rounded_down d e in let h = rounded_down_is d e in let t = lowest_dyadic_is r.m r.e in
    down_only e (dyadic_value d) (lowest_dyadic r.m r.e) (record {
      below = le_trans (le_of_equal t.value) h.not_above;
      places = let p = t.places in let q = h.exponent in omega (arith, p, q);
      lowest = t.lowest;
      greatest = λ x p l. le_trans (h.greatest x p l) (le_of_equal (equal_sym t.value));
    })

pub rounded_up_only : (d : Dyadic) (e : ℕ) →
    lowest_dyadic (rounded_up d e).m (rounded_up d e).e ≡ grid_up e (dyadic_value d)
rounded_up_only d e = let r = rounded_up d e in let h = rounded_up_is d e in let t = lowest_dyadic_is r.m r.e in
    up_only e (dyadic_value d) (lowest_dyadic r.m r.e) (record {
      above = le_trans h.not_below (le_of_equal (equal_sym t.value));
      places = let p = t.places in let q = h.exponent in omega (arith, p, q);
      lowest = t.lowest;
      least = λ x p l. le_trans (le_of_equal t.value) (h.least x p l);
    })
