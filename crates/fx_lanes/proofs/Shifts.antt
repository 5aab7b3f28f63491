-- Shifts either way and roundings to the nearest, of numbers that fit a width.
use Rattle.std.proofs.Common.{◌≡◌, ℕ, zero, suc, ◌+◌, ◌-◌, ◌*◌, ◌/◌, ◌^◌, ◌<◌, ◌≤◌, List, [], ◌∷◌, map, All, refl, sym, ap, ap₂, ◌∙◌, arith, pos, negsuc, neg_ℤ, ℤ, ◌+ℤ◌, ◌-ℤ◌, ◌*ℤ◌, ◌≤ℤ◌, FitsSigned, lit≤, pow-add}
use Rattle.std.specs.Int.{Width, w64, int_wrap}
use Rattle.std.specs.Simd.Lanes.{zip2}
use Rattle.std.proofs.lemmas.Int.{ints, to_z-of_z, int_wrap-mul_left, int_wrap_fits}
use Rattle.std.proofs.Math.Nat.{pow-le-pow_right, div-eq_of_lt}
use Rattle.std.proofs.lemmas.List.Elements.{All-head, All-tail}
use Rattle.fx_rational.proofs.Quote.{by_quotes, quotes}
use Rattle.fx_rational.specs.Rational.{floor_div}
use Rattle.fx_model.specs.Machine.{Nearest, half, shifted, rounded}
use Rattle.fx_word.proofs.Near.{steps_shown}
use Rattle.fx_lanes.proofs.Numbers.{floor_fits}
use lib.Signed.{shr_z}
use mir.Val.{hbits}

-- ---- to the right, within the width and beyond
pub right_is : (w : Width) (s : ℤ) (k : ℕ) → s ≡ pos k → (xs : List ℤ) → All (FitsSigned w) xs →
    map (λ x. floor_div x (2 ^ k)) xs ≡ map (λ x. int_wrap w (shifted x s)) xs
right_is w s k e [] f = refl
right_is w s k e (x ∷ xs) f =
    ap₂ ◌∷◌ (sym (ap (λ t. int_wrap w (shifted x t)) e
    ∙ int_wrap_fits w _ (floor_fits w x (2 ^ k) (All-head (FitsSigned w) x xs f))))
    (right_is w s k e xs (All-tail (FitsSigned w) x xs f))

far : (n h k : ℕ) → h ≤ k → n < 2 ^ h → n < 2 ^ k
far n h k le lt = let l = pow-le-pow_right {n = 2} (lit≤ tt) {i = h} {j = k} le in omega arith

far_floor : (w : Width) (x : ℤ) (k : ℕ) → hbits w ≤ k → FitsSigned w x → floor_div x (2 ^ hbits w) ≡ floor_div x (2 ^ k)
far_floor w (pos n) k le f = ap pos (div-eq_of_lt f.sfits ∙ sym (div-eq_of_lt (far n (hbits w) k le f.sfits)))
far_floor w (negsuc n) k le f = ap negsuc (div-eq_of_lt f.sfits ∙ sym (div-eq_of_lt (far n (hbits w) k le f.sfits)))

pub far_right_is : (w : Width) (s : ℤ) → pos (hbits w) ≤ℤ s → (xs : List ℤ) → All (FitsSigned w) xs →
    map (λ x. floor_div x (2 ^ hbits w)) xs ≡ map (λ x. int_wrap w (shifted x s)) xs
far_right_is w (negsuc k) le xs f = absurd (omega (arith, ints))
far_right_is w (pos k) le [] f = refl
far_right_is w (pos k) le (x ∷ xs) f =
    let fx = All-head (FitsSigned w) x xs f in
    ap₂ ◌∷◌ (far_floor w x k (omega (arith, ints)) fx ∙ sym (int_wrap_fits w _ (floor_fits w x (2 ^ k) fx)))
    (far_right_is w (pos k) le xs (All-tail (FitsSigned w) x xs f))

-- ---- to the left in two steps
raised_once_more : (x : ℤ) (j k : ℕ) → (x *ℤ pos (2 ^ j)) *ℤ pos (2 ^ k) ≡ x *ℤ pos (2 ^ (j + k))
raised_once_more x j k = by (2 ^ j) (2 ^ k) ∙ ap (λ (n : ℕ). x *ℤ pos n) (sym (pow-add 2 j k))
  where
    by : (a b : ℕ) → (x *ℤ pos a) *ℤ pos b ≡ x *ℤ pos (a * b)
    by a b =
        by_quotes {ρ = x ∷ pos a ∷ pos b ∷ []} {b = x *ℤ (pos a *ℤ pos b)} (search quotes depth 20)
        (search quotes depth 20) refl

pub far_left_is : (w : Width) (s : ℤ) (j k : ℕ) → s ≡ negsuc (j + k) → (xs : List ℤ)
    → map (λ x. int_wrap w (x *ℤ pos (2 ^ k))) (map (λ x. int_wrap w (x *ℤ pos (2 ^ suc j))) xs)
    ≡ map (λ x. int_wrap w (shifted x s)) xs
far_left_is w s j k e [] = refl
far_left_is w s j k e (x ∷ xs) =
    let n : suc j + k ≡ suc (j + k) = omega arith in
    ap₂ ◌∷◌ (int_wrap-mul_left w (x *ℤ pos (2 ^ suc j)) (pos (2 ^ k))
    ∙ ap (int_wrap w) (raised_once_more x (suc j) k ∙ ap (λ (m : ℕ). x *ℤ pos (2 ^ m)) n)
    ∙ ap (λ t. int_wrap w (shifted x t)) (sym e)) (far_left_is w s j k e xs)

-- ---- to the nearest
-- half of a number from above fits where the number does
half_fits : (w : Width) (x : ℤ) → FitsSigned w x → FitsSigned w (x -ℤ floor_div x 2)
half_fits w (pos a) f =
    let e : pos a -ℤ pos (a / 2) ≡ pos (a - a / 2) = omega (arith, ints) in
    let k = f.sfits in rw e (record { sfits = omega arith })
half_fits w (negsuc a) f =
    let e : negsuc a -ℤ negsuc (a / 2) ≡ neg_ℤ (pos (a - a / 2)) = omega (arith, ints) in
    rw e (below (a - a / 2) (omega arith))
  where
    below : (b : ℕ) → b ≤ a → FitsSigned w (neg_ℤ (pos b))
    below zero le = let k = f.sfits in record { sfits = omega arith }
    below (suc b) le = let k = f.sfits in record { sfits = omega arith }

nearest_of : (w : Width) (s : ℕ) → 1 ≤ s → (x : ℤ) → FitsSigned w x →
    int_wrap w (floor_div x (2 ^ (s - 1)) -ℤ floor_div (floor_div x (2 ^ (s - 1))) 2) ≡ rounded Nearest x (pos s)
nearest_of w s some x f =
    let y = floor_div x (2 ^ (s - 1)) in let fy = floor_fits w x (2 ^ (s - 1)) f in let fh = half_fits w y fy in
    let shr : (v : ℤ) (d : ℕ) → shr_z v d ≡ floor_div v d = elim [ pos a ↦ λ d. refl | negsuc a ↦ λ d. refl ] in
    let e = steps_shown w x s some f in
    int_wrap_fits w _ fh ∙ sym (to_z-of_z w _ fh)
    ∙ (rw (
      to_z-of_z w x f,
      shr x (2 ^ (s - 1)),
      to_z-of_z w y fy,
      shr y 2,
      to_z-of_z w (floor_div y 2) (floor_fits w y 2 fy),
    ) at e)

lowered_twice : (w : Width) (s : ℕ) → 1 ≤ s → (xs : List ℤ) → All (FitsSigned w) xs
    → zip2 (λ x y. int_wrap w (x -ℤ y)) (map (λ x. floor_div x (2 ^ (s - 1))) xs)
    (map (λ x. floor_div x (2 ^ 1)) (map (λ x. floor_div x (2 ^ (s - 1))) xs))
    ≡ map (λ x. rounded Nearest x (pos s)) xs
lowered_twice w s some [] f = refl
lowered_twice w s some (x ∷ xs) f =
    ap₂ ◌∷◌ (nearest_of w s some x (All-head (FitsSigned w) x xs f))
    (lowered_twice w s some xs (All-tail (FitsSigned w) x xs f))

pub nearest_is : (w : Width) (s : ℕ) → 1 ≤ s → (xs : List ℤ) → All (FitsSigned w) xs → {twice once r : List ℤ} →
    twice ≡ map (λ x. floor_div x (2 ^ (s - 1))) xs → once ≡ map (λ x. floor_div x (2 ^ 1)) twice
    → r ≡ zip2 (λ x y. int_wrap w (x -ℤ y)) twice once → r ≡ map (λ x. rounded Nearest x (pos s)) xs
nearest_is w s some xs f et eo er =
    er ∙ ap₂ (zip2 (λ x y. int_wrap w (x -ℤ y))) et (eo ∙ ap (map (λ x. floor_div x (2 ^ 1))) et)
    ∙ lowered_twice w s some xs f

-- with room for a half
with_half : (s : ℕ) → 1 ≤ s → (x : ℤ) → FitsSigned w64 (x +ℤ half (pos s)) →
    floor_div (int_wrap w64 (x +ℤ pos (2 ^ (s - 1)))) (2 ^ s) ≡ rounded Nearest x (pos s)
with_half zero some x f = elim some [ ]
with_half (suc t) some x f =
    let e : suc t - 1 ≡ t = omega arith in rw e (ap (λ v. floor_div v (2 ^ suc t)) (int_wrap_fits w64 _ f))

pub with_half_is : (s : ℕ) → 1 ≤ s → (xs : List ℤ) → All (FitsSigned w64) (map (λ x. x +ℤ half (pos s)) xs)
    → map (λ x. floor_div x (2 ^ s)) (map (λ x. int_wrap w64 (x +ℤ pos (2 ^ (s - 1)))) xs)
    ≡ map (λ x. rounded Nearest x (pos s)) xs
with_half_is s some [] f = refl
with_half_is s some (x ∷ xs) f =
    ap₂ ◌∷◌ (with_half s some x (All-head (FitsSigned w64) _ _ f))
    (with_half_is s some xs (All-tail (FitsSigned w64) _ _ f))
