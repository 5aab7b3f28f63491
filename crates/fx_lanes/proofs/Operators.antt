-- What the operators of vectors give, lane by lane.
use Rattle.std.proofs.Common.{◌≡◌, ◌≢◌, ℕ, zero, suc, ◌+◌, ◌-◌, ◌*◌, ◌^◌, ◌%◌, ◌<◌, ◌≤◌, List, [], ◌∷◌, length, map, All, refl, sym, ap, ap₂, subst, ◌∙◌, arith, pos, negsuc, ℤ, ◌+ℤ◌, ◌-ℤ◌, ◌*ℤ◌, int_div, FitsSigned, to_z, of_z}
use Rattle.std.specs.Prelude.{replicate}
use Rattle.std.specs.Int.{Width, w32, w64, int_wrap}
use Rattle.std.specs.Simd.Lanes.{zip2, Each1, Each2}
use Rattle.std.proofs.lemmas.Int.{ints, to_z-of_z, wrapping_add_is, wrapping_sub_is, wrapping_mul_is, int_wrap_fits, quot_is}
use Rattle.std.proofs.lemmas.Nat.{pow_below}
use Rattle.std.proofs.lemmas.Simd.{zip2_splat}
use Rattle.std.proofs.lemmas.List.{length-map}
use Rattle.std.proofs.lemmas.List.Elements.{All-head, All-tail}
use Rattle.fx_rational.specs.Rational.{floor_div}
use Rattle.fx_word.proofs.Fits.{left_in_64}
use Rattle.fx_lanes.specs.WordsSideBySide.{AreNumbers, CanDivide}
use Rattle.fx_lanes.proofs.Numbers.{fits_wide, product_fits, raised_fits, floor_fits, sixteen_both, sixteen_wrapped, sixteen_lowered, sixteen_products, sixteen_raised, sixteen_quotients}
use lib.Signed.{shr_z}
use mir.Val.{bits, hbits}

-- what a vector shows is these numbers, which are sixteen that fit
pub record Shows (w : Width) (shown xs : List ℤ) : Type 0 where
  pub is : shown ≡ xs
  pub are : AreNumbers w shown

shows : (w : Width) (shown xs : List ℤ) → shown ≡ xs → AreNumbers w xs → Shows w shown xs
shows w shown xs e h = record { is = e; are = subst (AreNumbers w) (sym e) h }

-- the same where the numbers are known by another name
renamed : (w : Width) (shown : List ℤ) (f : List ℤ → List ℤ) (xs vs : List ℤ) → xs ≡ vs → Shows w shown (f xs) →
    Shows w shown (f vs)
renamed w shown f xs vs e h = record { is = h.is ∙ ap f e; are = h.are }

both_renamed : (w : Width) (shown : List ℤ) (f : List ℤ → List ℤ → List ℤ) (xs vs ys us : List ℤ) → xs ≡ vs → ys ≡ us →
    Shows w shown (f xs ys) → Shows w shown (f vs us)
both_renamed w shown f xs vs ys us e k h = record { is = h.is ∙ ap₂ f e k; are = h.are }

-- ---- what is put into lanes is taken out again
pub taken_out : (w : Width) (xs : List ℤ) → All (FitsSigned w) xs → map (to_z w) (map (of_z w) xs) ≡ xs
taken_out w [] f = refl
taken_out w (x ∷ xs) f =
    ap₂ ◌∷◌ (to_z-of_z w x (All-head (FitsSigned w) x xs f)) (taken_out w xs (All-tail (FitsSigned w) x xs f))

-- ---- sums and differences
sums_are : (w : Width) (xs ys : List ℤ) → All (FitsSigned w) xs → All (FitsSigned w) ys
    → map (to_z w) (zip2 (λ m n. (m + n) % 2 ^ bits w) (map (of_z w) xs) (map (of_z w) ys))
    ≡ zip2 (λ x y. int_wrap w (x +ℤ y)) xs ys
sums_are w [] ys f g = refl
sums_are w (x ∷ xs) [] f g = refl
sums_are w (x ∷ xs) (y ∷ ys) f g =
    ap₂ ◌∷◌ (wrapping_add_is w x y (All-head (FitsSigned w) x xs f) (All-head (FitsSigned w) y ys g))
    (sums_are w xs ys (All-tail (FitsSigned w) x xs f) (All-tail (FitsSigned w) y ys g))

differences_are : (w : Width) (xs ys : List ℤ) → All (FitsSigned w) xs → All (FitsSigned w) ys
    → map (to_z w) (zip2 (λ m n. (m + (2 ^ bits w - n)) % 2 ^ bits w) (map (of_z w) xs) (map (of_z w) ys))
    ≡ zip2 (λ x y. int_wrap w (x -ℤ y)) xs ys
differences_are w [] ys f g = refl
differences_are w (x ∷ xs) [] f g = refl
differences_are w (x ∷ xs) (y ∷ ys) f g =
    ap₂ ◌∷◌ (wrapping_sub_is w x y (All-head (FitsSigned w) x xs f) (All-head (FitsSigned w) y ys g))
    (differences_are w xs ys (All-tail (FitsSigned w) x xs f) (All-tail (FitsSigned w) y ys g))

module _ {w : Width} {xs vs ys us : List ℤ} (e : xs ≡ vs) (k : ys ≡ us) (g : AreNumbers w xs) (h : AreNumbers w ys) where
  pub sums : Shows w (map (to_z w) (zip2 (λ m n. (m + n) % 2 ^ bits w) (map (of_z w) xs) (map (of_z w) ys)))
      (zip2 (λ x y. int_wrap w (x +ℤ y)) vs us)
  sums =
      both_renamed w _ (zip2 (λ x y. int_wrap w (x +ℤ y))) xs vs ys us e k
      (shows w _ _ (sums_are w xs ys g.fits h.fits) (sixteen_both w ◌+ℤ◌ xs ys g.many h.many))

  pub differences :
      Shows w (map (to_z w) (zip2 (λ m n. (m + (2 ^ bits w - n)) % 2 ^ bits w) (map (of_z w) xs) (map (of_z w) ys)))
      (zip2 (λ x y. int_wrap w (x -ℤ y)) vs us)
  differences =
      both_renamed w _ (zip2 (λ x y. int_wrap w (x -ℤ y))) xs vs ys us e k
      (shows w _ _ (differences_are w xs ys g.fits h.fits) (sixteen_both w ◌-ℤ◌ xs ys g.many h.many))

-- ---- shifts by as much in each lane
shr_floor : (x : ℤ) (d : ℕ) → shr_z x d ≡ floor_div x d
shr_floor (pos n) d = refl
shr_floor (negsuc n) d = refl

lowered_are : (w : Width) (s : ℕ) (xs : List ℤ) → All (FitsSigned w) xs
    → map (to_z w) (map (λ m. of_z w (shr_z (to_z w m) (2 ^ s))) (map (of_z w) xs)) ≡ map (λ x. floor_div x (2 ^ s)) xs
lowered_are w s [] f = refl
lowered_are w s (x ∷ xs) f =
    let fx = All-head (FitsSigned w) x xs f in
    ap₂ ◌∷◌ (ap (λ v. to_z w (of_z w (shr_z v (2 ^ s)))) (to_z-of_z w x fx)
    ∙ ap (λ v. to_z w (of_z w v)) (shr_floor x (2 ^ s)) ∙ to_z-of_z w _ (floor_fits w x (2 ^ s) fx))
    (lowered_are w s xs (All-tail (FitsSigned w) x xs f))

raised_are : (w : Width) (s : ℕ) → s < hbits w → (xs : List ℤ) → All (FitsSigned w) xs
    → map (to_z w) (map (λ m. (m * 2 ^ s) % 2 ^ bits w) (map (of_z w) xs)) ≡ map (λ x. int_wrap w (x *ℤ pos (2 ^ s))) xs
raised_are w s le [] f = refl
raised_are w s le (x ∷ xs) f =
    let p : FitsSigned w (pos (2 ^ s)) = record { sfits = pow_below s (hbits w) le } in
    ap₂ ◌∷◌ (wrapping_mul_is w x (pos (2 ^ s)) (All-head (FitsSigned w) x xs f) p)
    (raised_are w s le xs (All-tail (FitsSigned w) x xs f))

bits_many : (w : Width) (xs : List ℤ) → length xs ≡ 16 → length (map (of_z w) xs) ≡ 16
bits_many w xs many = length-map xs (of_z w) ∙ many

-- the numbers shifted to the right, and that those before fit
pub record Lowered (w : Width) (s : ℕ) (shown vs : List ℤ) : Type 0 where
  pub is : shown ≡ map (λ x. floor_div x (2 ^ s)) vs
  pub are : AreNumbers w shown
  pub fits : All (FitsSigned w) vs

pub lowered : (w : Width) (s : ℕ) {xs vs : List ℤ} → xs ≡ vs → AreNumbers w xs
    → Lowered w s (map (to_z w) (zip2 (λ m k. of_z w (shr_z (to_z w m) (2 ^ k))) (map (of_z w) xs) (replicate 16 s))) vs
lowered w s {xs} {vs} e g =
    let r = renamed w _ (map (λ x. floor_div x (2 ^ s))) xs vs e
    (shows w _ _ (ap (map (to_z w))
    (zip2_splat (λ m k. of_z w (shr_z (to_z w m) (2 ^ k))) (map (of_z w) xs) 16 s (bits_many w xs g.many))
    ∙ lowered_are w s xs g.fits) (sixteen_lowered w (2 ^ s) xs g)) in
    record { is = r.is; are = r.are; fits = subst (All (FitsSigned w)) e g.fits }

pub raised : (w : Width) (s : ℕ) → s < hbits w → {xs vs : List ℤ} → xs ≡ vs → AreNumbers w xs
    → Shows w (map (to_z w) (zip2 (λ m k. (m * 2 ^ k) % 2 ^ bits w) (map (of_z w) xs) (replicate 16 s)))
    (map (λ x. int_wrap w (x *ℤ pos (2 ^ s))) vs)
raised w s le {xs} {vs} e g = renamed w _ (map (λ x. int_wrap w (x *ℤ pos (2 ^ s)))) xs vs e
    (shows w _ _ (ap (map (to_z w))
    (zip2_splat (λ m k. (m * 2 ^ k) % 2 ^ bits w) (map (of_z w) xs) 16 s (bits_many w xs g.many))
    ∙ raised_are w s le xs g.fits) (sixteen_wrapped w (λ x. x *ℤ pos (2 ^ s)) xs g.many))

-- ---- from 32 bits to 64

widely_raised_are : (s : ℕ) → s ≤ 32 → (xs : List ℤ) → All (FitsSigned w32) xs
    → map (to_z w64) (map (λ m. (m * 2 ^ s) % 2 ^ 64) (map (λ m. of_z w64 (to_z w32 m)) (map (of_z w32) xs)))
    ≡ map (λ x. x *ℤ pos (2 ^ s)) xs
widely_raised_are s le [] f = refl
widely_raised_are s le (x ∷ xs) f =
    let fx = All-head (FitsSigned w32) x xs f in
    ap₂ ◌∷◌ (ap (λ v. to_z w64 ((of_z w64 v * 2 ^ s) % 2 ^ 64)) (to_z-of_z w32 x fx)
    ∙ left_in_64 x s (omega arith) (fits_wide x fx) (raised_fits x s le fx))
    (widely_raised_are s le xs (All-tail (FitsSigned w32) x xs f))

pub widely_raised : (s : ℕ) → s ≤ 32 → {xs vs : List ℤ} → xs ≡ vs → AreNumbers w32 xs
    → Shows w64 (map (to_z w64)
    (zip2 (λ m k. (m * 2 ^ k) % 2 ^ 64) (map (λ m. of_z w64 (to_z w32 m)) (map (of_z w32) xs)) (replicate 16 s)))
    (map (λ x. x *ℤ pos (2 ^ s)) vs)
widely_raised s le {xs} {vs} e g =
    let many : length (map (λ m. of_z w64 (to_z w32 m)) (map (of_z w32) xs)) ≡ 16 =
    length-map (map (of_z w32) xs) (λ m. of_z w64 (to_z w32 m)) ∙ bits_many w32 xs g.many in
    renamed w64 _ (map (λ x. x *ℤ pos (2 ^ s))) xs vs e
    (shows w64 _ _ (ap (map (to_z w64))
    (zip2_splat (λ m k. (m * 2 ^ k) % 2 ^ 64) (map (λ m. of_z w64 (to_z w32 m)) (map (of_z w32) xs)) 16 s many)
    ∙ widely_raised_are s le xs g.fits) (sixteen_raised s le xs g))

products_are : (xs ys : List ℤ) → All (FitsSigned w32) xs → All (FitsSigned w32) ys
    → map (to_z w64) (zip2 (λ m n. (m * n) % 2 ^ 64) (map (λ m. of_z w64 (to_z w32 m)) (map (of_z w32) xs))
    (map (λ m. of_z w64 (to_z w32 m)) (map (of_z w32) ys))) ≡ zip2 ◌*ℤ◌ xs ys
products_are [] ys f g = refl
products_are (x ∷ xs) [] f g = refl
products_are (x ∷ xs) (y ∷ ys) f g =
    let fx = All-head (FitsSigned w32) x xs f in let gy = All-head (FitsSigned w32) y ys g in
    ap₂ ◌∷◌ (ap₂ (λ v w. to_z w64 ((of_z w64 v * of_z w64 w) % 2 ^ 64)) (to_z-of_z w32 x fx) (to_z-of_z w32 y gy)
    ∙ wrapping_mul_is w64 x y (fits_wide x fx) (fits_wide y gy) ∙ int_wrap_fits w64 (x *ℤ y) (product_fits x y fx gy))
    (products_are xs ys (All-tail (FitsSigned w32) x xs f) (All-tail (FitsSigned w32) y ys g))

pub products : {xs vs ys us : List ℤ} → xs ≡ vs → ys ≡ us → AreNumbers w32 xs → AreNumbers w32 ys
    → Shows w64 (map (to_z w64)
    (zip2 (λ m n. (m * n) % 2 ^ 64) (map (λ m. of_z w64 (to_z w32 m)) (map (of_z w32) xs))
    (map (λ m. of_z w64 (to_z w32 m)) (map (of_z w32) ys)))) (zip2 ◌*ℤ◌ vs us)
products {xs} {vs} {ys} {us} e k g h =
    both_renamed w64 _ (zip2 ◌*ℤ◌) xs vs ys us e k
    (shows w64 _ _ (products_are xs ys g.fits h.fits) (sixteen_products xs ys g h))

-- ---- from 64 bits to 32
pub narrow_fits : {xs vs : List ℤ} → xs ≡ vs → All (FitsSigned w32) vs →
    Each1 (λ m. FitsSigned w32 (to_z w64 m)) (map (of_z w64) xs)
narrow_fits {xs} {vs} e f = by xs (subst (All (FitsSigned w32)) (sym e) f)
  where
    by : (xs : List ℤ) → All (FitsSigned w32) xs → Each1 (λ m. FitsSigned w32 (to_z w64 m)) (map (of_z w64) xs)
    by [] f = tt
    by (x ∷ xs) f =
        let fx = All-head (FitsSigned w32) x xs f in
        (subst (FitsSigned w32) (sym (to_z-of_z w64 x (fits_wide x fx))) fx, by xs (All-tail (FitsSigned w32) x xs f))

narrowed_are : (xs : List ℤ) → All (FitsSigned w32) xs →
    map (to_z w32) (map (λ m. of_z w32 (to_z w64 m)) (map (of_z w64) xs)) ≡ xs
narrowed_are [] f = refl
narrowed_are (x ∷ xs) f =
    let fx = All-head (FitsSigned w32) x xs f in
    ap₂ ◌∷◌ (ap (λ v. to_z w32 (of_z w32 v)) (to_z-of_z w64 x (fits_wide x fx)) ∙ to_z-of_z w32 x fx)
    (narrowed_are xs (All-tail (FitsSigned w32) x xs f))

pub narrowed : {xs vs : List ℤ} → xs ≡ vs → length xs ≡ 16 → All (FitsSigned w32) vs →
    Shows w32 (map (to_z w32) (map (λ m. of_z w32 (to_z w64 m)) (map (of_z w64) xs))) vs
narrowed {xs} {vs} e many f =
    let fx = subst (All (FitsSigned w32)) (sym e) f in
    renamed w32 _ (λ zs. zs) xs vs e (shows w32 _ _ (narrowed_are xs fx) (record { many = many; fits = fx }))

-- ---- quotients
-- a divisor's bits
some_bits : (y : ℤ) → y ≢ pos 0 → FitsSigned w64 y → 0 < of_z w64 y
some_bits (pos zero) h f = absurd (h refl)
some_bits (pos (suc n)) h f = omega arith
some_bits (negsuc n) h f = let p = f.sfits in omega (arith, ints)

quotients_fit_lanes : (xs ys : List ℤ) → All (FitsSigned w64) xs → All (FitsSigned w32) ys → CanDivide xs ys
    → Each2 (λ m n. (0 < n) × FitsSigned w64 (int_div (to_z w64 m) (to_z w64 n))) (map (of_z w64) xs)
    (map (λ m. of_z w64 (to_z w32 m)) (map (of_z w32) ys))
quotients_fit_lanes [] ys f g h = tt
quotients_fit_lanes (x ∷ xs) [] f g h = tt
quotients_fit_lanes (x ∷ xs) (y ∷ ys) f g h =
    let fx = All-head (FitsSigned w64) x xs f in let gy = All-head (FitsSigned w32) y ys g in
    let ey = to_z-of_z w32 y gy in
    let wide = ap (λ v. to_z w64 (of_z w64 v)) ey ∙ to_z-of_z w64 y (fits_wide y gy) in
    let e = ap₂ int_div (to_z-of_z w64 x fx) wide in (
      (subst (λ v. 0 < of_z w64 v) (sym ey) (some_bits y h.0.0 (fits_wide y gy)), subst (FitsSigned w64) (sym e) h.0.1),
      quotients_fit_lanes xs ys (All-tail (FitsSigned w64) x xs f) (All-tail (FitsSigned w32) y ys g) h.1,
    )

quotients_are : (xs ys : List ℤ) → All (FitsSigned w64) xs → All (FitsSigned w32) ys → CanDivide xs ys
    → map (to_z w64) (zip2 (λ m n. of_z w64 (int_div (to_z w64 m) (to_z w64 n))) (map (of_z w64) xs)
    (map (λ m. of_z w64 (to_z w32 m)) (map (of_z w32) ys))) ≡ zip2 int_div xs ys
quotients_are [] ys f g h = refl
quotients_are (x ∷ xs) [] f g h = refl
quotients_are (x ∷ xs) (y ∷ ys) f g h =
    let fx = All-head (FitsSigned w64) x xs f in let gy = All-head (FitsSigned w32) y ys g in
    ap₂ ◌∷◌ (ap (λ v. to_z w64 (of_z w64 (int_div (to_z w64 (of_z w64 x)) (to_z w64 (of_z w64 v)))))
    (to_z-of_z w32 y gy) ∙ quot_is w64 x y fx (fits_wide y gy) h.0.1)
    (quotients_are xs ys (All-tail (FitsSigned w64) x xs f) (All-tail (FitsSigned w32) y ys g) h.1)

divides_these : (xs vs ys us : List ℤ) → xs ≡ vs → ys ≡ us → CanDivide vs us → CanDivide xs ys
divides_these xs vs ys us e k h = subst (CanDivide xs) (sym k) (subst (λ zs. CanDivide zs us) (sym e) h)

module _ {xs vs ys us : List ℤ} (e : xs ≡ vs) (k : ys ≡ us) (g : AreNumbers w64 xs) (h : AreNumbers w32 ys)
    (c : CanDivide vs us) where
  pub quotients_fit : Each2 (λ m n. (0 < n) × FitsSigned w64 (int_div (to_z w64 m) (to_z w64 n))) (map (of_z w64) xs)
      (map (λ m. of_z w64 (to_z w32 m)) (map (of_z w32) ys))
  quotients_fit = quotients_fit_lanes xs ys g.fits h.fits (divides_these xs vs ys us e k c)

  pub quotients : Shows w64 (map (to_z w64)
      (zip2 (λ m n. of_z w64 (int_div (to_z w64 m) (to_z w64 n))) (map (of_z w64) xs)
      (map (λ m. of_z w64 (to_z w32 m)) (map (of_z w32) ys)))) (zip2 int_div vs us)
  quotients =
      let d = divides_these xs vs ys us e k c in
      both_renamed w64 _ (zip2 int_div) xs vs ys us e k
      (shows w64 _ _ (quotients_are xs ys g.fits h.fits d) (sixteen_quotients xs ys g h d))
