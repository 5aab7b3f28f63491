-- Sixteen numbers that fit a width, and what is made of them.
use Rattle.std.proofs.Common.{◌≡◌, ℕ, suc, ◌-◌, ◌/◌, ◌^◌, ◌<◌, ◌≤◌, List, [], ◌∷◌, length, map, All, sym, ◌∙◌, arith, pos, negsuc, ℤ, ◌*ℤ◌, int_div, FitsSigned, lit≤}
use Rattle.std.specs.Prelude.{slice_index_or}
use Rattle.std.specs.Int.{Width, w32, w64, int_wrap}
use Rattle.std.specs.Simd.Lanes.{zip2}
use Rattle.std.proofs.lemmas.Int.{ints, SFits-int_wrap}
use Rattle.std.proofs.Math.Nat.{pow-le-pow_right, div-le_self}
use Rattle.std.proofs.lemmas.Simd.{length-zip2}
use Rattle.std.proofs.lemmas.List.{length-map}
use Rattle.std.proofs.lemmas.List.Elements.{All-nil, All-cons, All-map}
use Rattle.fx_rational.specs.Rational.{floor_div}
use Rattle.fx_model.specs.Machine.{IsWord}
use Rattle.fx_model.proofs.Wide.{Held, held, is_word_from, left_wide, product_wide}
use Rattle.fx_word.proofs.Fits.{fits_64}
use Rattle.fx_lanes.specs.WordsSideBySide.{AreNumbers, CanDivide}
use mir.Val.{hbits}

-- ---- a word fits a width that has as many bits
pub word_fits : (w : Width) (n : ℕ) (v : ℤ) → n ≤ suc (hbits w) → IsWord n v → FitsSigned w v
word_fits w n v le h =
    by (2 ^ (n - 1)) v (pow-le-pow_right {n = 2} (lit≤ tt) {i = n - 1} {j = hbits w} (omega arith)) (held n v h)
  where
    by : (m : ℕ) (v : ℤ) → m ≤ 2 ^ hbits w → Held m v → FitsSigned w v
    by m (pos a) p h = let l = h.high in record { sfits = omega (arith, ints) }
    by m (negsuc a) p h = let l = h.low in record { sfits = omega (arith, ints) }

-- ---- what fits 32 bits is a word of 32 bits, and fits 64
word_32 : (v : ℤ) → FitsSigned w32 v → IsWord 32 v
word_32 (pos a) f =
    let p = f.sfits in is_word_from 32 (pos a) (record { low = omega (arith, ints); high = omega (arith, ints) })
word_32 (negsuc a) f =
    let p = f.sfits in is_word_from 32 (negsuc a) (record { low = omega (arith, ints); high = omega (arith, ints) })

pub fits_wide : (v : ℤ) → FitsSigned w32 v → FitsSigned w64 v
fits_wide v f = let p = f.sfits in record { sfits = omega arith }

pub product_fits : (x y : ℤ) → FitsSigned w32 x → FitsSigned w32 y → FitsSigned w64 (x *ℤ y)
product_fits x y f g = fits_64 64 _ (lit≤ tt) (product_wide 32 x y (lit≤ tt) (word_32 x f) (word_32 y g))

pub raised_fits : (x : ℤ) (s : ℕ) → s ≤ 32 → FitsSigned w32 x → FitsSigned w64 (x *ℤ pos (2 ^ s))
raised_fits x s le f = fits_64 64 _ (lit≤ tt) (left_wide 32 s x (lit≤ tt) (word_32 x f) le)

pub floor_fits : (w : Width) (x : ℤ) (d : ℕ) → FitsSigned w x → FitsSigned w (floor_div x d)
floor_fits w (pos n) d f = let l : n / d ≤ n = div-le_self n d in let p = f.sfits in record { sfits = omega arith }
floor_fits w (negsuc n) d f = let l : n / d ≤ n = div-le_self n d in let p = f.sfits in record { sfits = omega arith }

-- ---- that all of it is sixteen numbers that fit
wrapped_fit : (w : Width) (f : ℤ → ℤ) (xs : List ℤ) → All (FitsSigned w) (map (λ x. int_wrap w (f x)) xs)
wrapped_fit w f xs = All-map (FitsSigned w) (λ x. int_wrap w (f x)) xs (λ k d lt. SFits-int_wrap w (f _))

all_zip2 : (P : ℤ → Type 0) (f : ℤ → ℤ → ℤ) (xs ys : List ℤ)
    → ((k : ℕ) (c d : ℤ) → k < length xs → k < length ys → P (f (slice_index_or xs k c) (slice_index_or ys k d))) →
    All P (zip2 f xs ys)
all_zip2 P f [] ys h = All-nil P
all_zip2 P f (x ∷ xs) [] h = All-nil P
all_zip2 P f (x ∷ xs) (y ∷ ys) h =
    All-cons P (f x y) (zip2 f xs ys) (h 0 x y (omega arith) (omega arith))
    (all_zip2 P f xs ys (λ k c d l m. h (suc k) c d (omega arith) (omega arith)))

pub sixteen_both : (w : Width) (f : ℤ → ℤ → ℤ) (xs ys : List ℤ) → length xs ≡ 16 → length ys ≡ 16 →
    AreNumbers w (zip2 (λ x y. int_wrap w (f x y)) xs ys)
sixteen_both w f xs ys a b = record {
  many = length-zip2 (λ x y. int_wrap w (f x y)) xs ys (a ∙ sym b) ∙ a;
  fits =
      all_zip2 (FitsSigned w) (λ x y. int_wrap w (f x y)) xs ys
      (λ k c d l m. SFits-int_wrap w (f (slice_index_or xs k c) (slice_index_or ys k d)));
}

pub sixteen_wrapped : (w : Width) (f : ℤ → ℤ) (xs : List ℤ) → length xs ≡ 16 →
    AreNumbers w (map (λ x. int_wrap w (f x)) xs)
sixteen_wrapped w f xs a = record { many = length-map xs (λ x. int_wrap w (f x)) ∙ a; fits = wrapped_fit w f xs }

pub sixteen_lowered : (w : Width) (d : ℕ) (xs : List ℤ) → AreNumbers w xs → AreNumbers w (map (λ x. floor_div x d) xs)
sixteen_lowered w d xs h = record {
  many = length-map xs (λ x. floor_div x d) ∙ h.many;
  fits = All-map (FitsSigned w) (λ x. floor_div x d) xs (λ k e lt. floor_fits w _ d (h.fits k e lt));
}

pub sixteen_products : (xs ys : List ℤ) → AreNumbers w32 xs → AreNumbers w32 ys → AreNumbers w64 (zip2 ◌*ℤ◌ xs ys)
sixteen_products xs ys g h = record {
  many = length-zip2 ◌*ℤ◌ xs ys (g.many ∙ sym h.many) ∙ g.many;
  fits = all_zip2 (FitsSigned w64) ◌*ℤ◌ xs ys (λ k c d l m. product_fits _ _ (g.fits k c l) (h.fits k d m));
}

pub sixteen_raised : (s : ℕ) → s ≤ 32 → (xs : List ℤ) → AreNumbers w32 xs →
    AreNumbers w64 (map (λ x. x *ℤ pos (2 ^ s)) xs)
sixteen_raised s le xs h = record {
  many = length-map xs (λ x. x *ℤ pos (2 ^ s)) ∙ h.many;
  fits = All-map (FitsSigned w64) (λ x. x *ℤ pos (2 ^ s)) xs (λ k e lt. raised_fits _ s le (h.fits k e lt));
}

quotients_all : (xs ys : List ℤ) → CanDivide xs ys → All (FitsSigned w64) (zip2 int_div xs ys)
quotients_all [] ys h = All-nil (FitsSigned w64)
quotients_all (x ∷ xs) [] h = All-nil (FitsSigned w64)
quotients_all (x ∷ xs) (y ∷ ys) h =
    All-cons (FitsSigned w64) (int_div x y) (zip2 int_div xs ys) h.0.1 (quotients_all xs ys h.1)

pub sixteen_quotients : (xs ys : List ℤ) → AreNumbers w64 xs → AreNumbers w32 ys → CanDivide xs ys →
    AreNumbers w64 (zip2 int_div xs ys)
sixteen_quotients xs ys g h c =
    record { many = length-zip2 int_div xs ys (g.many ∙ sym h.many) ∙ g.many; fits = quotients_all xs ys c }
