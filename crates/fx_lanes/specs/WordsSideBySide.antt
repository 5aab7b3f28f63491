-- Sixteen words side by side.
use Rattle.std.specs.Prelude.{◌≡◌, ◌≢◌, ◌≤◌, ◌^◌, ℕ, ℤ, pos, ◌+ℤ◌, ◌-ℤ◌, ◌*ℤ◌, List, [], ◌∷◌, length, map, All, Option, FitsSigned, int_div}
use Rattle.std.specs.Int.{Width, w64}
use Rattle.std.specs.Simd.Lanes.{zip2}
use Rattle.fx_model.specs.Machine.{Round, IsWord, shifted, rounded, floor_divided}

-- the widths at which a lane of 32 bits holds a word
pub record IsNarrow (n : ℕ) : Type 0 where
  pub least : 8 ≤ n
  pub most : n ≤ 32

-- sixteen whole numbers that fit a width
pub record AreNumbers (w : Width) (xs : List ℤ) : Type 0 where
  pub many : length xs ≡ 16
  pub fits : All (FitsSigned w) xs

-- sixteen words of n bits
pub record AreLanes (n : ℕ) (ws : List ℤ) : Type 0 where
  pub many : length ws ≡ 16
  pub words : All (IsWord n) ws

-- the sums of words that are shifted, lane by lane
abbrev pub added : ℤ → ℤ → List ℤ → List ℤ → List ℤ
added sa sb = zip2 (λ x y. shifted x sa +ℤ shifted y sb)

-- the differences
abbrev pub subtracted : ℤ → ℤ → List ℤ → List ℤ → List ℤ
subtracted sa sb = zip2 (λ x y. shifted x sa -ℤ shifted y sb)

-- the products by 2^s, rounded
abbrev pub multiplied : Round → ℕ → List ℤ → List ℤ → List ℤ
multiplied r s = zip2 (λ x y. rounded r (x *ℤ y) (pos s))

-- the quotients of words times 2^s
abbrev pub divided : ℕ → List ℤ → List ℤ → List (Option ℤ)
divided s = zip2 (λ x y. floor_divided (x *ℤ pos (2 ^ s)) y)

-- the words by 2^s, rounded
abbrev pub copied : Round → ℤ → List ℤ → List ℤ
copied r s = map (λ x. rounded r x s)

-- no divisor is zero, and each quotient fits 64 bits
abbrev pub CanDivide : List ℤ → List ℤ → Type 0
CanDivide [] ys = Unit {0}
CanDivide (x ∷ xs) [] = Unit {0}
CanDivide (x ∷ xs) (y ∷ ys) = ((y ≢ pos 0) × FitsSigned w64 (int_div x y)) × CanDivide xs ys
