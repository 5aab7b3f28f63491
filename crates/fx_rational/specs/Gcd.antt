-- The greatest common divisor by Euclid's algorithm, and lowest terms.
use Rattle.std.specs.Prelude.{◌≡◌, ℕ, zero, suc, ◌%◌, ◌<◌, ℤ, pos, ◌*ℤ◌, unsigned_abs}
use Rattle.std.specs.Int.{IsGcd}

-- Euclid's algorithm in at most n steps
abbrev pub gcd_within : ℕ → ℕ → ℕ → ℕ
gcd_within n a zero = a
gcd_within zero a (suc b) = suc b
gcd_within (suc n) a (suc b) = gcd_within n (suc b) (a % suc b)

-- the greatest common divisor: the second number falls at each step, so that its value bounds them
unfoldable pub gcd : ℕ → ℕ → ℕ
gcd a b = gcd_within b a b

-- p / q has a denominator above zero, and no divisor but 1 can be taken out of it
pub record IsLowest (p : ℤ) (q : ℕ) : Type 0 where
  pub above : 0 < q
  pub coprime : IsGcd (unsigned_abs p) q 1

-- the algorithm gives the greatest common divisor
abbrev pub GcdLaw : Type 0
GcdLaw = (a b : ℕ) → IsGcd a b (gcd a b)

-- a fraction has one spelling in lowest terms: equal ones have one numerator and one denominator
abbrev pub OneSpellingLaw : Type 0
OneSpellingLaw = (p r : ℤ) (q s : ℕ) → IsLowest p q → IsLowest r s → p *ℤ pos s ≡ r *ℤ pos q → (p ≡ r) × (q ≡ s)
