-- What the reader keeps of digits: those up to the last that isn't 0, and the count of zeros behind it. No clause of a
-- public call rests on this.
use Rattle.std.specs.Prelude.{◌≡◌, ◌≢◌, ℕ, ◌*◌, ◌^◌, ◌%◌, ◌<◌, ◌≤◌, ℤ, pos, Option, Some, None}
use Rattle.std.specs.Str.Parse.{digits_value}
use Rattle.fx_fraction.specs.Digits.{saturated}
use Rattle.fx_fraction.specs.Numeral.{Power, signed, is_minus}
use Rattle.fx_fraction.specs.declared.significant.Significant.{Significant}
use Rattle.fx_fraction.specs.declared.significant.Significant.TheVariants.{Zero, Front, Long}

-- n is front * 10^zeros, and front doesn't end in 0
pub record Strips (n front zeros : ℕ) : Type 0 where
  pub value : n ≡ front * 10 ^ zeros
  pub last : front % 10 ≢ 0

-- what is kept of the number n
abbrev pub Keeps : ℕ → Significant → Type 0
Keeps n Zero = n ≡ 0
Keeps n (Front f z) = Strips n f z × (f < 2 ^ 62)
Keeps n Long = (f : ℕ) × (z : ℕ) × Strips n f z × (2 ^ 62 ≤ f)

-- a front ends in no 0 and is below 2^62
abbrev pub FitsFront : Significant → Type 0
FitsFront Zero = Unit {0}
FitsFront (Front f z) = (0 < f % 10) × (f < 2 ^ 62)
FitsFront Long = Unit {0}

abbrev pub zeros_of : Significant → ℕ
zeros_of Zero = 0
zeros_of (Front f z) = z
zeros_of Long = 0

-- the exponent of a power whose digits are kept so
abbrev pub kept_exponent : Option Power → ℤ
kept_exponent None = pos 0
kept_exponent (Some p) = signed (is_minus p.sign) (saturated (digits_value 10 p.digits))
