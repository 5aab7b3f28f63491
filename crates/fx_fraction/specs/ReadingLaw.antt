-- What reading a decimal means.
use Rattle.std.specs.Prelude.{◌≡◌, ◌↔◌, ◌^◌, ℕ, suc, ℤ, pos, negsuc, ◌*ℤ◌, List, Result, Ok, Err}
use Rattle.fx_rational.specs.Rational.{Rational, over, whole, Equal}
use Rattle.fx_rational.specs.Decimal.{Decimal, IsDecimal, decimal_value}
use Rattle.fx_fraction.specs.declared.fault.NumberFault.{NumberFault}
use Rattle.fx_fraction.specs.declared.fault.NumberFault.TheVariants.{Malformed, TooLong}
use Rattle.fx_fraction.specs.Numeral.{Numeral, IsNumeral, numeral_text, is_minus, signed, mantissa, places}
use Rattle.fx_fraction.specs.DecimalOf.{decimal_of}

-- z / 10^p, for any sign of p
abbrev pub over_tens : ℤ → ℤ → Rational
over_tens z (pos p) = over z (10 ^ p)
over_tens z (negsuc p) = whole (z *ℤ pos (10 ^ suc p))

-- all digits as one number with the sign, times ten to the exponent less the digits after the point
abbrev pub numeral_value : Numeral → Rational
numeral_value n = over_tens (signed (is_minus n.sign) (mantissa n)) (places n)

-- the decimal of that value with the fewest places, or TooLong where no decimal has it
abbrev pub IsReading : Result Decimal NumberFault → Rational → Type 0
IsReading (Ok d) v = IsDecimal d.a d.b × Equal (decimal_value d) v
IsReading (Err Malformed) v = ⊥
IsReading (Err TooLong) v = (d : Decimal) → IsDecimal d.a d.b → Equal (decimal_value d) v → ⊥

-- a text is malformed exactly where it is the text of no numeral, it is the text of one at most, and its reading has
-- that one's value
pub record ReadingLaw : Type 0 where
  pub malformed : (text : List ℕ) → (decimal_of text ≡ Err Malformed) ↔
      ((n : Numeral) → IsNumeral n → numeral_text n ≡ text → ⊥)
  pub one : (n m : Numeral) → IsNumeral n → IsNumeral m → numeral_text n ≡ numeral_text m → n ≡ m
  pub value : (n : Numeral) → IsNumeral n → IsReading (decimal_of (numeral_text n)) (numeral_value n)
