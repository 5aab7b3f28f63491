-- The decimal that a text spells.
use Rattle.std.specs.Prelude.{◌==◌, ℕ, zero, suc, ◌*◌, ◌/◌, ◌%◌, ◌^◌, ℤ, pos, negsuc, Bool, ◌&&◌, List, Option, Some, None, Result, Ok, Err, nat_lt, nat_le, if◌then◌else◌}
use Rattle.fx_rational.specs.Decimal.{Decimal}
use Rattle.fx_fraction.specs.declared.fault.NumberFault.{NumberFault}
use Rattle.fx_fraction.specs.declared.fault.NumberFault.TheVariants.{Malformed, TooLong}
use Rattle.fx_fraction.specs.Numeral.{Numeral, numeral_of, is_minus, signed, mantissa, places}

-- n / 10^p with the fewest digits after the point, as a pair of the same form
unfoldable pub trimmed : ℕ → ℕ → ℕ × ℕ
trimmed n zero = (n, 0)
trimmed n (suc p) = if n % 10 == 0 then trimmed (n / 10) p else (n, suc p)

-- the same for any sign of the exponent
abbrev pub fewest_places : ℕ → ℤ → ℕ × ℕ
fewest_places n (pos p) = trimmed n p
fewest_places n (negsuc p) = (n * 10 ^ suc p, 0)

-- a / 10^b with a sign, if a is below 2^62 and b at most 18
abbrev pub within_limits : Bool → ℕ × ℕ → Result Decimal NumberFault
within_limits is_negative x =
    if nat_lt x.0 (2 ^ 62) && nat_le x.1 18 then Ok (record { a = signed is_negative x.0; b = x.1 }) else Err TooLong

-- the decimal of a numeral: none is Malformed, and one beyond the limits is TooLong
abbrev pub decimal_from : Option Numeral → Result Decimal NumberFault
decimal_from None = Err Malformed
decimal_from (Some n) = within_limits (is_minus n.sign) (fewest_places (mantissa n) (places n))

-- the decimal that a text spells
unfoldable pub decimal_of : List ℕ → Result Decimal NumberFault
decimal_of text = decimal_from (numeral_of text)
