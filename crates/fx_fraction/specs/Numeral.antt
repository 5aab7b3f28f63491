-- A number in text: an optional sign, digits with at most one point among or around them, at least one digit, then
-- optionally e or E, an optional sign and digits.
use Rattle.std.specs.Prelude.{◌≡◌, ◌==◌, ℕ, ◌+◌, ℤ, pos, ◌-ℤ◌, neg_ℤ, Bool, true, false, ◌&&◌, ◌||◌, List, [], ◌∷◌, ◌++◌, length, take, drop, slice_index, Option, Some, None, nat_lt, if◌then◌else◌, option_map}
use Rattle.std.specs.List.{prefix_len}
use Rattle.std.specs.Char.{is_ascii_digit}
use Rattle.std.specs.Str.{all_ascii_digits}
use Rattle.std.specs.Str.Parse.{digits_value}

-- no sign, a plus or a minus
pub data Sign : Type 0 where
  unwritten : Sign
  plus : Sign
  minus : Sign

-- a power of ten: the letter e or E, a sign and digits
pub record Power : Type 0 where
  pub letter : ℕ
  pub sign : Sign
  pub digits : List ℕ

-- a number as it is written: `part` are the digits after the point, where there is a point
pub record Numeral : Type 0 where
  pub sign : Sign
  pub whole : List ℕ
  pub part : Option (List ℕ)
  pub power : Option Power

-- ---- the text of a numeral

-- how a sign is written
abbrev pub sign_text : Sign → List ℕ
sign_text unwritten = []
sign_text plus = 43 ∷ []
sign_text minus = 45 ∷ []

-- a point and digits, if there are any
abbrev pub part_text : Option (List ℕ) → List ℕ
part_text None = []
part_text (Some digits) = 46 ∷ digits

-- the power of ten, if there is one
abbrev pub power_text : Option Power → List ℕ
power_text None = []
power_text (Some p) = p.letter ∷ (sign_text p.sign ++ p.digits)

-- the text of a numeral
abbrev pub numeral_text : Numeral → List ℕ
numeral_text n = sign_text n.sign ++ (n.whole ++ (part_text n.part ++ power_text n.power))

-- ---- what is a numeral

-- the digits behind the point
abbrev pub part_digits : Option (List ℕ) → List ℕ
part_digits None = []
part_digits (Some digits) = digits

-- digits, at least one
abbrev pub is_number : List ℕ → Bool
is_number ds = all_ascii_digits ds && nat_lt 0 (length ds)

-- the letter e or E
abbrev pub is_e : ℕ → Bool
is_e c = (c == 101) || (c == 69)

-- the letter is e or E, and digits follow
abbrev pub is_power : Option Power → Bool
is_power None = true
is_power (Some p) = is_e p.letter && is_number p.digits

-- digits, at least one before or after the point, and in the power
pub record IsNumeral (n : Numeral) : Type 0 where
  pub digits : is_number (n.whole ++ part_digits n.part) ≡ true
  pub power : is_power n.power ≡ true

-- ---- the numeral of a text

-- the sign at the front
abbrev pub sign_of : List ℕ → Sign
sign_of text = if slice_index text 0 == 43 then plus else (if slice_index text 0 == 45 then minus else unwritten)

-- what stands behind it
abbrev pub behind_sign : List ℕ → List ℕ
behind_sign text = if (slice_index text 0 == 43) || (slice_index text 0 == 45) then drop 1 text else text

-- how many digits stand first
abbrev pub digit_count : List ℕ → ℕ
digit_count text = prefix_len is_ascii_digit text

-- the digits at the front
abbrev pub first_digits : List ℕ → List ℕ
first_digits text = take (digit_count text) text

-- what stands behind them
abbrev pub behind_digits : List ℕ → List ℕ
behind_digits text = drop (digit_count text) text

-- the digits behind a point, where a point stands first
abbrev pub part_of : List ℕ → Option (List ℕ)
part_of text = if slice_index text 0 == 46 then Some (first_digits (drop 1 text)) else None

-- what stands behind a point and its digits
abbrev pub behind_part : List ℕ → List ℕ
behind_part text = if slice_index text 0 == 46 then behind_digits (drop 1 text) else text

-- the power of ten, which may be left out; none where the text is neither
abbrev pub power_of : List ℕ → Option (Option Power)
power_of [] = Some None
power_of (c ∷ cs) = if is_e c && is_number (behind_sign cs)
    then Some (Some (record { letter = c; sign = sign_of cs; digits = behind_sign cs })) else None

-- the numeral that the text is, if it is one
abbrev pub unsigned_of : Sign → List ℕ → Option Numeral
unsigned_of sign text =
    if nat_lt 0 (digit_count text + length (part_digits (part_of (behind_digits text))))
    then option_map (λ p. record {
      sign = sign;
      whole = first_digits text;
      part = part_of (behind_digits text);
      power = p;
    }) (power_of (behind_part (behind_digits text)))
    else None

-- the numeral that a text spells, if it spells one
unfoldable pub numeral_of : List ℕ → Option Numeral
numeral_of text = unsigned_of (sign_of text) (behind_sign text)

-- ---- its value, mantissa / 10^places

-- only a minus turns the value
abbrev pub is_minus : Sign → Bool
is_minus unwritten = false
is_minus plus = false
is_minus minus = true

-- with its sign
abbrev pub signed : Bool → ℕ → ℤ
signed true n = neg_ℤ (pos n)
signed false n = pos n

-- the number of all digits without the point
abbrev pub mantissa : Numeral → ℕ
mantissa n = digits_value 10 (n.whole ++ part_digits n.part)

-- the power of ten as a number, 0 where it is left out
abbrev pub exponent : Option Power → ℤ
exponent None = pos 0
exponent (Some p) = signed (is_minus p.sign) (digits_value 10 p.digits)

-- the digits after the point, less the power of ten
abbrev pub places : Numeral → ℤ
places n = pos (length (part_digits n.part)) -ℤ exponent n.power
