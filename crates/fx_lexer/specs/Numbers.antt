-- Where a number ends: digits, then maybe a point and digits, then maybe e or E, a sign and digits.
use Rattle.std.specs.Prelude.{◌==◌, ℕ, ◌+◌, ◌||◌, List, drop, slice_index, if◌then◌else◌}
use Rattle.std.specs.Char.{is_ascii_digit}
use Rattle.std.specs.List.{prefix_len}
use Rattle.fx_fraction.specs.Numeral.{is_e}

-- how many digits stand from a place on
unfoldable pub digits_at : ℕ → List ℕ → ℕ
digits_at i text = prefix_len is_ascii_digit (drop i text)

-- the point at a place with the digits behind it; 0 where either is missing
unfoldable pub part_len : ℕ → List ℕ → ℕ
part_len i text = if slice_index text i == 46
    then (if digits_at (i + 1) text == 0 then 0 else 1 + digits_at (i + 1) text)
    else 0

-- the e at a place with the sign behind it, if there is one
unfoldable pub mark_len : ℕ → List ℕ → ℕ
mark_len i text = if (slice_index text (i + 1) == 43) || (slice_index text (i + 1) == 45) then 2 else 1

-- the power of ten at a place; 0 where its letter or its digits are missing
unfoldable pub power_len : ℕ → List ℕ → ℕ
power_len i text = if is_e (slice_index text i)
    then (if digits_at (i + mark_len i text) text == 0 then 0
    else mark_len i text + digits_at (i + mark_len i text) text)
    else 0

-- the number at the front
unfoldable pub number_len : List ℕ → ℕ
number_len text =
    let mantissa = digits_at 0 text + part_len (digits_at 0 text) text in mantissa + power_len mantissa text
