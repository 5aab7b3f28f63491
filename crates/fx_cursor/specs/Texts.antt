-- What numbers and names of the text stand for.
use Rattle.std.specs.Prelude.{ℕ, List, map, if◌then◌else◌}
use Rattle.std.specs.Borrow.{Bor}
use Rattle.fx_rational.specs.Decimal.{Decimal}
use Rattle.fx_grammar.specs.Steps.{Text, decimal, negative_decimal}
use Rattle.fx_cursor.specs.declared.numeral.Numeral.{Numeral}

-- the decimal of a numeral
abbrev pub numeral_decimal : Numeral → Decimal
numeral_decimal n = if n.is_negative then negative_decimal (decimal n.digits.now) else decimal n.digits.now

-- the bytes of each
abbrev pub all_texts : List (Bor (List ℕ)) → List Text
all_texts names = map (λ t. t.now) names
