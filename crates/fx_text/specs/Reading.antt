-- Reading the fields of a line from left to right: the value and the fields behind it, or the first fault.
use Rattle.std.specs.Prelude.{◌≡◌, ℕ, ℤ, pos, ◌-ℤ◌, ◌≤ℤ◌, ◌&&◌, List, [], ◌∷◌, Option, Some, None, Result, Ok, Err, if◌then◌else◌, int_le, nat_lt, nat_le, unsigned_abs}
use Rattle.std.specs.Str.{bytes_eq}
use Rattle.fx_model.specs.Steps.{◌>>=◌}
use Rattle.fx_rational.specs.Dyadic.{Dyadic, mantissa_end, exponent_limit}
use Rattle.fx_rational.specs.Interval.{Interval}
use Rattle.fx_text.specs.declared.fault.TextKind.{TextKind}
use Rattle.fx_text.specs.declared.fault.TextKind.TheVariants.{BadLine, BadNumber, OutOfRange, TooMany}
use Rattle.fx_text.specs.Cutting.{Line}
use Rattle.fx_text.specs.Numbers.{integer_of, dyadic_of}

-- the next field
abbrev pub field_at : Line → Result (List ℕ × Line) TextKind
field_at [] = Err BadLine
field_at (field ∷ line) = Ok (field, line)

-- no field is left
abbrev pub ended_at : Line → Result Line TextKind
ended_at [] = Ok []
ended_at (field ∷ line) = Err BadLine

-- what a field spells, if it spells anything
abbrev pub known : {A : Type 0} → Option A → Result A TextKind
known None = Err BadNumber
known (Some x) = Ok x

-- a fixed word
unfoldable pub keyword_at : List ℕ → Line → Result Line TextKind
keyword_at word line = do
  field ← field_at line
  if bytes_eq field.0 word then Ok field.1 else Err BadLine

-- from low to high
abbrev pub IsWithin : ℤ → ℤ → ℤ → Type 0
IsWithin low high z = (low ≤ℤ z) × (z ≤ℤ high)

-- a number from low to high
unfoldable pub number_at : ℤ → ℤ → Line → Result (ℤ × Line) TextKind
number_at low high line = do
  field ← field_at line
  z ← known (integer_of field.0)
  if int_le low z && int_le z high then Ok (z, field.1) else Err OutOfRange

-- a place below the end
unfoldable pub place_at : ℕ → Line → Result (ℕ × Line) TextKind
place_at end line = do
  z ← number_at (pos 0) (pos end -ℤ pos 1) line
  Ok (unsigned_abs z.0, z.1)

-- a count from low to its limit: one over the limit is too many, one below low out of range
unfoldable pub count_at : ℕ → ℕ → Line → Result (ℕ × Line) TextKind
count_at low limit line = do
  field ← field_at line
  z ← known (integer_of field.0)
  if int_le z (pos limit) then (if int_le (pos low) z then Ok (unsigned_abs z, field.1) else Err OutOfRange)
      else Err TooMany

-- a dyadic within the limits of written ones
unfoldable pub dyadic_at : Line → Result (Dyadic × Line) TextKind
dyadic_at line = do
  field ← field_at line
  d ← known (dyadic_of field.0)
  if nat_lt (unsigned_abs d.m) mantissa_end && nat_le d.e exponent_limit then Ok (d, field.1) else Err OutOfRange

-- the lower end, and then the upper one
unfoldable pub interval_at : Line → Result (Interval × Line) TextKind
interval_at line = do
  lo ← dyadic_at line
  hi ← dyadic_at lo.1
  Ok (record { lo = lo.0; hi = hi.0 }, hi.1)

-- what a call read of a line, seen by view, and what it left of it
abbrev pub Reads : {A B : Type 0} → (A → B) → Result A TextKind → Line → Result (B × Line) TextKind → Type 0
Reads view (Ok x) new reading = reading ≡ Ok (view x, new)
Reads view (Err e) new reading = reading ≡ Err e

-- the same of what has no value, as a fixed word
abbrev pub ReadsRest : {A : Type 0} → Result A TextKind → Line → Result Line TextKind → Type 0
ReadsRest (Ok x) new reading = reading ≡ Ok new
ReadsRest (Err e) new reading = reading ≡ Err e

-- what a call read of a whole line or text, seen by view
abbrev pub ReadsAll : {A B E : Type 0} → (A → B) → Result A E → Result B E → Type 0
ReadsAll view (Ok x) reading = reading ≡ Ok (view x)
ReadsAll view (Err e) reading = reading ≡ Err e
