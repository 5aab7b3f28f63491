-- Reading a text line by line. The fault of a line carries its number, counted from 1.
use Rattle.std.specs.Prelude.{◌≡◌, ◌⊎◌, ℕ, List, [], ◌∷◌, Option, Some, None, Result, Ok, Err}
use Rattle.fx_text.specs.declared.fault.TextKind.{TextKind}
use Rattle.fx_text.specs.declared.fault.TextKind.TheVariants.{BadLine, Extra, Memory}
use Rattle.fx_text.specs.declared.fault.TextFault.{TextFault}
use Rattle.fx_text.specs.Faults.{fault_at, text_memory}
use Rattle.fx_text.specs.Cutting.{Line, fields_of, line_at}
use Rattle.fx_model.specs.Steps.{◌>>=◌}

-- what is read of line n
abbrev pub on_line : {A : Type 0} → ℕ → Result A TextKind → Result A TextFault
on_line n (Ok x) = Ok x
on_line n (Err kind) = Err (fault_at n kind)

-- the fields of line n and the text behind it, from where the line was cut
abbrev pub fields_in : ℕ → Option (List ℕ × List ℕ) → Result (Line × List ℕ) TextFault
fields_in n None = Err (fault_at n BadLine)
fields_in n (Some parts) = Ok (fields_of parts.0, parts.1)

-- the fields of line n, the first of the text, and the text behind it
unfoldable pub fields_at : ℕ → List ℕ → Result (Line × List ℕ) TextFault
fields_at n text = fields_in n (line_at text)

-- what a reader of fields makes of line n, and the text behind it
unfoldable pub line_by : {A : Type 0} → (Line → Result A TextKind) → ℕ → List ℕ → Result (A × List ℕ) TextFault
line_by read n text = do
  line ← fields_at n text
  x ← on_line n (read line.0)
  Ok (x, line.1)

-- the text is over: nothing stands where line n would
unfoldable pub text_ended_at : ℕ → List ℕ → Result (List ℕ) TextFault
text_ended_at n [] = Ok []
text_ended_at n (byte ∷ text) = Err (fault_at n Extra)

-- what a call that allocates read of a text, seen by view: memory may run out
abbrev pub Gives : {A B : Type 0} → (A → B) → Result A TextFault → Result B TextFault → Type 0
Gives view (Ok x) reading = reading ≡ Ok (view x)
Gives view (Err e) reading = (reading ≡ Err e) ⊎ (e ≡ text_memory)

-- the same of the fields at a line's front, whose reader doesn't know the line's number
abbrev pub GivesFields : {A B : Type 0} → (A → B) → Result A TextKind → Line → Result (B × Line) TextKind → Type 0
GivesFields view (Ok x) new reading = reading ≡ Ok (view x, new)
GivesFields view (Err e) new reading = (reading ≡ Err e) ⊎ (e ≡ Memory)

-- the same of all fields of a line
abbrev pub GivesLine : {A B : Type 0} → (A → B) → Result A TextKind → Result B TextKind → Type 0
GivesLine view (Ok x) reading = reading ≡ Ok (view x)
GivesLine view (Err e) reading = (reading ≡ Err e) ⊎ (e ≡ Memory)
