-- A counted row of values, one behind the other, each read by one reader.
use Rattle.std.specs.Prelude.{ℕ, zero, suc, ◌+◌, List, [], ◌∷◌, ◌++◌, Result, Ok}
use Rattle.fx_rational.specs.Dyadic.{Dyadic}
use Rattle.fx_text.specs.declared.fault.TextKind.{TextKind}
use Rattle.fx_text.specs.declared.fault.TextFault.{TextFault}
use Rattle.fx_text.specs.Cutting.{Line}
use Rattle.fx_text.specs.Lines.{line_by}
use Rattle.fx_model.specs.Steps.{◌>>=◌}
use Rattle.fx_text.specs.Reading.{dyadic_at}

-- `read` is told what is known before a value, as its number or the values before it; `next` says what is known behind
-- it
unfoldable pub many : {I A X E : Type 0} → (I → List X → Result (A × List X) E) → (I → A → I) → ℕ → I → List X →
    Result (List A × List X) E
many read next zero i xs = Ok ([], xs)
many read next (suc count) i xs = do
  first ← read i xs
  others ← many read next count (next i first.0) first.1
  Ok (first.0 ∷ others.0, others.1)

-- what stands before, and what is still read
abbrev pub with_front : {A X E : Type 0} → List A → Result (List A × List X) E → Result (List A × List X) E
with_front front reading = reading >>= λ x. Ok (front ++ x.0, x.1)

-- each value meets what is asked of it, given what is known before it
abbrev pub AreEach : {I A : Type 0} → (I → A → Type 0) → (I → A → I) → I → List A → Type 0
AreEach Is next i [] = Unit {0}
AreEach Is next i (x ∷ xs) = Is i x × AreEach Is next (next i x) xs

-- so many dyadics of a line
abbrev pub dyadics_at : ℕ → Line → Result (List Dyadic × Line) TextKind
dyadics_at count line = many {I = Unit {0}} (λ _ fields. dyadic_at fields) (λ _ _. tt) count tt line

-- what such a reader makes of the text's first line, which is line `first + i`
unfoldable pub numbered_line : {A : Type 0} → (ℕ → Line → Result A TextKind) → ℕ → ℕ → List ℕ →
    Result (A × List ℕ) TextFault
numbered_line read first i text = line_by (read i) (first + i) text

-- so many lines from line `first` on, of which the reader is told the number, counted from 0, and the text behind them
unfoldable pub lines_by : {A : Type 0} → (ℕ → Line → Result A TextKind) → ℕ → ℕ → List ℕ →
    Result (List A × List ℕ) TextFault
lines_by read first count text = many (numbered_line read first) (λ i _. i + 1) count 0 text
