-- What comes of lines: the text that is printed, how many rows, and the first bad line.
use Rattle.std.specs.Prelude.{ℕ, ◌+◌, List, [], ◌++◌, ⊤, Bool, if◌then◌else◌, Option, Some}
use Rattle.fx_rows.specs.Faults.{RowFlaw, at_input}
use Rattle.fx_rows.specs.ReadRows.{moved_down}
use Rattle.fx_rows.specs.declared.fault.RowKind.TheVariants.{LineTooLong}
use Rattle.fx_stream.specs.declared.printer.Stop.{Stop}
use Rattle.fx_stream.specs.declared.printer.Stop.TheVariants.{Bad, Memory}

-- T is what may be wrong with a line; the bad line is told by how many lines stand before it
pub record Outcome (T : Type 0) : Type 0 where
  pub text : List ℕ
  pub rows : ℕ
  pub bad : Option (ℕ × T)

abbrev pub stopped_lines : {T : Type 0} → T → Outcome T
stopped_lines f = record { text = []; rows = 0; bad = Some (0, f) }

-- the outcome of lines behind k others, which printed this text and were so many rows
abbrev pub behind_lines : {T : Type 0} → ℕ → List ℕ → ℕ → Outcome T → Outcome T
behind_lines k text rows more =
    record { text = text ++ more.text; rows = rows + more.rows; bad = moved_down k more.bad }

-- the same behind a text that was held back
abbrev pub behind_text : {T : Type 0} → List ℕ → Outcome T → Outcome T
behind_text text more = record { text = text ++ more.text; rows = more.rows; bad = more.bad }

abbrev pub one : Bool → ℕ
one is_row = if is_row then 1 else 0

-- a line of rows that is too long
abbrev pub too_long : RowFlaw
too_long = at_input LineTooLong 0

abbrev pub IfBad : {F : Type 0} → (F → Type 0) → Stop F → Type 0
IfBad P (Bad fault) = P fault
IfBad P Memory = ⊤
