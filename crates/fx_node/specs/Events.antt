-- The events of lines: of these the first that isn't blank is the header, and the others are rows of units up to the
-- first bad one.
use Rattle.std.specs.Prelude.{ℕ, ◌==◌, Bool, true, false, List, [], ◌∷◌, filter, map, codes, Option, Some, None, Result, Ok, Err}
use Rattle.fx_rational.specs.Decimal.{Decimal}
use Rattle.fx_model.specs.Function.{Function}
use Rattle.fx_rows.specs.Faults.{RowFlaw, at_input}
use Rattle.fx_rows.specs.Header.{header_of}
use Rattle.fx_rows.specs.ReadRows.{AreInRange, moved_down}
use Rattle.fx_rows.specs.UnitColumn.{column_of, unit_of}
use Rattle.fx_rows.specs.Values.{Values, row_of}
use Rattle.fx_rows.specs.declared.column.Column.{Column}
use Rattle.fx_rows.specs.declared.column.Column.TheVariants.{Missing, At, Several}
use Rattle.fx_rows.specs.declared.fault.RowKind.TheVariants.{MissingColumn}
use Rattle.fx_rows.specs.declared.unit.UnitKind.{UnitKind}
use Rattle.fx_rows.specs.declared.unit.UnitKind.TheVariants.{NoUnitColumn, UnitTwice, BadUnit}

-- a row of a unit
pub record Event : Type 0 where
  pub unit : ℕ
  pub row : List Decimal

abbrev pub event : ℕ → List Decimal → Event
event u row = record { unit = u; row = row }

-- the rows of one unit, in order
abbrev pub rows_of : List Event → ℕ → List (List Decimal)
rows_of events u = map (λ e. e.row) (filter (λ e. e.unit == u) events)

-- what is wrong with a line: with the header or the row that it is, or else with the unit
pub data LineFlaw : Type 0 where
  InRow : RowFlaw → LineFlaw
  InUnit : UnitKind → LineFlaw

-- the events before the first bad line; that line is told by how many lines stand before it
pub record GivenEvents : Type 0 where
  pub events : List Event
  pub bad : Option (ℕ × LineFlaw)

abbrev pub flawed_here : LineFlaw → GivenEvents
flawed_here flaw = record { events = []; bad = Some (0, flaw) }

-- behind a line that is no row
abbrev pub behind_line : GivenEvents → GivenEvents
behind_line more = record { events = more.events; bad = moved_down 1 more.bad }

-- a row of that unit, and what follows
abbrev pub after_unit : List Decimal → Option ℕ → GivenEvents → GivenEvents
after_unit row None more = flawed_here (InUnit BadUnit)
after_unit row (Some u) more = record { events = event u row ∷ more.events; bad = moved_down 1 more.bad }

-- what is wrong with the row comes before what is wrong with its unit
abbrev pub after_values : List Decimal → Option RowFlaw → Option ℕ → GivenEvents → GivenEvents
after_values row None u more = after_unit row u more
after_values row (Some flaw) u more = flawed_here (InRow flaw)

-- a blank line is skipped
abbrev pub after_line : Option Values → Option ℕ → GivenEvents → GivenEvents
after_line None u more = behind_line more
after_line (Some v) u more = after_values v.values v.fault u more

-- the columns of the inputs, and the column of the units
pub record NodeColumns : Type 0 where
  pub inputs : List ℕ
  pub unit : ℕ

-- the events of these lines, for so many units, at the columns of the header
abbrev pub events_from : Function → ℕ → NodeColumns → List (List ℕ) → GivenEvents
events_from f units columns [] = record { events = []; bad = None }
events_from f units columns (l ∷ ls) =
    after_line (row_of f columns.inputs l) (unit_of units columns.unit l) (events_from f units columns ls)

abbrev pub with_unit : List ℕ → Column → Result (Option NodeColumns) LineFlaw
with_unit inputs Missing = Err (InUnit NoUnitColumn)
with_unit inputs (At place) = Ok (Some record { inputs = inputs; unit = place })
with_unit inputs Several = Err (InUnit UnitTwice)

-- what is wrong with the inputs' columns comes before what is wrong with the units' column
abbrev pub with_inputs : Result (Option (List ℕ)) RowFlaw → Column → Result (Option NodeColumns) LineFlaw
with_inputs (Err flaw) column = Err (InRow flaw)
with_inputs (Ok None) column = Ok None
with_inputs (Ok (Some inputs)) column = with_unit inputs column

-- the columns that a header line gives; a blank line has no header
abbrev pub node_header_of : Function → List ℕ → Result (Option NodeColumns) LineFlaw
node_header_of f line = with_inputs (header_of f line) (column_of (codes "unit") line)

-- whether a good header stands, and the events behind it
pub record ReadEvents : Type 0 where
  pub has_header : Bool
  pub given : GivenEvents

abbrev pub after_header : Function → ℕ → Result (Option NodeColumns) LineFlaw → List (List ℕ) → ReadEvents → ReadEvents
after_header f units (Err flaw) ls more = record { has_header = false; given = flawed_here flaw }
after_header f units (Ok None) ls more = record { has_header = more.has_header; given = behind_line more.given }
after_header f units (Ok (Some columns)) ls more =
    record { has_header = true; given = behind_line (events_from f units columns ls) }

-- the events of these lines; where none is a header, a column is missing behind the last
abbrev pub events_read : Function → ℕ → List (List ℕ) → ReadEvents
events_read f units [] = record { has_header = false; given = flawed_here (InRow (at_input MissingColumn 0)) }
events_read f units (l ∷ ls) = after_header f units (node_header_of f l) ls (events_read f units ls)

-- each row of each unit has a value in range for each input
abbrev pub EventsInRangeLaw : Type 0
EventsInRangeLaw = (f : Function) (units : ℕ) (ls : List (List ℕ)) (u : ℕ) →
    AreInRange f (rows_of (events_read f units ls).given.events u)
