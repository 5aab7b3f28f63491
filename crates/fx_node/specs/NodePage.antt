-- What is printed of events, and what is true of it.
use Rattle.std.specs.Prelude.{ℕ, ◌≡◌, ◌-◌, ◌==◌, ℤ, List, [], ◌∷◌, ◌++◌, length, map, filter, slice_index_or, codes, Option, Some, None, if◌then◌else◌}
use Rattle.std.specs.Fmt.{decimal}
use Rattle.std.specs.List.{concat}
use Rattle.fx_model.specs.Function.{Function, Run}
use Rattle.fx_model.specs.Machine.{Program, machine_run, output_points}
use Rattle.fx_model.specs.Page.{line_of, names_from, word_texts}
use Rattle.fx_inequalities.specs.Certificate.{Certificate}
use Rattle.fx_stream.specs.Outcome.{Outcome}
use Rattle.fx_run.specs.Printed.{IsHonestRun, given_values}
use Rattle.fx_node.specs.Events.{Event, LineFlaw, ReadEvents, events_read, rows_of}

-- ---- the page
-- a unit's number and the texts of its outputs
abbrev pub unit_line : Program → ℕ → List ℤ → List ℕ
unit_line p u outputs = line_of (decimal u ∷ word_texts outputs (output_points p))

-- the outputs of a run's last row
abbrev pub last_outputs : Option (Run ℤ) → List ℤ
last_outputs None = []
last_outputs (Some run) = slice_index_or run.outputs (length run.outputs - 1) []

-- the line of an event behind others: the last outputs of the machine's own run over its unit's rows so far
abbrev pub event_line : Program → List Event → Event → List ℕ
event_line p before e =
    unit_line p e.unit (last_outputs (machine_run p (given_values (rows_of (before ++ e ∷ []) e.unit))))

-- a line, and whose it is
pub record UnitLine : Type 0 where
  pub unit : ℕ
  pub text : List ℕ

-- a line for each of these events, behind others
abbrev pub lines_behind : Program → List Event → List Event → List UnitLine
lines_behind p before [] = []
lines_behind p before (e ∷ es) =
    record { unit = e.unit; text = event_line p before e } ∷ lines_behind p (before ++ e ∷ []) es

-- a line for each event
abbrev pub event_lines : Program → List Event → List UnitLine
event_lines p events = lines_behind p [] events

abbrev pub node_head : Program → List ℕ
node_head p = line_of (codes "unit" ∷ names_from 1 p.outputs)

-- the header, and a line for each event
abbrev pub node_page : Program → List Event → List ℕ
node_page p events = node_head p ++ concat (map (λ l. l.text) (event_lines p events))

-- nothing where no good header stands
abbrev pub node_printed : Program → ReadEvents → List ℕ
node_printed p r = if r.has_header then node_page p r.given.events else []

-- what comes of lines for so many units: their page, how many rows, and the first bad line
abbrev pub node_outcome : Function → Program → ℕ → List (List ℕ) → Outcome LineFlaw
node_outcome f p units ls =
    let r = events_read f units ls in
    record { text = node_printed p r; rows = length r.given.events; bad = r.given.bad }

-- ---- what is true of it
-- the machine's run over each unit's rows is honest, whatever lines they came in
abbrev pub UnitsLaw : Function → Program → Certificate → Type 0
UnitsLaw f p cert = (units : ℕ) (ls : List (List ℕ)) (u : ℕ) →
    IsHonestRun f p cert (given_values (rows_of (events_read f units ls).given.events u))

-- the lines of one unit
abbrev pub lines_of_unit : Program → List Event → ℕ → List (List ℕ)
lines_of_unit p events u = map (λ l. l.text) (filter (λ l. l.unit == u) (event_lines p events))

-- the lines of a unit are a matter of its own rows, whatever stands between them
abbrev pub UnitsApartLaw : Type 0
UnitsApartLaw = (p : Program) (es es' : List Event) (u : ℕ) → rows_of es u ≡ rows_of es' u →
    lines_of_unit p es u ≡ lines_of_unit p es' u

-- they are the lines of the outputs of one run, that over all of its rows
abbrev pub UnitRunLaw : Type 0
UnitRunLaw =
    (p : Program) (es : List Event) (u : ℕ) (run : Run ℤ) → machine_run p (given_values (rows_of es u)) ≡ Some run
    → lines_of_unit p es u ≡ map (unit_line p u) run.outputs
