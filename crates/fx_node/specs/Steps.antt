-- What is printed of events by the state words of the units. No clause of a public call rests on this.
use Rattle.std.specs.Prelude.{ℕ, ◌≡◌, ℤ, List, [], ◌∷◌, ◌++◌, length, map, slice_index_or, slice_set, Option, Some, None, if◌then◌else◌, refl}
use Rattle.fx_rational.specs.Decimal.{Decimal, decimal_value}
use Rattle.fx_model.specs.Function.{Function, Step}
use Rattle.fx_model.specs.Machine.{Program, machine_step}
use Rattle.fx_rows.specs.Ranges.{reader_columns}
use Rattle.fx_stream.specs.Outcome.{Outcome}
use Rattle.fx_rows.specs.ReadRows.{moved_down}
use Rattle.fx_node.specs.Events.{Event, GivenEvents, LineFlaw, NodeColumns, behind_line, event, events_from, events_read}
use Rattle.fx_node.specs.NodePage.{node_head, unit_line}
use Rattle.fx_node.specs.Units.{Units}
use Rattle.fx_node.specs.declared.printer.NodeReader.{NodeReader}

-- ---- lines from state words
-- a step's line and what follows it; nothing where the step is stuck
abbrev pub line_then : Program → ℕ → (Step ℤ → List ℕ) → Option (Step ℤ) → List ℕ
line_then p u more None = []
line_then p u more (Some s) = unit_line p u s.outputs ++ more s

-- the lines of these events, from these state words of the units on, up to a step that is stuck
unfoldable pub lines_from : Program → List Event → List (List ℤ) → List ℕ
lines_from p [] zs = []
lines_from p (e ∷ es) zs =
    line_then p e.unit (λ s. lines_from p es (slice_set zs e.unit s.next))
    (machine_step p (map decimal_value e.row) (slice_index_or zs e.unit []))

-- the state words of each unit
abbrev pub states_of : Units → List (List ℤ)
states_of node = map (λ r. r.states) node.registers

-- ---- lines before and behind the header
-- a line that is no row, or a row of this unit, and what follows
abbrev pub event_then : List Decimal → Option ℕ → GivenEvents → GivenEvents
event_then row None more = behind_line more
event_then row (Some u) more = record { events = event u row ∷ more.events; bad = moved_down 1 more.bad }

-- what comes of lines, where `page` prints the events and `head` stands before them
abbrev pub lines_outcome : Function → ℕ → List ℕ → (List Event → List ℕ) → Option NodeColumns → List (List ℕ) →
    Outcome LineFlaw
lines_outcome f units head page None ls =
    let r = events_read f units ls in
    record {
      text = if r.has_header then head ++ page r.given.events else [];
      rows = length r.given.events;
      bad = r.given.bad;
    }
lines_outcome f units head page (Some columns) ls =
    let g = events_from f units columns ls in record { text = page g.events; rows = length g.events; bad = g.bad }

-- what a node prints of lines to come
abbrev pub units_outcome : Units → Option NodeColumns → List (List ℕ) → Outcome LineFlaw
units_outcome node columns ls =
    lines_outcome node.accepted.function (length node.registers) (node_head node.accepted.program)
    (λ events. lines_from node.accepted.program events (states_of node)) columns ls

-- the columns by which a node reads
abbrev pub node_columns : NodeReader → NodeColumns
node_columns r = record { inputs = reader_columns r.rows; unit = r.unit }

-- where no line is left nothing is printed, and no row is read
pub nothing_printed : (node : Units) (columns : Option NodeColumns) →
    ((units_outcome node columns []).text ≡ []) × ((units_outcome node columns []).rows ≡ 0)
unfolding lines_from
nothing_printed node None = (refl, refl)
nothing_printed node (Some columns) = (refl, refl)
