-- What one more line makes of what is printed.
use Rattle.std.proofs.Common.{◌≡◌, ◌<◌, ◌+◌, ℕ, List, [], ◌∷◌, ◌++◌, map, length, get_or, set, Bool, true, false, Option, Some, None, refl, ap, sym, subst, ◌∙◌, arith}
use Rattle.std.specs.Prelude.{Result, Err, codes, nat_lt, if◌then◌else◌}
use Rattle.std.specs.List.{list_any}
use Rattle.std.proofs.lemmas.Bool.{lt-ltb}
use Rattle.std.proofs.lemmas.List.{get_or-set_same, length-set, map-set}
use Rattle.std.proofs.Math.ListN.{get_or-map}
use Rattle.fx_rational.specs.Decimal.{Decimal, decimal_value}
use Rattle.fx_model.specs.Function.{Function}
use Rattle.fx_model.specs.Limits.{line_limit}
use Rattle.fx_model.specs.Machine.{machine_step}
use Rattle.fx_machine.specs.Registers.{Contents}
use Rattle.fx_machine.specs.Steps.{step_taken}
use Rattle.fx_rows.specs.Line.{is_return, line_fields}
use Rattle.fx_rows.specs.Faults.{at_input}
use Rattle.fx_rows.specs.Header.{column_names, header_of_fields}
use Rattle.fx_rows.specs.ReadRows.{moved_down}
use Rattle.fx_rows.specs.UnitColumn.{column_of, unit_of}
use Rattle.fx_rows.specs.Values.{row_of, row_of_fields, stopped}
use Rattle.fx_rows.specs.declared.fault.RowKind.TheVariants.{LineTooLong, StrayReturn}
use Rattle.fx_stream.specs.Outcome.{Outcome, behind_lines, behind_text, stopped_lines}
use Rattle.fx_stream.proofs.Outcomes.{outcome-same}
use Rattle.fx_node.specs.Events.{Event, GivenEvents, LineFlaw, InRow, NodeColumns, ReadEvents, after_header, after_line, event, events_from, events_read, flawed_here, node_header_of, with_inputs}
use Rattle.fx_node.specs.NodePage.{node_head, unit_line}
use Rattle.fx_node.specs.Steps.{event_then, line_then, lines_from, states_of, units_outcome}
use Rattle.fx_node.specs.Units.{IsTurned, Units, registers_of}

-- ---- a row
-- the line of a unit that took a turn, and the lines behind it
turned_line : (node : Units) (u : ℕ) (row : List Decimal) (made : Contents) → u < length node.registers
    → machine_step node.accepted.program (map decimal_value row) (registers_of node u).states
    ≡ Some (step_taken node.accepted.program made.words)
    → made.states ≡ (step_taken node.accepted.program made.words).next → (rest : List Event)
    → lines_from node.accepted.program (event u row ∷ rest) (states_of node)
    ≡ unit_line node.accepted.program u
    (step_taken node.accepted.program (get_or (set node.registers u made) u record {
      words = [];
      states = [];
    }).words).outputs
    ++ lines_from node.accepted.program rest (map (λ (r : Contents). r.states) (set node.registers u made))
unfolding lines_from
turned_line node u row made lt steps states rest =
    let p = node.accepted.program in let regs = node.registers in let s = step_taken p made.words in
    let first : get_or (states_of node) u [] ≡ (registers_of node u).states =
    get_or-map (λ (r : Contents). r.states) regs u record { words = []; states = [] } in
    ap (λ z. line_then p u (λ s. lines_from p rest (set (states_of node) u s.next))
    (machine_step p (map decimal_value row) z)) first
    ∙ ap (line_then p u (λ s. lines_from p rest (set (states_of node) u s.next))) steps
    ∙ ap (λ z. unit_line p u s.outputs ++ lines_from p rest (set (states_of node) u z)) (sym states)
    ∙ ap (λ zs. unit_line p u s.outputs ++ lines_from p rest zs)
    (sym (map-set (λ (r : Contents). r.states) regs u made))
    ∙ ap (λ (r : Contents). unit_line p u (step_taken p r.words).outputs
    ++ lines_from p rest (map (λ (r : Contents). r.states) (set regs u made))) (sym
    (get_or-set_same regs u made record { words = []; states = [] } lt))

-- what comes of the events that are given
given_outcome : Units → GivenEvents → Outcome LineFlaw
given_outcome node g =
    record { text = lines_from node.accepted.program g.events (states_of node); rows = length g.events; bad = g.bad }

-- how a line reads
abbrev pub ReadsAs : Units → NodeColumns → List ℕ → (GivenEvents → GivenEvents) → Type 0
ReadsAs node columns line how =
    (more : GivenEvents) → after_line (row_of node.accepted.function columns.inputs line)
    (unit_of (length node.registers) columns.unit line) more ≡ how more

-- the line that is printed for a unit
abbrev pub printed_line : Units → ℕ → List ℕ
printed_line node u =
    unit_line node.accepted.program u (step_taken node.accepted.program (registers_of node u).words).outputs

pub row_taken : (old new : Units) (columns : NodeColumns) (u : ℕ) (row : List Decimal) (line : List ℕ) →
    u < length old.registers → IsTurned u (map decimal_value row) old new
    → ReadsAs old columns line (event_then row (Some u)) → (rest : List (List ℕ))
    → units_outcome old (Some columns) (line ∷ rest)
    ≡ behind_lines 1 (printed_line new u) 1 (units_outcome new (Some columns) rest)
unfolding given_outcome
row_taken old new columns u row line lt t reads rest =
    let f = old.accepted.function in let n = length old.registers in
    let more = events_from f n columns rest in
    let many : n ≡ length (set old.registers u t.made) = sym (length-set old.registers u t.made) in
    let made : Units = record { accepted = old.accepted; registers = set old.registers u t.made } in
    subst (λ (node : Units). units_outcome old (Some columns) (line ∷ rest)
    ≡ behind_lines 1 (printed_line node u) 1 (units_outcome node (Some columns) rest)) (sym t.alone)
    (ap (given_outcome old) (reads more)
    ∙ outcome-same _ (printed_line made u ++ lines_from old.accepted.program more.events (states_of made)) _
    (1 + length more.events) _ (moved_down 1 more.bad)
    (turned_line old u row t.made lt t.stepped.step t.stepped.states more.events) (omega arith) refl
    ∙ ap (λ k. behind_lines 1 (printed_line made u) 1 (given_outcome made (events_from f k columns rest))) many)

-- the same of a row as the code has it
pub event_taken : (old new : Units) (columns : NodeColumns) (f : Function) (n u : ℕ) (row row' : List Decimal)
    (line : List ℕ) → f ≡ old.accepted.function → length old.registers ≡ n → row' ≡ row → u < n
    → IsTurned u (map decimal_value row') old new →
    ((more : GivenEvents) →
    after_line (row_of f columns.inputs line) (unit_of n columns.unit line) more ≡ event_then row (Some u) more) →
    (rest : List (List ℕ))
    → units_outcome old (Some columns) (line ∷ rest)
    ≡ behind_lines 1 (printed_line new u) 1 (units_outcome new (Some columns) rest)
event_taken old new columns f n u row row' line same many row_same lt t reads =
    row_taken old new columns u row line (rw (sym many) at lt)
    (subst (λ (r : List Decimal). IsTurned u (map decimal_value r) old new) row_same t)
    (λ more. ap (λ (f : Function). after_line (row_of f columns.inputs line)
    (unit_of (length old.registers) columns.unit line) more) (sym same)
    ∙ ap (λ n. after_line (row_of f columns.inputs line) (unit_of n columns.unit line) more) many ∙ reads more)

pub line_bad : (node : Units) (columns : NodeColumns) (flaw : LineFlaw) (line : List ℕ) →
    ReadsAs node columns line (λ more. flawed_here flaw) → (rest : List (List ℕ))
    → units_outcome node (Some columns) (line ∷ rest) ≡ behind_text [] (stopped_lines flaw)
unfolding given_outcome lines_from
line_bad node columns flaw line reads rest =
    ap (given_outcome node) (reads (events_from node.accepted.function (length node.registers) columns rest))

-- ---- the header
-- what comes of the events that are read
read_outcome : Units → ReadEvents → Outcome LineFlaw
read_outcome node r = record {
  text = if r.has_header then node_head node.accepted.program
      ++ lines_from node.accepted.program r.given.events (states_of node) else [];
  rows = length r.given.events;
  bad = r.given.bad;
}

heads_as : (node : Units) (line : List ℕ) (h : Result (Option NodeColumns) LineFlaw) →
    node_header_of node.accepted.function line ≡ h → (rest : List (List ℕ))
    → units_outcome node None (line ∷ rest)
    ≡ read_outcome node (after_header node.accepted.function (length node.registers) h rest
    (events_read node.accepted.function (length node.registers) rest))
unfolding read_outcome
heads_as node line h e rest =
    let f = node.accepted.function in let n = length node.registers in
    ap (λ h. read_outcome node (after_header f n h rest (events_read f n rest))) e

pub header_bad : (node : Units) (flaw : LineFlaw) (line : List ℕ) →
    node_header_of node.accepted.function line ≡ Err flaw → (rest : List (List ℕ))
    → units_outcome node None (line ∷ rest) ≡ behind_text [] (stopped_lines flaw)
unfolding read_outcome
header_bad node flaw line e rest = heads_as node line (Err flaw) e rest

-- ---- a line that is too long
long_header : (f : Function) (line : List ℕ) (t : Bool) → t ≡ true
    → with_inputs (if t then Err (at_input LineTooLong 0) else if list_any is_return line
    then Err (at_input StrayReturn 0)
    else header_of_fields (column_names f) (line_fields line)) (column_of (codes "unit") line)
    ≡ Err (InRow (at_input LineTooLong 0))
long_header f line true e = refl
long_header f line false e = absurd cc

long_row : (f : Function) (columns line : List ℕ) (o : Option ℕ) (more : GivenEvents) (t : Bool) → t ≡ true
    → after_line (if t then Some (stopped (at_input LineTooLong 0)) else if list_any is_return line
    then Some (stopped (at_input StrayReturn 0)) else row_of_fields f.inputs columns (line_fields line)) o more
    ≡ flawed_here (InRow (at_input LineTooLong 0))
long_row f columns line o more true e = refl
long_row f columns line o more false e = absurd cc

pub long_stops : (node : Units) (columns : Option NodeColumns) (line : List ℕ) (rest : List (List ℕ)) →
    line_limit < length line
    → units_outcome node columns (line ∷ rest) ≡ stopped_lines (InRow (at_input LineTooLong 0))
long_stops node None line rest h =
    header_bad node (InRow (at_input LineTooLong 0)) line
    (long_header node.accepted.function line (nat_lt line_limit (length line))
    (lt-ltb line_limit (length line) h)) rest
long_stops node (Some columns) line rest h =
    line_bad node columns (InRow (at_input LineTooLong 0)) line
    (λ more. long_row node.accepted.function columns.inputs line
    (unit_of (length node.registers) columns.unit line) more (nat_lt line_limit (length line))
    (lt-ltb line_limit (length line) h)) rest
