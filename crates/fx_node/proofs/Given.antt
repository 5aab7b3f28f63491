-- The events of any lines: their rows are in range, and their units are there.
use Rattle.std.proofs.Common.{◌≡◌, ◌<◌, ℕ, List, [], ◌∷◌, map, length, Bool, true, false, Option, Some, None, cond, refl, ap, subst}
use Rattle.std.specs.Prelude.{◌==◌, All, Result, Ok, Err, codes, filter}
use Rattle.std.proofs.lemmas.List.Elements.{All-nil, All-cons, All-head, All-tail}
use Rattle.fx_rational.specs.Decimal.{Decimal, decimal_value}
use Rattle.fx_model.specs.Function.{Function}
use Rattle.fx_model.specs.Rows.{IsInRange}
use Rattle.fx_rows.specs.Faults.{RowFlaw}
use Rattle.fx_rows.specs.Header.{header_of}
use Rattle.fx_rows.specs.ReadRows.{AreInRange}
use Rattle.fx_rows.specs.UnitColumn.{column_of, unit_of}
use Rattle.fx_rows.specs.Values.{Values, row_of}
use Rattle.fx_rows.specs.declared.column.Column.{Column}
use Rattle.fx_rows.specs.declared.column.Column.TheVariants.{Missing, At, Several}
use Rattle.fx_rows.proofs.GivenInRange.{IsGood, good_row, many_columns}
use Rattle.fx_rows.proofs.Units.{unit-below}
use Rattle.fx_node.specs.Events.{Event, EventsInRangeLaw, GivenEvents, LineFlaw, NodeColumns, ReadEvents, after_header, after_line, after_unit, after_values, event, events_from, events_read, node_header_of, rows_of, with_inputs, with_unit}

-- its row is in range, and its unit is there
abbrev pub IsGoodEvent : Function → ℕ → Event → Type 0
IsGoodEvent f units e = IsInRange f.inputs (map decimal_value e.row) × (e.unit < units)

abbrev pub AreGood : Function → ℕ → List Event → Type 0
AreGood f units es = All (IsGoodEvent f units) es

none_good : (f : Function) (units : ℕ) → AreGood f units []
none_good f units = All-nil (IsGoodEvent f units)

-- ---- behind the header
good_unit : (f : Function) (units : ℕ) (row : List Decimal) (o : Option ℕ) (more : GivenEvents) →
    IsInRange f.inputs (map decimal_value row) → ((u : ℕ) → o ≡ Some u → u < units) → AreGood f units more.events
    → AreGood f units (after_unit row o more).events
good_unit f units row None more here below later = none_good f units
good_unit f units row (Some u) more here below later =
    All-cons (IsGoodEvent f units) (event u row) more.events (here, below u refl) later

good_values : (f : Function) (units : ℕ) (row : List Decimal) (fault : Option RowFlaw) (o : Option ℕ)
    (more : GivenEvents) → (fault ≡ None → IsInRange f.inputs (map decimal_value row))
    → ((u : ℕ) → o ≡ Some u → u < units) → AreGood f units more.events →
    AreGood f units (after_values row fault o more).events
good_values f units row None o more here below later = good_unit f units row o more (here refl) below later
good_values f units row (Some flaw) o more here below later = none_good f units

good_line : (f : Function) (units : ℕ) (v : Option Values) (o : Option ℕ) (more : GivenEvents) → IsGood f v →
    ((u : ℕ) → o ≡ Some u → u < units) → AreGood f units more.events
    → AreGood f units (after_line v o more).events
good_line f units None o more here below later = later
good_line f units (Some v) o more here below later = good_values f units v.values v.fault o more here below later

good_from : (f : Function) (units : ℕ) (columns : NodeColumns) (ls : List (List ℕ)) →
    length columns.inputs ≡ length f.inputs → AreGood f units (events_from f units columns ls).events
good_from f units columns [] many = none_good f units
good_from f units columns (l ∷ ls) many =
    good_line f units (row_of f columns.inputs l) (unit_of units columns.unit l) (events_from f units columns ls)
    (good_row f columns.inputs l many) (λ u e. unit-below units columns.unit u l e)
    (good_from f units columns ls many)

-- ---- the header
unit_kept : (inputs : List ℕ) (c : Column) (columns : NodeColumns) → with_unit inputs c ≡ Ok (Some columns) →
    inputs ≡ columns.inputs
unit_kept inputs Missing columns e = absurd cc
unit_kept inputs (At place) columns e =
    let same : record { inputs = inputs; unit = place } ≡ columns = cc in ap (λ (c : NodeColumns). c.inputs) same
unit_kept inputs Several columns e = absurd cc

inputs_kept : (f : Function) (h : Result (Option (List ℕ)) RowFlaw) (c : Column) (columns : NodeColumns) →
    ((inputs : List ℕ) → h ≡ Ok (Some inputs) → length inputs ≡ length f.inputs)
    → with_inputs h c ≡ Ok (Some columns) → length columns.inputs ≡ length f.inputs
inputs_kept f (Err flaw) c columns many e = absurd cc
inputs_kept f (Ok None) c columns many e = absurd cc
inputs_kept f (Ok (Some inputs)) c columns many e =
    subst (λ (is : List ℕ). length is ≡ length f.inputs) (unit_kept inputs c columns e) (many inputs refl)

good_behind : (f : Function) (units : ℕ) (h : Result (Option NodeColumns) LineFlaw) (ls : List (List ℕ))
    (more : ReadEvents) → ((columns : NodeColumns) → h ≡ Ok (Some columns) → length columns.inputs ≡ length f.inputs)
    → AreGood f units more.given.events → AreGood f units (after_header f units h ls more).given.events
good_behind f units (Err flaw) ls more many later = none_good f units
good_behind f units (Ok None) ls more many later = later
good_behind f units (Ok (Some columns)) ls more many later = good_from f units columns ls (many columns refl)

pub good_events : (f : Function) (units : ℕ) (ls : List (List ℕ)) →
    AreGood f units (events_read f units ls).given.events
good_events f units [] = none_good f units
good_events f units (l ∷ ls) =
    good_behind f units (node_header_of f l) ls (events_read f units ls)
    (λ columns e. inputs_kept f (header_of f l) (column_of (codes "unit") l) columns (many_columns f l) e)
    (good_events f units ls)

-- ---- by parts
pub all_below : (f : Function) (units : ℕ) (es : List Event) → AreGood f units es →
    All (λ (e : Event). e.unit < units) es
all_below f units es good = λ k d lt. (good k d lt).1

own_in_range : (f : Function) (units u : ℕ) (es : List Event) → AreGood f units es → AreInRange f (rows_of es u)
own_in_range f units u [] good = All-nil (λ row. IsInRange f.inputs (map decimal_value row))
own_in_range f units u (e ∷ es) good =
    by (e.unit == u) (All-head (IsGoodEvent f units) e es good).0
    (own_in_range f units u es (All-tail (IsGoodEvent f units) e es good))
  where
    by : (b : Bool) → IsInRange f.inputs (map decimal_value e.row) → AreInRange f (rows_of es u)
        → AreInRange f (map (λ (e : Event). e.row)
        (cond b (e ∷ filter (λ (e : Event). e.unit == u) es) (filter (λ (e : Event). e.unit == u) es)))
    by true here later = All-cons (λ row. IsInRange f.inputs (map decimal_value row)) e.row (rows_of es u) here later
    by false here later = later

pub events_in_range : EventsInRangeLaw
events_in_range f units ls u = own_in_range f units u (events_read f units ls).given.events (good_events f units ls)
