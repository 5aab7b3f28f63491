-- The lines of a unit by its own rows alone.
use Rattle.std.proofs.Common.{◌≡◌, ℕ, ℤ, List, [], ◌∷◌, ◌++◌, map, Bool, true, false, Option, Some, cond, refl, ap, sym, ◌∙◌, append-nil}
use Rattle.std.specs.Prelude.{◌==◌, filter}
use Rattle.std.proofs.lemmas.List.{map-append}
use Rattle.std.proofs.lemmas.List.Elements.{filter-append}
use Rattle.std.proofs.lemmas.Option.{same_Some}
use Rattle.std.proofs.lemmas.Bool.Decides.{nat_tests}
use Rattle.std.proofs.Common.{arith}
use Rattle.fx_rational.specs.Decimal.{Decimal, decimal_value}
use Rattle.fx_model.specs.Function.{Run, Step, run_of}
use Rattle.fx_model.specs.Machine.{Program, machine_run, machine_step, start_words}
use Rattle.fx_run.specs.Printed.{given_values}
use Rattle.fx_node.specs.Events.{Event, rows_of}
use Rattle.fx_node.specs.NodePage.{UnitLine, UnitRunLaw, UnitsApartLaw, event_line, last_outputs, lines_behind, unit_line}
use Rattle.fx_node.proofs.Runs.{first_step, last_more, run_more}

-- ---- a unit's rows
-- one more event is one more row of its unit
pub rows_more : (before : List Event) (e : Event) (u : ℕ) →
    rows_of (before ++ e ∷ []) u ≡ rows_of before u
    ++ map (λ (e : Event). e.row) (filter (λ (e : Event). e.unit == u) (e ∷ []))
rows_more before e u =
    ap (map (λ (e : Event). e.row)) (filter-append (λ (e : Event). e.unit == u) before (e ∷ []))
    ∙ map-append (λ (e : Event). e.row) (filter (λ (e : Event). e.unit == u) before)
    (filter (λ (e : Event). e.unit == u) (e ∷ []))

-- of this unit
pub rows_own : (before : List Event) (e : Event) (u : ℕ) → (e.unit == u) ≡ true →
    rows_of (before ++ e ∷ []) u ≡ rows_of before u ++ e.row ∷ []
rows_own before e u t =
    rows_more before e u ∙ ap (λ b. rows_of before u ++ map (λ (e : Event). e.row) (cond b (e ∷ []) [])) t

-- of another one
pub rows_other : (before : List Event) (e : Event) (u : ℕ) → (e.unit == u) ≡ false →
    rows_of (before ++ e ∷ []) u ≡ rows_of before u
rows_other before e u t = rows_more before e u
    ∙ ap (λ b. rows_of before u ++ map (λ (e : Event). e.row) (cond b (e ∷ []) [])) t ∙ append-nil (rows_of before u)

pub same_unit : (n u : ℕ) → (n == u) ≡ true → n ≡ u
same_unit n u t = grind (arith, nat_tests)

-- ---- a unit's lines
-- the lines of a unit's rows, behind others of its own
pub own_lines : Program → ℕ → List (List Decimal) → List (List Decimal) → List (List ℕ)
own_lines p u done [] = []
own_lines p u done (row ∷ rows) =
    unit_line p u (last_outputs (machine_run p (given_values (done ++ row ∷ []))))
    ∷ own_lines p u (done ++ row ∷ []) rows

pub texts_of : ℕ → List UnitLine → List (List ℕ)
texts_of u ls = map (λ (l : UnitLine). l.text) (filter (λ (l : UnitLine). l.unit == u) ls)

by_own_rows : (p : Program) (u : ℕ) (before es : List Event) →
    texts_of u (lines_behind p before es) ≡ own_lines p u (rows_of before u) (rows_of es u)
unfolding own_lines texts_of
by_own_rows p u before [] = refl
by_own_rows p u before (e ∷ es) = by (by_own_rows p u (before ++ e ∷ []) es) (e.unit == u) refl
  where
    by : texts_of u (lines_behind p (before ++ e ∷ []) es)
        ≡ own_lines p u (rows_of (before ++ e ∷ []) u) (rows_of es u) → (b : Bool) → (e.unit == u) ≡ b
        → map (λ (l : UnitLine). l.text)
        (cond b (record {
          unit = e.unit;
          text = event_line p before e;
        } ∷ filter (λ (l : UnitLine). l.unit == u) (lines_behind p (before ++ e ∷ []) es))
        (filter (λ (l : UnitLine). l.unit == u) (lines_behind p (before ++ e ∷ []) es)))
        ≡ own_lines p u (rows_of before u)
        (map (λ (e : Event). e.row)
        (cond b (e ∷ filter (λ (e : Event). e.unit == u) es) (filter (λ (e : Event). e.unit == u) es)))
    by later true t =
        let own = same_unit e.unit u t in
        let next = rows_own before e u t in
        let line : event_line p before e
        ≡ unit_line p u (last_outputs (machine_run p (given_values (rows_of before u ++ e.row ∷ [])))) =
        ap (λ v. unit_line p v (last_outputs (machine_run p (given_values (rows_of (before ++ e ∷ []) v))))) own
        ∙ ap (λ rows. unit_line p u (last_outputs (machine_run p (given_values rows)))) next in
        ap (λ t. t ∷ texts_of u (lines_behind p (before ++ e ∷ []) es)) line
        ∙ ap (λ ts. unit_line p u (last_outputs (machine_run p (given_values (rows_of before u ++ e.row ∷ [])))) ∷ ts)
        (later ∙ ap (λ rows. own_lines p u rows (rows_of es u)) next)
    by later false t = later ∙ ap (λ rows. own_lines p u rows (rows_of es u)) (rows_other before e u t)

pub apart : UnitsApartLaw
unfolding texts_of
apart p es es' u same = by_own_rows p u [] es ∙ ap (own_lines p u []) same ∙ sym (by_own_rows p u [] es')

-- ---- by one run
given-more : (rows : List (List Decimal)) (row : List Decimal) →
    given_values (rows ++ row ∷ []) ≡ given_values rows ++ map decimal_value row ∷ []
given-more rows row = map-append (map decimal_value) rows (row ∷ [])

-- the last outputs behind one more row
pub outputs_more : (p : Program) (done : List (List Decimal)) (row : List Decimal) (r : Run ℤ) (s : Step ℤ) →
    machine_run p (given_values done) ≡ Some r → machine_step p (map decimal_value row) r.last ≡ Some s
    → machine_run p (given_values (done ++ row ∷ [])) ≡ Some record {
      outputs = r.outputs ++ s.outputs ∷ [];
      last = s.next;
    }
outputs_more p done row r s e h = ap (machine_run p) (given-more done row)
    ∙ run_more (machine_step p) (given_values done) (map decimal_value row) (start_words p.codes) r s e h

pub last_of : (o : Option (Run ℤ)) (r : Run ℤ) (s : Step ℤ) →
    o ≡ Some record { outputs = r.outputs ++ s.outputs ∷ []; last = s.next } → last_outputs o ≡ s.outputs
last_of o r s e = ap last_outputs e ∙ last_more r.outputs s.outputs []

by_one_run : (p : Program) (u : ℕ) (done rows : List (List Decimal)) (r run : Run ℤ) →
    machine_run p (given_values done) ≡ Some r → run_of (machine_step p) (given_values rows) r.last ≡ Some run
    → own_lines p u done rows ≡ map (unit_line p u) run.outputs
unfolding own_lines
by_one_run p u done [] r run e h =
    ap (λ (x : Run ℤ). map (unit_line p u) x.outputs) (same_Some record { outputs = []; last = r.last } run h)
by_one_run p u done (row ∷ rows) r run e h =
    let f =
    first_step (machine_step p (map decimal_value row) r.last)
    (λ s. run_of (machine_step p) (given_values rows) s.next) run h in
    let more = outputs_more p done row r f.made e f.steps in
    ap (λ ws. unit_line p u ws ∷ own_lines p u (done ++ row ∷ []) rows)
    (last_of (machine_run p (given_values (done ++ row ∷ []))) r f.made more)
    ∙ ap (λ ts. unit_line p u f.made.outputs ∷ ts)
    (by_one_run p u (done ++ row ∷ []) rows record {
      outputs = r.outputs ++ f.made.outputs ∷ [];
      last = f.made.next;
    } f.later more f.goes_on)
    ∙ ap (λ (x : Run ℤ). map (unit_line p u) x.outputs) f.all

pub one_run : UnitRunLaw
unfolding texts_of
one_run p es u run e = by_own_rows p u [] es
    ∙ by_one_run p u [] (rows_of es u) record { outputs = []; last = start_words p.codes } run refl e
