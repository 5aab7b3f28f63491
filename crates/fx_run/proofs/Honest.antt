-- The run over given rows: it isn't stuck, keeps its bounds, and is printed line by line.
use Rattle.std.proofs.Common.{◌≡◌, ℕ, ℤ, List, [], ◌∷◌, ◌++◌, map, length, Option, Some, None, refl, ap, sym, ◌∙◌}
use Rattle.std.specs.Prelude.{if◌then◌else◌}
use Rattle.std.specs.Option.{option_map, option_and_then}
use Rattle.fx_rational.specs.Decimal.{Decimal, decimal_value}
use Rattle.fx_model.specs.Function.{Function, Step, Run, run_of}
use Rattle.fx_model.specs.Machine.{Program, machine_run, machine_step, output_points, start_words}
use Rattle.fx_model.specs.Page.{line_of, names_from, page_lines}
use Rattle.fx_model.specs.Rows.{AreInputs, InRangeLaw}
use Rattle.fx_inequalities.specs.Certificate.{Certificate}
use Rattle.fx_inequalities.specs.Rewriting.{Rewrites}
use Rattle.fx_sound.specs.Soundness.{BoundLaw, IsCertified, RunLaw}
use Rattle.fx_widths.specs.Laws.{OwnWidthsLaw}
use Rattle.fx_rows.specs.ReadRows.{Read, RowsInRangeLaw, lines_read}
use Rattle.fx_stream.specs.Printed.{lines_outcome, page_of}
use Rattle.fx_checker.specs.CertifiedView.{Accepted}
use Rattle.fx_run.specs.Printed.{RowsLaw, given_values, printed, run_outcome, run_page}
use Rattle.fx_run.specs.Steps.{lines_from, line_then, step_line}
use Rattle.fx_run.proofs.HonestRun.{honest_run}

-- ---- the law
-- what certification says of the rows of any lines
pub honest : (rewrite : Rewrites) (f : Function) (p : Program) (cert : Certificate) → InRangeLaw → RowsInRangeLaw →
    RunLaw → BoundLaw → OwnWidthsLaw → AreInputs f.inputs → IsCertified rewrite f p cert → RowsLaw f p cert
honest rewrite f p cert in_range rows_in_range run_law bound_law widths_law inputs certified ls =
    honest_run rewrite f p cert in_range run_law bound_law widths_law inputs certified (lines_read f ls).given.rows
    (rows_in_range f ls)

-- ---- the lines
-- step by step the lines of a run are those of its outputs
lines_of_run : (p : Program) (rows : List (List Decimal)) (z : List ℤ) (run : Run ℤ) →
    run_of (machine_step p) (given_values rows) z ≡ Some run
    → lines_from p rows z ≡ page_lines (output_points p) run.outputs
unfolding lines_from
lines_of_run p [] z run e =
    let same : record { outputs = []; last = z } ≡ run = cc in
    ap (λ (r : Run ℤ). page_lines (output_points p) r.outputs) same
lines_of_run p (row ∷ rows) z run e =
    by (machine_step p (map decimal_value row) z) (λ s r. lines_of_run p rows s.next r) e
  where
    joined : Step ℤ → Option (Run ℤ) → Option (Run ℤ)
    joined s o = option_map (λ r. record { outputs = s.outputs ∷ r.outputs; last = r.last }) o

    behind : (s : Step ℤ) (o : Option (Run ℤ)) →
        ((r : Run ℤ) → o ≡ Some r → lines_from p rows s.next ≡ page_lines (output_points p) r.outputs) →
        joined s o ≡ Some run
        → step_line p s ++ lines_from p rows s.next ≡ page_lines (output_points p) run.outputs
    behind s None more h = absurd cc
    behind s (Some r) more h =
        let same : record { outputs = s.outputs ∷ r.outputs; last = r.last } ≡ run = cc in
        ap (λ t. step_line p s ++ t) (more r refl) ∙ ap (λ (x : Run ℤ). page_lines (output_points p) x.outputs) same

    by : (o : Option (Step ℤ)) →
        ((s : Step ℤ) (r : Run ℤ) → run_of (machine_step p) (given_values rows) s.next ≡ Some r →
        lines_from p rows s.next ≡ page_lines (output_points p) r.outputs)
        → option_and_then (λ s. joined s (run_of (machine_step p) (given_values rows) s.next)) o ≡ Some run
        → line_then p (λ s. lines_from p rows s.next) o ≡ page_lines (output_points p) run.outputs
    by None more h = absurd cc
    by (Some s) more h = behind s (run_of (machine_step p) (given_values rows) s.next) (more s) h

-- what is printed by the lines is the page of the run
page_is : (p : Program) (rows : List (List Decimal)) (run : Run ℤ) → machine_run p (given_values rows) ≡ Some run
    → line_of (names_from 1 p.outputs) ++ lines_from p rows (start_words p.codes)
    ≡ run_page p (machine_run p (given_values rows))
page_is p rows run e =
    ap (λ t. line_of (names_from 1 p.outputs) ++ t) (lines_of_run p rows (start_words p.codes) run e)
    ∙ ap (run_page p) (sym e)

text_is : (p : Program) (r : Read) (run : Run ℤ) → machine_run p (given_values r.given.rows) ≡ Some run
    → page_of (line_of (names_from 1 p.outputs)) (λ rows. lines_from p rows (start_words p.codes)) r ≡ printed p r
text_is p r run e = ap (λ t. if r.has_header then t else []) (page_is p r.given.rows run e)

-- what comes of lines, told by the step and by the run
pub outcome_is : (a b : Accepted) (z : List ℤ) → a ≡ b → z ≡ start_words b.program.codes →
    RowsLaw b.function b.program b.certificate → (ls : List (List ℕ))
    → lines_outcome a.function (line_of (names_from 1 a.program.outputs)) (λ rows. lines_from a.program rows z) None ls
    ≡ run_outcome b.function b.program ls
outcome_is a b z same start law ls =
    let h = law ls in
    ap (λ (x : Accepted). lines_outcome x.function (line_of (names_from 1 x.program.outputs))
    (λ rows. lines_from x.program rows z) None ls) same
    ∙ ap (λ w. lines_outcome b.function (line_of (names_from 1 b.program.outputs))
    (λ rows. lines_from b.program rows w) None ls) start
    ∙ ap (λ t. record {
      text = t;
      rows = length (lines_read b.function ls).given.rows;
      bad = (lines_read b.function ls).given.bad;
    }) (text_is b.program (lines_read b.function ls) h.run h.own)

-- ---- one step
-- the line of a step, and the lines behind it
pub line_next : (p : Program) (row : List Decimal) (z next : List ℤ) (s : Step ℤ) →
    machine_step p (map decimal_value row) z ≡ Some s → next ≡ s.next → (rest : List (List Decimal))
    → lines_from p (row ∷ rest) z ≡ step_line p s ++ lines_from p rest next
unfolding lines_from
line_next p row z next s made same rest =
    ap (line_then p (λ s. lines_from p rest s.next)) made ∙ ap (λ w. step_line p s ++ lines_from p rest w) (sym same)
