-- The page of a run that read all rows.
use Rattle.std.proofs.Common.{◌≡◌, ◌∙◌, ◌≤◌, ◌<◌, ◌++◌, ℕ, Bool, true, subst, if◌then◌else◌, List, [], ◌∷◌, length, map, Option, Some, None, Result, Ok, Err, refl, ap, sym, arith}
use Rattle.std.proofs.lemmas.List.{length-append, length-map}
use Rattle.fx_base.specs.Text.{lines_in}
use Rattle.fx_rational.specs.Decimal.{decimal_value}
use Rattle.fx_model.specs.Function.{Function}
use Rattle.fx_model.specs.Machine.{machine_run, machine_step, start_words}
use Rattle.fx_checker.specs.CertifiedView.{Accepted}
use Rattle.fx_stream.specs.Promise.{IsDone}
use Rattle.fx_rows.specs.Faults.{RowFlaw}
use Rattle.fx_rows.specs.Header.{header_of}
use Rattle.fx_rows.specs.ReadRows.{Read, after_header, lines_read}
use Rattle.fx_run.specs.Printed.{RowsLaw, given_values, run_outcome, run_page}
use Rattle.fx_demo.specs.Demonstration.{IsRun, given}
use Rattle.fx_demo.proofs.GoodRows.{still_none, thousand}
use Rattle.fx_demo.proofs.Pages.{run_outputs, two_lines}
use Rattle.fx_demo.specs.LastLine.{HasTwoLines}
use Rattle.fx_demo.specs.Rows.{demo_rows}

headed-by : (f : Function) (h : Result (Option (List ℕ)) RowFlaw) (ls : List (List ℕ)) (more : Read) →
    (more.given.bad ≡ None → more.has_header ≡ true)
    → (after_header f h ls more).given.bad ≡ None → (after_header f h ls more).has_header ≡ true
headed-by f (Err fault) ls more ih good = absurd cc
headed-by f (Ok None) ls more ih good = ih (still_none 1 more.given.bad good)
headed-by f (Ok (Some columns)) ls more ih good = refl

-- where no line is bad, a header stood
headed : (f : Function) (ls : List (List ℕ)) → (lines_read f ls).given.bad ≡ None → (lines_read f ls).has_header ≡ true
headed f [] good = absurd cc
headed f (l ∷ ls) good = headed-by f (header_of f l) ls (lines_read f ls) (headed f ls) good

-- no more is taken than there is
pub not_over : (all taken left : List ℕ) (limit : ℕ) → all ≡ taken ++ left → limit < length taken →
    length all ≤ limit → ⊥
not_over all taken left limit parts over within =
    omega (arith, over, within, ap length parts, length-append taken left)

-- all is printed, behind nothing
pub whole-run : (a : Accepted) (held before text : List ℕ) (count : ℕ) → held ≡ demo_rows → before ≡ [] →
    RowsLaw a.function a.program a.certificate
    → IsDone (run_outcome a.function a.program (lines_in held)) count (Some before) (Some text) → IsRun a text
whole-run a held before text count is none law done =
    let here : IsDone (run_outcome a.function a.program (lines_in demo_rows)) count (Some before) (Some text) =
    subst (λ h. IsDone (run_outcome a.function a.program (lines_in h)) count (Some before) (Some text)) is done in
    let d : IsDone (run_outcome a.function a.program (lines_in demo_rows)) count (Some []) (Some text) =
    subst (λ b. IsDone (run_outcome a.function a.program (lines_in demo_rows)) count (Some b) (Some text)) none here in
    let r = lines_read a.function (lines_in demo_rows) in let run = law (lines_in demo_rows) in
    record {
      good = d.good;
      count = thousand a.function d.good;
      run = run;
      printed =
          d.printed ∙ ap (λ (t : Bool). if t then run_page a.program (machine_run a.program (given_values r.given.rows))
          else []) (headed a.function (lines_in demo_rows) d.good) ∙ ap (run_page a.program) run.own;
    }

-- its page has the header and a row
pub paged : (a : Accepted) (text : List ℕ) → IsRun a text → HasTwoLines text
paged a text run =
    let rows = (given a.function).rows in
    let some : 1 ≤ length (given_values rows) = omega (arith, run.count, length-map rows (map decimal_value)) in
    subst HasTwoLines (sym run.printed)
    (two_lines a.program run.run.run.outputs
    (run_outputs (machine_step a.program) (given_values rows) (start_words a.program.codes) run.run.run some run.run.own))
