-- What a run over the rows of an input prints, and what is true of it.
use Rattle.std.specs.Prelude.{ℕ, ◌≡◌, ℤ, List, [], length, map, Option, Some, None, if◌then◌else◌}
use Rattle.fx_rational.specs.Rational.{Rational}
use Rattle.fx_rational.specs.Decimal.{Decimal, decimal_value}
use Rattle.fx_model.specs.Function.{Function, Run, exact_run}
use Rattle.fx_model.specs.Machine.{Program, machine_run, start_words}
use Rattle.fx_model.specs.Page.{page}
use Rattle.fx_model.specs.Rows.{AreTrueOf}
use Rattle.fx_inequalities.specs.Certificate.{Certificate}
use Rattle.fx_sound.specs.Soundness.{AllBounded, AllInEnds}
use Rattle.fx_statements.specs.Widths.{RowsFitWidths}
use Rattle.fx_widths.specs.LeastWidths.{least_widths}
use Rattle.fx_rows.specs.Faults.{RowFlaw}
use Rattle.fx_rows.specs.ReadRows.{Read, lines_read}
use Rattle.fx_stream.specs.Outcome.{Outcome}

-- the given rows as rationals
abbrev pub given_values : List (List Decimal) → List (List Rational)
given_values rows = map (map decimal_value) rows

-- the page of a run; nothing where it is stuck
abbrev pub run_page : Program → Option (Run ℤ) → List ℕ
run_page p None = []
run_page p (Some run) = page p run.outputs

-- the page of the program's run over the rows that were read; nothing where no good header stands
abbrev pub printed : Program → Read → List ℕ
printed p r = if r.has_header then run_page p (machine_run p (given_values r.given.rows)) else []

-- what comes of lines: their page, how many rows, and the first bad line
abbrev pub run_outcome : Function → Program → List (List ℕ) → Outcome RowFlaw
run_outcome f p ls =
    let r = lines_read f ls in record { text = printed p r; rows = length r.given.rows; bad = r.given.bad }

-- the exact run over these true rows is defined, and each printed output is within its certified bound of it
pub record IsWithinBounds (f : Function) (p : Program) (cert : Certificate) (run : Run ℤ)
    (ts : List (List Rational)) : Type 0 where
  pub exact_made : Run Rational
  pub defined : exact_run f ts ≡ Some exact_made
  pub bounded : AllBounded p cert run.outputs exact_made.outputs

-- the machine isn't stuck on these rows, each word lies in the least width that the certificate gives its code, each
-- printed value keeps the ends that the source demands of it, and for all rows that may be the true ones the outputs
-- keep their bounds
pub record IsHonestRun (f : Function) (p : Program) (cert : Certificate) (gs : List (List Rational)) : Type 0 where
  pub run : Run ℤ
  pub own : machine_run p gs ≡ Some run
  pub widths : RowsFitWidths p (least_widths p cert) gs (start_words p.codes)
  pub ends : AllInEnds f p run.outputs
  pub bound : (ts : List (List Rational)) → AreTrueOf f.inputs gs ts → IsWithinBounds f p cert run ts

-- so it is for the rows of any lines
abbrev pub RowsLaw : Function → Program → Certificate → Type 0
RowsLaw f p cert = (ls : List (List ℕ)) → IsHonestRun f p cert (given_values (lines_read f ls).given.rows)
