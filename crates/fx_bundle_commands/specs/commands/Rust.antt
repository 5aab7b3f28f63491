-- What `rust FILE` prints: the program of an accepted bundle as Rust text.
use Rattle.std.specs.Prelude.{ℕ, List}
use Rattle.fx_model.specs.Function.{Function}
use Rattle.fx_model.specs.Machine.{Program}
use Rattle.fx_inequalities.specs.Certificate.{Certificate}
use Rattle.fx_cert_text.specs.BundleView.{Parts}
use Rattle.fx_statements.specs.OfProgram.{routine_of}
use Rattle.fx_statements.specs.Runs.{DoesSteps}
use Rattle.fx_statements.specs.RustText.{rust_text}
use Rattle.fx_widths.specs.LeastWidths.{least_widths}
use Rattle.fx_mixed.specs.TextRuns.{TextRunsLaw}

-- the one text, in which the name of each code has the least type that its least width fits
abbrev pub rust_of : Program → Certificate → List ℕ
rust_of p c = rust_text (routine_of p (least_widths p c))

-- it does the machine's step wherever that isn't stuck and each word lies in its width; so over all rows in range it
-- gives the machine's run, which isn't stuck. Nothing in it panics, and no `as` and no `<<` changes a value
pub record IsRustFor (b : Parts) (fn : Function) : Type 0 where
  pub steps : DoesSteps b.program (least_widths b.program b.certificate) (rust_of b.program b.certificate)
  pub runs : TextRunsLaw fn.inputs b.program b.certificate
