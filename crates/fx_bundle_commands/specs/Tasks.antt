-- What the commands do that take a bundle: how a call of each ends, and what decides it.
use Rattle.std.specs.Prelude.{◌≡◌, ◌⊎◌, ◌==◌, ◌||◌, Bool, not, ℕ, List, Option}
use Rattle.fx_base.specs.Causes.{Rose}
use Rattle.fx_base.specs.Moments.{Moment}
use Rattle.fx_base.specs.Shelf.{Files}
use Rattle.fx_base.specs.Text.{lines_in}
use Rattle.fx_model.specs.Function.{Function}
use Rattle.fx_model.specs.Machine.{Program}
use Rattle.fx_cert_text.specs.BundleView.{Parts}
use Rattle.fx_rows.specs.ReadRows.{read_rows}
use Rattle.fx_stream.specs.Ending.{Streams}
use Rattle.fx_stream.specs.Promise.{IsAnswered}
use Rattle.fx_run.specs.Printed.{run_outcome}
use Rattle.fx_node.specs.Events.{events_read}
use Rattle.fx_node.specs.NodePage.{node_outcome}
use Rattle.fx_ends.specs.Ends.{End, Done, BadRow, status_of, end_line}
use Rattle.fx_ends.specs.Notes.{AreNotes}
use Rattle.fx_bundle_commands.specs.declared.commands.sheet.Sheet.{Sheet}
use Rattle.fx_bundle_commands.specs.Outside.{Outside, World, AreUntouched}
use Rattle.fx_bundle_commands.specs.Opening.{IsBundle, IsAcceptedAs, OpensThen}
use Rattle.fx_bundle_commands.specs.Exact.{IsReady, OrNoMemory}
use Rattle.fx_bundle_commands.specs.commands.Rows.{IsReadable, rows_end}
use Rattle.fx_bundle_commands.specs.commands.Run.{Runs}
use Rattle.fx_bundle_commands.specs.commands.Node.{RunsUnits, bad_end}
use Rattle.fx_bundle_commands.specs.commands.Sheets.{PrintsSheet}

-- what a command does with an accepted bundle: it runs the rows of the input, as `run` and `mixed`, or those of so many
-- units, as `node`, or it prints a text of it
pub data Task : Type 0 where
  RunRows : Task
  RunUnits : (units : ℕ) → Task
  Prints : Sheet → Task

-- how that ends, where the bundle's source means fn
abbrev pub Does : Task → Streams → Streams → Parts → Function → End → Type 0
Does RunRows old new = Runs old new
Does (RunUnits units) old new = RunsUnits units old new
Does (Prints sheet) old new = PrintsSheet sheet old.sink new.sink

-- how a command ends that does this with the bundle in FILE
abbrev pub BundleEnds : Task → Outside → Outside → List ℕ → End → Type 0
BundleEnds task old new name = OpensThen old new name (Does task old.streams new.streams)

-- what decides that end, where the bundle is accepted: the rows of an input that is told and doesn't fail, and of a
-- text that no write fails
abbrev pub Decides : Task → Streams → Streams → Function → (End → Type 0) → Type 0
Decides RunRows old new fn IsEnd =
    (held : List ℕ) → IsReadable old new held →
    OrNoMemory IsEnd (rows_end (BadRow fn.inputs) (read_rows fn held).given.bad)
Decides (RunUnits units) old new fn IsEnd =
    (held : List ℕ) → IsReadable old new held →
    OrNoMemory IsEnd (rows_end (bad_end fn.inputs) (events_read fn units (lines_in held)).given.bad)
Decides (Prints sheet) old new fn IsEnd = ¬ Rose old.sink.faults new.sink.faults → OrNoMemory IsEnd Done

-- the whole of it
abbrev pub BundleCompletes : Task → Outside → Outside → List ℕ → (End → Type 0) → Type 0
BundleCompletes task old new name IsEnd =
    (b : Parts) (fn : Function) → IsReady old new name b fn → Decides task old.streams new.streams fn IsEnd

-- when the input was asked for more, exactly what the lines so far come to was printed; the tasks that print a text
-- never ask
abbrev pub HasAnswered : Task → Function → Program → Streams → Moment → Type 0
HasAnswered RunRows fn p old = IsAnswered (run_outcome fn p) old.source.left old.sink.taken
HasAnswered (RunUnits units) fn p old = IsAnswered (node_outcome fn p units) old.source.left old.sink.taken
HasAnswered (Prints sheet) fn p old = λ m. ⊥

-- so of the accepted bundle in FILE
pub record IsPromptAt (task : Task) (files : Option Files) (name : List ℕ) (old : Streams) (m : Moment) : Type 0 where
  pub bundle : Parts
  pub function : Function
  pub is_bundle : IsBundle files name bundle
  pub accepted : IsAcceptedAs bundle function
  pub answered : HasAnswered task function bundle.program old m

-- the status and the line on the notes are those of this end
pub record IsAnswer {S K : Type 0} (old new : World S K) (status : ℕ) (end : End) : Type 0 where
  pub status_is : status ≡ status_of end
  pub line : AreNotes old.notes new.notes (end_line end)

-- any status but 0 and 7: a command that reads no rows has printed nothing
abbrev pub is_silent : ℕ → Bool
is_silent status = not ((status == 0) || (status == 7))

-- the status of a read fault, or of no memory, and both streams tell what they told before
pub record IsUnopened (old new : Streams) (status : ℕ) : Type 0 where
  pub failed : (status ≡ 6) ⊎ (status ≡ 8)
  pub untouched : AreUntouched old new
