-- What `run FILE` does: it runs the rows of the input, and prints their page.
use Rattle.fx_model.specs.Function.{Function}
use Rattle.fx_cert_text.specs.BundleView.{Parts}
use Rattle.fx_run.specs.Printed.{RowsLaw, run_outcome}
use Rattle.fx_stream.specs.Ending.{Streams}
use Rattle.fx_ends.specs.Ends.{End, BadRow}
use Rattle.fx_bundle_commands.specs.commands.Rows.{RunsLines}

-- what it does with an accepted bundle, whose source means fn: its rows end so, and of the rows of any input its
-- program is worth what is certified
abbrev pub Runs : Streams → Streams → Parts → Function → End → Type 0
Runs old new b fn end =
    RunsLines (run_outcome fn b.program) (BadRow fn.inputs) (RowsLaw fn b.program b.certificate) old new end
