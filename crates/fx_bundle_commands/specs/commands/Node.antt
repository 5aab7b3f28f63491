-- What `node --units M FILE` does: it runs the rows of each unit by themselves, and prints their lines in the order of
-- the input.
use Rattle.std.specs.Prelude.{ℕ, List}
use Rattle.fx_model.specs.Function.{Function, Input}
use Rattle.fx_cert_text.specs.BundleView.{Parts}
use Rattle.fx_node.specs.Events.{LineFlaw, InRow, InUnit}
use Rattle.fx_node.specs.NodePage.{UnitsLaw, node_outcome}
use Rattle.fx_stream.specs.Ending.{Streams}
use Rattle.fx_ends.specs.Ends.{End, BadRow, BadUnit}
use Rattle.fx_bundle_commands.specs.commands.Rows.{RunsLines}

-- the end at a bad line: by a fault of its row, which names one of these inputs, or of its unit
abbrev pub bad_end : List Input → ℕ → LineFlaw → End
bad_end inputs line (InRow fault) = BadRow inputs line fault
bad_end inputs line (InUnit kind) = BadUnit line kind

-- what it does with an accepted bundle, whose source means fn: the rows end so, and of the rows that any input has for
-- each unit the program is worth what is certified
abbrev pub RunsUnits : ℕ → Streams → Streams → Parts → Function → End → Type 0
RunsUnits units old new b fn end =
    RunsLines (node_outcome fn b.program units) (bad_end fn.inputs) (UnitsLaw fn b.program b.certificate) old new end
