-- What is wrong with a line, as the code tells it.
use Rattle.fx_rows.specs.Faults.{row_fault_of}
use Rattle.fx_node.specs.Events.{LineFlaw, InRow, InUnit}
use Rattle.fx_node.specs.declared.fault.Flaw.{Flaw}
use Rattle.fx_node.specs.declared.fault.Flaw.TheVariants as flaw

-- a line's flaw as definitions tell it
abbrev pub flaw_of : Flaw → LineFlaw
flaw_of (flaw.Row fault) = InRow (row_fault_of fault)
flaw_of (flaw.Unit kind) = InUnit kind
