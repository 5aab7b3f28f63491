-- What contracts see of how a call ends.
use Rattle.std.specs.Prelude.{map}
use Rattle.fx_formulas.specs.FaultView as conditions
use Rattle.fx_rows.specs.Faults as rows
use Rattle.fx_expr.specs.Parts.{input_of}
use Rattle.fx_ends.specs.Ends as ends
use Rattle.fx_ends.specs.declared.end.End.{End}
use Rattle.fx_ends.specs.declared.end.Place.{Place}
use Rattle.fx_ends.specs.declared.end.Place.TheVariants.{Node, Output}
use Rattle.fx_ends.specs.declared.end.End.TheVariants.{Done, Usage, ReadFault, WriteFault, NoMemory, OverLimit, Rejected, Misread, BadBundle, NotFound, BadRow, BadUnit}

-- the definition's place
abbrev pub place_of : Place → ends.Place
place_of (Node node) = ends.Node node
place_of (Output output) = ends.Output output

-- the definition's end
abbrev pub end_of : End → ends.End
end_of Done = ends.Done
end_of Usage = ends.Usage
end_of ReadFault = ends.ReadFault
end_of WriteFault = ends.WriteFault
end_of NoMemory = ends.NoMemory
end_of OverLimit = ends.OverLimit
end_of (Rejected fault) = ends.Rejected (conditions.condition_fault_of fault)
end_of (Misread fault) = ends.Misread fault
end_of (BadBundle fault) = ends.BadBundle fault
end_of (NotFound place) = ends.NotFound (place_of place)
end_of (BadRow inputs line fault) = ends.BadRow (map input_of inputs.now) line (rows.row_fault_of fault)
end_of (BadUnit line kind) = ends.BadUnit line kind
