-- How a call ends: its status, and the line on the notes that says why.
use Rattle.std.specs.Prelude.{ℕ, List, [], ◌∷◌, ◌++◌, codes, Option, Some, None, option_map}
use Rattle.std.specs.List.{concat}
use Rattle.std.specs.Fmt.{decimal}
use Rattle.fx_model.specs.Tree.{at}
use Rattle.fx_model.specs.Function.{Input}
use Rattle.fx_inequalities.specs.Condition.{Fault}
use Rattle.fx_inequalities.specs.NodeConditions.{no_input}
use Rattle.fx_lexer.specs.declared.fault.SourceFault.{SourceFault}
use Rattle.fx_text.specs.declared.fault.TextFault.{TextFault}
use Rattle.fx_rows.specs.Faults as rows
use Rattle.fx_rows.specs.declared.fault.RowKind.{RowKind}
use Rattle.fx_rows.specs.declared.unit.UnitKind.{UnitKind}
use Rattle.fx_rows.specs.declared.fault.RowKind.TheVariants.{LineTooLong, StrayReturn}
use Rattle.fx_formulas.specs.PartNames.{part_name}
use Rattle.fx_ends.specs.KindTexts.{condition_text, source_text, bundle_kind_text, row_text, unit_text}

-- what a line names of a function: a node, or an output, which counts from 1
pub data Place : Type 0 where
  Node : (node : ℕ) → Place
  Output : (output : ℕ) → Place

-- the inputs are those of the function whose rows were read
pub data End : Type 0 where
  Done Usage ReadFault WriteFault NoMemory OverLimit : End
  Rejected : (fault : Fault) → End
  Misread : (fault : SourceFault) → End
  BadBundle : (fault : TextFault) → End
  NotFound : (place : Place) → End
  BadRow : (inputs : List Input) (line : ℕ) (fault : rows.RowFlaw) → End
  BadUnit : (line : ℕ) (kind : UnitKind) → End

-- its status
abbrev pub status_of : End → ℕ
status_of Done = 0
status_of (Rejected fault) = 1
status_of Usage = 2
status_of (Misread fault) = 3
status_of (BadBundle fault) = 4
status_of (BadRow inputs line fault) = 5
status_of (BadUnit line kind) = 5
status_of ReadFault = 6
status_of WriteFault = 7
status_of NoMemory = 8
status_of (NotFound place) = 9
status_of OverLimit = 10

-- the column's name behind a row's fault; one of the line as a whole has none
abbrev pub column_text : List Input → ℕ → RowKind → List (List ℕ)
column_text inputs k LineTooLong = []
column_text inputs k StrayReturn = []
column_text inputs k kind = codes " column " ∷ (at no_input inputs k).name ∷ []

-- of a line of rows
abbrev pub row_reason : List ℕ → ℕ → List (List ℕ) → List (List ℕ)
row_reason kind line column = codes "row: " ∷ kind ∷ codes " at line " ∷ decimal line ∷ column

-- how it is named
abbrev pub place_text : Place → List (List ℕ)
place_text (Node node) = codes "node " ∷ decimal node ∷ []
place_text (Output output) = codes "output " ∷ decimal output ∷ []

-- what the line says behind the program's name, piece by piece; a program has its own usage
abbrev pub reason : List ℕ → End → Option (List (List ℕ))
reason usage Done = None
reason usage (Rejected fault) =
    Some (codes "rejected: " ∷ condition_text fault.kind ∷ codes " at " ∷ part_name fault.part ∷ codes " "
    ∷ decimal fault.index ∷ [])
reason usage Usage = Some (usage ∷ [])
reason usage (Misread fault) =
    Some (codes "source: " ∷ source_text fault.kind ∷ codes " at byte " ∷ decimal fault.at ∷ [])
reason usage (BadBundle fault) =
    Some (codes "bundle: " ∷ bundle_kind_text fault.kind ∷ codes " at line " ∷ decimal fault.line ∷ [])
reason usage (BadRow inputs line fault) =
    Some (row_reason (row_text fault.kind) line (column_text inputs fault.input fault.kind))
reason usage (BadUnit line kind) = Some (row_reason (unit_text kind) line [])
reason usage (NotFound place) = Some (codes "not found: " ∷ place_text place)
reason usage ReadFault = Some (codes "read fault" ∷ [])
reason usage WriteFault = Some (codes "write fault" ∷ [])
reason usage NoMemory = Some (codes "out of memory" ∷ [])
reason usage OverLimit = Some (codes "over the limit" ∷ [])

-- the whole line of a program of this name
abbrev pub note_text : List ℕ → List (List ℕ) → List ℕ
note_text program why = concat (program ∷ codes ": " ∷ why ++ (codes "\n" ∷ []))

-- where there is one
abbrev pub line_of : (program usage : List ℕ) → End → Option (List ℕ)
line_of program usage end = option_map (note_text program) (reason usage end)

-- the line of `fixd`
abbrev pub end_line : End → Option (List ℕ)
end_line end = line_of (codes "fixd") (codes "usage: synth, check, run, show or demo") end
