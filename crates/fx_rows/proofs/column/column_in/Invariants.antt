use Rattle.std.proofs.Common.{◌≡◌, take, map}
use Rattle.csv.specs.Records.{fields_of}
use Rattle.fx_rows.specs.Blanks.{without_blanks}
use Rattle.fx_rows.specs.Places.{places_of}
use Rattle.fx_rows.specs.UnitColumn.{column_among}
use Rattle.fx_rows.proofs.column.column_in.Given as goal

abbrev pub invariant-loop-i : goal.invariant-loop-i
invariant-loop-i l = l.found ≡ column_among (places_of l.name (map without_blanks (take l.i (fields_of l.row))))
