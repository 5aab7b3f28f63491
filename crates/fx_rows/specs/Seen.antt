-- What contracts see of a line's fields.
use Rattle.std.specs.Prelude.{ℕ, List}
use Rattle.csv.specs.Records.{fields_of}
use Rattle.fx_rows.specs.declared.line.Record.{Record}
use Rattle.fx_rows.specs.declared.line.Record.TheVariants.{Plain, Parsed}

-- the list of them, whichever way they were found
abbrev pub seen : Record → List (List ℕ)
seen (Plain pieces) = pieces
seen (Parsed row) = fields_of row
