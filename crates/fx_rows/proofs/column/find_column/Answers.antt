use Rattle.std.proofs.Common.{arith}
use Rattle.csv.specs.Records.{fields_of}
use Rattle.fx_rows.proofs.Records.{few-line-fields}
use Rattle.fx_rows.proofs.column.find_column.Goals as goal

pub column_in-requires : goal.column_in-requires
column_in-requires c =
    let few =
    few-line-fields c.args.line.now (fields_of c.in-Ok-Some.row)
    (rw c.in-Ok-Some.field-0-is at c.in-Ok-Some.ensures) in
    omega (arith, few, c.requires)
