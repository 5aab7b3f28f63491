use Rattle.std.proofs.Common.{◌+◌, arith, take, map}
use Rattle.csv.specs.Records.{fields_of}
use Rattle.fx_rows.specs.Blanks.{without_blanks}
use Rattle.fx_rows.proofs.Taken.{field-missing, trimmed-place, trimmed-take}
use Rattle.fx_rows.proofs.Units.{found-next}
use Rattle.fx_rows.proofs.column.column_in.Goals as goal

pub unreachable-requires : goal.unreachable-requires
unreachable-requires c = field-missing (fields_of c.args.row.now) c.loop-i.i (omega arith) c.in-None.ensures.value

pub loop-i-preserved : goal.loop-i-preserved
loop-i-preserved c =
    let fields = fields_of c.args.row.now in let f = c.trimmed.result.now in
    found-next c.args.name.now f (map without_blanks (take c.loop-i.i fields))
    (map without_blanks (take (c.loop-i.i + 1) fields)) c.loop-i.found c.found_after-found.result c.eq.result
    c.loop-i.i
    c.loop-i.invariant c.eq.ensures (trimmed-place fields c.loop-i.i (omega arith))
    (trimmed-take fields c.loop-i.i c.in-Some.field.now f (omega arith) c.in-Some.ensures.value c.trimmed.ensures)
    c.found_after-found.ensures
