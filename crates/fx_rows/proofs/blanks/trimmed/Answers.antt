use Rattle.std.proofs.Common.{sym}
use Rattle.fx_rows.proofs.Trims.{kept_whole}
use Rattle.fx_rows.proofs.blanks.trimmed.Goals as goal

pub returns-then-not-is_blank-2 : goal.returns-then-not-is_blank-2
returns-then-not-is_blank-2 c =
    kept_whole c.args.field.now (sym c.if-not-is_blank.ensures) (sym c.if-not-is_blank-2.ensures)
