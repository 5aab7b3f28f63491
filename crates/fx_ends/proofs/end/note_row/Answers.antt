use Rattle.fx_ends.proofs.Columns.{names_column}
use Rattle.fx_ends.proofs.end.note_row.Goals as goal

pub returns-in-LineTooLong : goal.returns-in-LineTooLong
returns-in-LineTooLong g c = rw (← c.row_text-kind.ensures, c.in-LineTooLong.is) c.note_whole_line.ensures

pub returns-in-StrayReturn : goal.returns-in-StrayReturn
returns-in-StrayReturn g c =
    rw (← c.row_text-kind.ensures, c.in-StrayReturn.is) c.note_whole_line-in-StrayReturn.ensures

pub returns-in_default : goal.returns-in_default
returns-in_default g c =
    rw (
      ← c.row_text-kind.ensures,
      names_column _ _ _ c.in_default.not-LineTooLong c.in_default.not-StrayReturn,
      ← c.name_of.ensures,
    ) c.note_column.ensures
