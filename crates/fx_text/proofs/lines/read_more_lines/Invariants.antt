use Rattle.std.proofs.Common.{map, length}
use Rattle.fx_text.specs.Many.{lines_by, with_front}
use Rattle.fx_text.proofs.SoFar.{SoFar}
use Rattle.fx_text.proofs.lines.read_more_lines.Given as goal

abbrev pub invariant-loop-i : goal.invariant-loop-i
invariant-loop-i g l =
    SoFar g.R.LineReader.told (g.R.LineReader.line_at l.reader) l.first l.count
    (with_front (map g.R.LineReader.told l.fn.before.items)
    (lines_by (g.R.LineReader.line_at l.reader) l.first l.count l.text))
    (length l.fn.before.items) l.found.items l.i l.rest
