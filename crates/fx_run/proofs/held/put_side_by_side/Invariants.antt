use Rattle.std.proofs.Common.{◌+◌, ◌*◌, ◌≤◌, length}
use Rattle.fx_stream.specs.Rooms.{line_room}
use Rattle.fx_run.specs.Blocks.{ArePut, first_rows}
use Rattle.fx_run.proofs.held.put_side_by_side.Given as goal

abbrev pub invariant-loop-k : goal.invariant-loop-k
invariant-loop-k g l = record {
  put : ArePut l.certified.program (first_rows l.certified.program.inputs l.k l.rows) l.initial.page l.page;
  short : length l.page ≤ length l.initial.page + line_room * l.k;
}
