use Rattle.std.proofs.Common.{◌≡◌, ◌<◌, ℕ, length}
use Rattle.fx_lanes.specs.RowsSideBySide.{row_at}
use Rattle.fx_run.proofs.block.fill.Given as goal

abbrev pub invariant-loop-k : goal.invariant-loop-k
invariant-loop-k l = record {
  same : length l.rows ≡ length l.initial.rows;
  put : (j : ℕ) → j < l.k → row_at (length l.row) j l.rows ≡ l.row;
}
