use Rattle.std.proofs.Common.{◌≡◌, ◌<◌, ℕ, length, take, drop, [], map}
use Rattle.fx_rational.specs.Decimal.{decimal_value}
use Rattle.fx_model.specs.Machine.{words_after}
use Rattle.fx_program.specs.CodeView.{code_of}
use Rattle.fx_lanes.specs.RowsSideBySide.{row_at, lane}
use Rattle.fx_lanes.proofs.run.run_lanes.Given as goal

abbrev pub invariant-loop-i : goal.invariant-loop-i
invariant-loop-i g l = record {
  sizes : length l.words ≡ length l.codes;
  goes_on : (k : ℕ) → k < 16 →
      words_after g.row.B (map code_of (drop l.i l.codes)) (map decimal_value (row_at l.inputs k l.rows)) []
      (lane k (map g.L.SideBySide.words (take l.i l.words)))
      ≡ words_after g.row.B (map code_of l.codes) (map decimal_value (row_at l.inputs k l.rows)) [] [];
}
