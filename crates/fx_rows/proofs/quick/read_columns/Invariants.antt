use Rattle.std.proofs.Common.{◌≡◌, ℕ, ◌<◌, List, length, drop, get_or}
use Rattle.std.specs.List.{list_any}
use Rattle.fx_model.specs.Function.{Input}
use Rattle.fx_rows.specs.Line.{is_special, pieces, pieces_left}
use Rattle.fx_rows.specs.Passing.{HasValue, special_left}
use Rattle.fx_rows.specs.Ranges.{AreRangesOf}
use Rattle.fx_rows.proofs.quick.read_columns.Given as goal

abbrev pub invariant-loop-k : goal.invariant-loop-k
invariant-loop-k l = record {
  long : length l.row ≡ length l.ranges;
  rest : pieces_left l.rest ≡ drop l.column (pieces l.line);
  special : special_left l.rest ≡ list_any is_special l.line;
  values : (is : List Input) → AreRangesOf is l.ranges → (j : ℕ) → j < l.k →
      HasValue is l.places (pieces l.line) l.row (get_or l.order j 0);
}
