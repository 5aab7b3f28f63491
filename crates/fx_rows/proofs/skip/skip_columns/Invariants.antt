use Rattle.std.proofs.Common.{◌≡◌, drop}
use Rattle.std.specs.List.{list_any}
use Rattle.fx_rows.specs.Line.{is_special, pieces, pieces_left}
use Rattle.fx_rows.specs.Passing.{special_left}
use Rattle.fx_rows.proofs.skip.skip_columns.Given as goal

abbrev pub invariant-loop-k : goal.invariant-loop-k
invariant-loop-k l = record {
  pieces : pieces l.left ≡ drop l.k (pieces_left l.rest);
  special : list_any is_special l.left ≡ special_left l.rest;
}
