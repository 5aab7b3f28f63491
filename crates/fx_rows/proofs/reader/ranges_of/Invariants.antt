use Rattle.std.proofs.Common.{take, map}
use Rattle.fx_expr.specs.Parts.{input_of}
use Rattle.fx_rows.specs.Ranges.{AreRangesOf}
use Rattle.fx_rows.proofs.reader.ranges_of.Given as goal

abbrev pub invariant-loop-input : goal.invariant-loop-input
invariant-loop-input l = AreRangesOf (map input_of (take l.input-index l.inputs)) l.ranges.items
