use Rattle.std.proofs.Common.{◌≡◌, ◌++◌, codes}
use Rattle.std.specs.List.{flat_map, range_with_len}
use Rattle.fx_c99.specs.CText.{assignment_text, placed}
use Rattle.fx_c.proofs.text.put_outputs.Given as goal

abbrev pub invariant-loop-k : goal.invariant-loop-k
invariant-loop-k l = l.out.items ≡ l.fn.out.items
    ++ flat_map (assignment_text (codes "output") l.fn.width) (placed 0 (range_with_len l.fn.first l.k))
