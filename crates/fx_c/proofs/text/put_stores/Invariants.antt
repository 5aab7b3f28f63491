use Rattle.std.proofs.Common.{◌≡◌, ◌++◌, codes}
use Rattle.std.specs.List.{flat_map}
use Rattle.fx_statements.specs.OfProgram.{stores_of}
use Rattle.fx_c99.specs.CText.{assignment_text}
use Rattle.fx_c.proofs.text.put_stores.Given as goal

abbrev pub invariant-loop-k : goal.invariant-loop-k
invariant-loop-k l = l.out.items ≡ l.fn.out.items
    ++ flat_map (assignment_text (codes "state") l.fn.width) (stores_of l.fn.first l.k)
