use Rattle.std.proofs.Common.{◌≡◌, ◌++◌, take}
use Rattle.fx_model.specs.Nodes.{copies_of}
use Rattle.fx_flat.specs.NodeOf.{nodes_in}
use Rattle.fx_flat.proofs.list.put_copies.Given as goal

abbrev pub invariant-loop-a : goal.invariant-loop-a
invariant-loop-a l = nodes_in l.list.items ≡ nodes_in l.fn.list.items ++ copies_of (take l.a-index l.roots)
