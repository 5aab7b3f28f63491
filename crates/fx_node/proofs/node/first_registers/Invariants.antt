use Rattle.std.proofs.Common.{◌≡◌, replicate}
use Rattle.fx_node.specs.Units.{first_registers}
use Rattle.fx_node.proofs.node.first_registers.Given as goal

abbrev pub invariant-loop : goal.invariant-loop
invariant-loop g l = l.registers.items ≡ replicate l.counter (first_registers l.program)
