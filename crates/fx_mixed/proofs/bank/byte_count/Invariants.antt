use Rattle.std.proofs.Common.{◌≡◌}
use Rattle.fx_mixed.specs.Packed.{place_of}
use Rattle.fx_mixed.proofs.bank.byte_count.Given as goal

abbrev pub invariant-loop-k : goal.invariant-loop-k
invariant-loop-k l = l.size ≡ place_of l.lengths l.k
