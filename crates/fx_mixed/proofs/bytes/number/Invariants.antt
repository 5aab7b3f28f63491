use Rattle.std.proofs.Common.{◌≡◌, ◌-◌, ◌^◌, ◌<◌, length, drop}
use Rattle.fx_mixed.specs.Packed.{number_of}
use Rattle.fx_mixed.proofs.bytes.number.Given as goal

abbrev pub invariant-loop-k : goal.invariant-loop-k
invariant-loop-k l = (l.all ≡ number_of (drop (length l.fn.bytes - l.k) l.fn.bytes)) × (l.all < 256 ^ l.k)
