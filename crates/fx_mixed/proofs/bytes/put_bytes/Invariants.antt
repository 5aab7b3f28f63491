use Rattle.std.proofs.Common.{◌≡◌, ◌++◌, ◌-◌, length, take}
use Rattle.fx_mixed.specs.Packed.{bytes_of}
use Rattle.fx_mixed.proofs.bytes.put_bytes.Given as goal

abbrev pub invariant-loop-k : goal.invariant-loop-k
invariant-loop-k l = (length l.bytes ≡ length l.fn.bytes) ×
    (take l.k l.bytes ++ bytes_of (length l.fn.bytes - l.k) l.rest ≡ bytes_of (length l.fn.bytes) l.fn.number)
