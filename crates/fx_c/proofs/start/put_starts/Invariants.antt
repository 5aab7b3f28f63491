use Rattle.std.proofs.Common.{◌≡◌, ◌++◌, take}
use Rattle.fx_c99.specs.CText.{starts_text}
use Rattle.fx_c.proofs.start.put_starts.Given as goal

abbrev pub invariant-loop-k : goal.invariant-loop-k
invariant-loop-k l = l.out.items ≡ l.fn.out.items ++ starts_text 0 (take l.k l.fn.words)
