use Rattle.std.proofs.Common.{◌≡◌, ◌++◌, ◌+◌, map, take}
use Rattle.std.specs.Prelude.{min}
use Rattle.fx_cert_text.proofs.print_line.put_turns.Given as goal

abbrev pub invariant-loop-d : goal.invariant-loop-d
invariant-loop-d l = l.out.items ≡ l.fn.out.items ++ map (λ d. 48 + min d 1) (take l.d-index l.path)
