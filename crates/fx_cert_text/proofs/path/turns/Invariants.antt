use Rattle.std.proofs.Common.{◌≡◌, ◌-◌, map, take}
use Rattle.fx_cert_text.proofs.path.turns.Given as goal

abbrev pub invariant-loop-c : goal.invariant-loop-c
invariant-loop-c l = l.found.items ≡ map (λ d. d - 48) (take l.c-index l.text)
