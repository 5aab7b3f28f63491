use Rattle.std.proofs.Common.{◌≡◌}
use Rattle.fx_machine.specs.Steps.{step_taken}
use Rattle.fx_mixed.proofs.Carried.{with_next}
use Rattle.fx_mixed.proofs.turn.carry_states.Given as goal

abbrev pub invariant-loop-k : goal.invariant-loop-k
invariant-loop-k l = let p = l.fn.program in let old = l.initial.bank.words in record {
  widths : l.bank.widths ≡ l.initial.bank.widths;
  words : l.bank.words ≡ with_next p.inputs l.k old (step_taken p old).next;
}
