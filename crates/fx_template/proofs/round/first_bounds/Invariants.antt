use Rattle.std.proofs.Common.{◌≡◌}
use Rattle.fx_template.specs.Listed.{tabulate}
use Rattle.fx_template.specs.Transitions.{transition_in}
use Rattle.fx_template.specs.PlainRounds.{state_bound}
use Rattle.fx_template.proofs.round.first_bounds.Given as goal

abbrev pub invariant-loop-i : goal.invariant-loop-i
invariant-loop-i l = l.bounds.items ≡ tabulate l.i (state_bound l.fn.side (transition_in l.fn.t))
