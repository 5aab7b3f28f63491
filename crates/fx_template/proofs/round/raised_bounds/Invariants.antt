use Rattle.std.proofs.Common.{◌≡◌, Some}
use Rattle.fx_template.specs.Listed.{each_below}
use Rattle.fx_template.specs.Transitions.{transition_in}
use Rattle.fx_template.specs.PlainRounds.{raised_bound}
use Rattle.fx_template.proofs.round.raised_bounds.Given as goal

abbrev pub invariant-loop-i : goal.invariant-loop-i
invariant-loop-i l = each_below l.i (raised_bound l.fn.side (transition_in l.fn.t) l.fn.bounds) ≡ Some l.raised.items
