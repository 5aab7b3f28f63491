use Rattle.std.proofs.Common.{◌≡◌, None}
use Rattle.fx_template.specs.Listed.{first_untrue}
use Rattle.fx_template.specs.Transitions.{transition_in}
use Rattle.fx_template.specs.PlainRounds.{stands}
use Rattle.fx_template.proofs.stand.first_of_side.Given as goal

abbrev pub invariant-loop-i : goal.invariant-loop-i
invariant-loop-i l = first_untrue l.i (stands l.fn.side (transition_in l.fn.t) l.fn.bounds) ≡ None
