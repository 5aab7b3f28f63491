use Rattle.std.proofs.Common.{◌≡◌, ◌-◌}
use Rattle.fx_template.specs.Transitions.{transition_in}
use Rattle.fx_template.specs.PlainRounds.{bounds_at_first, plain_rounds}
use Rattle.fx_template.specs.RoundView.{AreShortBoth, bounds_in}
use Rattle.fx_template.proofs.round.plain_rounds.Given as goal

-- what the rounds left come to, and that the bounds stay short
abbrev pub invariant-loop-turn : goal.invariant-loop-turn
invariant-loop-turn l = record {
  left : plain_rounds (l.fn.rounds - l._turn) (transition_in l.fn.t) (bounds_in l.bounds)
      ≡ plain_rounds l.fn.rounds (transition_in l.fn.t) (bounds_at_first (transition_in l.fn.t));
  short : AreShortBoth (bounds_in l.bounds);
}
