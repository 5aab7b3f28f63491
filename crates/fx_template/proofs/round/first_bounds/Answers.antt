use Rattle.std.proofs.Common.{◌∙◌}
use Rattle.fx_template.specs.Transitions.{transition_in}
use Rattle.fx_template.specs.PlainRounds.{state_bound}
use Rattle.fx_template.proofs.Lists.{tabulate_more}
use Rattle.fx_template.proofs.round.first_bounds.Goals as goal

pub loop-i-preserved : goal.loop-i-preserved
loop-i-preserved c = c.in_ok-push.ensures.items
    ∙ tabulate_more (state_bound c.args.side.now
    (transition_in c.args.t.now)) c.loop-i.bounds.items c.loop-i.i c.state_bound-bound.result c.loop-i.invariant
    c.state_bound-bound.ensures
