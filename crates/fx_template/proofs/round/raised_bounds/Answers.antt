use Rattle.std.proofs.Common.{◌+◌, ◌≤◌, sym, arith}
use Rattle.fx_template.specs.Transitions.{transition_in}
use Rattle.fx_template.specs.PlainRounds.{raised_bound}
use Rattle.fx_template.proofs.Lists.{each_stops, none_above}
use Rattle.fx_template.proofs.round.raised_bounds.Goals as goal

pub returns-in-Err : goal.returns-in-Err
returns-in-Err c =
    let f = raised_bound c.args.side.now (transition_in c.args.t.now) c.args.bounds.now in let i = c.loop-i.i in
    let lt = c.loop-i-test.true in
    let within : i + 1 ≤ c.args.t.now.states = omega (arith, lt) in
    sym (none_above f (i + 1) c.args.t.now.states
    (each_stops f i c.loop-i.raised.items c.in-Err.field-0 c.loop-i.invariant (sym c.in-Err.ensures)) within)
