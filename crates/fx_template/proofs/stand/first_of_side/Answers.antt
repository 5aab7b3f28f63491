use Rattle.std.proofs.Common.{◌∙◌, ◌+◌, ◌≤◌, sym, arith}
use Rattle.fx_template.specs.Transitions.{transition_in}
use Rattle.fx_template.specs.PlainRounds.{stands}
use Rattle.fx_template.proofs.Lists.{first_above, untrue_here}
use Rattle.fx_template.proofs.stand.first_of_side.Goals as goal

pub returns-then-not-stands : goal.returns-then-not-stands
returns-then-not-stands c =
    let p = stands c.args.side.now (transition_in c.args.t.now) c.args.bounds.now in let i = c.loop-i.i in
    let lt = c.loop-i-test.true in
    let within : i + 1 ≤ c.args.t.now.states = omega (arith, lt) in
    sym (first_above p (i + 1) c.args.t.now.states i
    (untrue_here p i c.loop-i.invariant (sym c.stands.ensures ∙ c.if-not-stands.true)) within)
