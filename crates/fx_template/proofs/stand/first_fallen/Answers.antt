use Rattle.std.proofs.Common.{sym, arith}
use Rattle.fx_cert.specs.declared.side.Side.TheVariants as sides
use Rattle.fx_template.specs.Transitions.{transition_in}
use Rattle.fx_template.specs.PlainRounds.{stands}
use Rattle.fx_template.proofs.Lists.{first_within}
use Rattle.fx_template.proofs.stand.first_fallen.Goals as goal

pub overflow_add-result : goal.overflow_add-result
overflow_add-result c =
    let t = transition_in c.args.t.now in
    let less =
    first_within (stands sides.Error t c.deref-in-None.result.now) t.states c.in-Some-first_of_side.i
    (sym c.in-Some-first_of_side.ensures) in
    let few = c.requires.modest.states in
    record { fits = omega (arith, less, few) }
