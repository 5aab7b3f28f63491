use Rattle.std.proofs.Common.{◌≡◌, ◌*◌, ◌/◌, ◌∙◌, arith, rules, tests}
use Rattle.fx_fraction.proofs.Fronts.{zero_off}
use Rattle.fx_fraction.proofs.short.stripped.Goals as goal

pub loop-front-preserved : goal.loop-front-preserved
loop-front-preserved c =
    let f = c.loop-front.front in
    let e : f ≡ f / 10 * 10 = search (rules, tests) in
    let some = c.loop-front.invariant.some in
    let few = c.loop-front.invariant.few in
    record {
      value = c.loop-front.invariant.value ∙ zero_off f (f / 10) c.loop-front.zeros e;
      some = omega arith;
      few = omega arith;
    }
