use Rattle.fx_inequalities.specs.Accepted.{start_of}
use Rattle.fx_plan_laws.specs.Narrow.{IsNarrowNumber}
use Rattle.fx_calm.proofs.Units.{narrow_size}
use Rattle.fx_calm.proofs.Leasts.{one_more}
use Rattle.fx_calm.proofs.narrow.narrow_states.Goals as goal

pub loop-k-preserved : goal.loop-k-preserved
loop-k-preserved c =
    let fn = c.args.function.now in let s = c.start_at-start.ensures.weight.size in
    one_more (λ j. IsNarrowNumber (start_of fn j)) c.loop-k.k c.loop-k.invariant
    (narrow_size c.start_at-start.result.top c.start_at-start.result.bottom
    (start_of fn c.loop-k.k) s.some s.few c.start_at-start.ensures.value)
