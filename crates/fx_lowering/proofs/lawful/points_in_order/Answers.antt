use Rattle.std.proofs.Common.{◌≡◌, ◌++◌, ◌∷◌, [], ◌∙◌, ℤ, ap, rules, FitsSigned}
use Rattle.std.specs.Int.{w32}
use Rattle.std.proofs.lemmas.Int.{to_z-of_z}
use Rattle.fx_lowering.proofs.InOrder.{goes_on_behind, ends_behind}
use Rattle.fx_lowering.proofs.lawful.points_in_order.Goals as goal

pub returns-in-None : goal.returns-in-None
returns-in-None c =
    ends_behind c.args.frame c.args.codes.now c.loop-i.i _ c.loop-i.points.items c.deref.result.now c.loop-i.invariant
    c.loop-i-test.true c.deref.ensures.value c.in-None.ensures

pub loop-i-preserved : goal.loop-i-preserved
loop-i-preserved c =
    let f = c.in-Some.f in
    let fits : FitsSigned w32 f = search rules in
    let pushed : c.push.new.self.items ≡ c.loop-i.points.items ++ f ∷ [] =
    c.in_ok-push-in-Some.ensures.items ∙ ap (λ (z : ℤ). c.loop-i.points.items ++ z ∷ []) (to_z-of_z w32 f fits) in
    goes_on_behind c.args.frame c.args.codes.now c.loop-i.i _ f c.loop-i.points.items c.deref.result.now
    c.push.new.self.items c.loop-i.invariant c.loop-i-test.true c.deref.ensures.value pushed c.in-Some.ensures
