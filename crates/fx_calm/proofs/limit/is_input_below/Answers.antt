use Rattle.std.proofs.Common.{◌∙◌, ◌++◌, ◌∷◌, [], pos, ap}
use Rattle.fx_rational.specs.Rational.{over, whole, is_at_most}
use Rattle.fx_rational.specs.Decimal.{decimal_value}
use Rattle.fx_expr.specs.Parts.{input_of}
use Rattle.fx_plan_laws.specs.Calm.{reach_of}
use Rattle.fx_calm.specs.Summands.{sum_of}
use Rattle.fx_calm.proofs.Tests.{input_test}
use Rattle.fx_calm.proofs.limit.is_input_below.Goals as goal

pub returns : goal.returns
returns c =
    input_test c.clear.new.self.items c.push-2.new.self.items c.summand.result c.summand-2.result
    (reach_of (input_of c.args.input.now))
    (decimal_value c.args.input.now.err) c.adds_up_to.result c.args.w c.power.result
    c.clear.ensures.items (c.in_ok-push-2.ensures.items
    ∙ ap (λ xs. xs ++ c.summand-2.result ∷ []) c.in_ok-push.ensures.items)
    ((λ i. over (pos (c.summand.ensures.top i)) (c.summand.ensures.bottom i))
    ∙ c.reach.ensures.value) ((λ i. over (pos (c.summand-2.ensures.top i)) (c.summand-2.ensures.bottom i))
    ∙ c.magnitude_of_decimal.ensures.value)
    c.requires.error c.power.ensures (c.adds_up_to.ensures
    ∙ ap (λ xs. is_at_most (sum_of xs) (whole (pos c.power.result))) c.deref_mut.ensures.value)
