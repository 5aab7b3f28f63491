use Rattle.std.proofs.Common.{◌∙◌, ◌++◌, map, pos, sym, ap, subst}
use Rattle.std.specs.Prelude.{All}
use Rattle.fx_rational.specs.Rational.{whole, is_at_most}
use Rattle.fx_plan_laws.specs.Linear.{terms_of}
use Rattle.fx_calm.specs.Summands.{IsSummand, sum_of}
use Rattle.fx_calm.specs.SumOf.{summand_of}
use Rattle.fx_calm.proofs.Tests.{put_summands, sum_test}
use Rattle.fx_calm.proofs.limit.is_sum_below.Goals as goal

pub adds_up_to-requires-clause-summands : goal.adds_up_to-requires-clause-summands
adds_up_to-requires-clause-summands c =
    subst (All IsSummand) (sym c.deref_mut.ensures.value)
    (put_summands c.args.function.now c.args.sum c.args.k c.keeps.ensures.inputs c.requires.tame c.requires.sum
    c.requires.within c.clear.new.self.items c.put_terms.new.summands.items c.clear.ensures.items
    (c.in_ok-put_terms.ensures.put
    ∙ ap (λ t. c.clear.new.self.items
    ++ map (summand_of c.args.function.now c.args.sum)
    (terms_of t)) c.result_at.ensures) c.in_ok-put_terms.ensures.narrow)

pub returns : goal.returns
returns c =
    sum_test c.args.function.now c.args.sum c.args.k c.keeps.ensures.inputs c.requires.tame c.requires.sum
    c.requires.within c.clear.new.self.items c.put_terms.new.summands.items c.adds_up_to.result c.args.w c.power.result
    c.clear.ensures.items
    (c.in_ok-put_terms.ensures.put
    ∙ ap (λ t. c.clear.new.self.items
    ++ map (summand_of c.args.function.now c.args.sum) (terms_of t)) c.result_at.ensures) c.power.ensures
    (c.adds_up_to.ensures ∙ ap (λ xs. is_at_most (sum_of xs) (whole (pos c.power.result))) c.deref_mut.ensures.value)
