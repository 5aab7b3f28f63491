use Rattle.std.proofs.Common.{neg_ℤ, pred, FitsSigned, ap, ◌∙◌, arith, rules}
use Rattle.std.specs.Prelude.{unsigned_abs}
use Rattle.std.specs.Int.{w128}
use Rattle.std.proofs.lemmas.Int.{to_z-of_z}
use Rattle.fx_rational.specs.Rational.{Rational}
use Rattle.fx_fraction.proofs.Terms.{fraction_neg, negative_is, neg_fits}
use Rattle.fx_fraction.proofs.arithmetic.fneg.Goals as goal

pub invariant_of-result : goal.invariant_of-result
invariant_of-result c =
    let fp : FitsSigned w128 c.a.inside.p = search rules in
    let fq : FitsSigned w128 c.a.inside.q = search rules in
    fraction_neg c.a.inside.p c.a.inside.q _ _ c.a.invariant
    (neg_fits c.a.inside.p fp (omega (arith, c.a.invariant.top_small))) (to_z-of_z w128 c.a.inside.q fq)

pub returns : goal.returns
returns c =
    let fp : FitsSigned w128 c.a.inside.p = search rules in
    let fq : FitsSigned w128 c.a.inside.q = search rules in
    negative_is c.args.a _ _ (neg_fits c.a.inside.p fp (omega (arith, c.a.invariant.top_small))
    ∙ ap (λ (r : Rational). neg_ℤ r.top) c.a.view_is) (ap (λ q. pred (unsigned_abs q))
    (to_z-of_z w128 c.a.inside.q fq) ∙ ap (λ (r : Rational). r.less) c.a.view_is)
