use Rattle.std.proofs.Common.{◌≡◌, ◌^◌, SFits, FitsSigned, to_z, of_z, ap, ◌∙◌, rules}
use Rattle.std.specs.Int.{w64, w128}
use Rattle.std.proofs.lemmas.Int.{to_z-of_z}
use Rattle.fx_rational.specs.Rational.{over, lowest}
use Rattle.fx_rational.specs.Decimal.{Decimal, decimal_value}
use Rattle.fx_fraction.proofs.Terms.{decimal_fits}
use Rattle.fx_fraction.proofs.arithmetic.to_fraction.Goals as goal

pub unreachable-requires : goal.unreachable-requires
unreachable-requires c =
    let fi : SFits w64 c.d.inside.a = search rules in
    let ff : FitsSigned w128 c.from.result = search rules in
    let p : to_z w128 (of_z w128 c.from.result) ≡ c.d.inside.a = to_z-of_z w128 c.from.result ff ∙ c.from.ensures
    ∙ to_z-of_z w64 c.d.inside.a fi in
    let q : c.from-2.result ≡ 10 ^ c.d.inside.b = c.from-2.ensures ∙ c.ten_to.ensures.value in
    c.in-None.ensures (rw (
      p,
      q,
    ) (decimal_fits (record { a = c.d.inside.a; b = c.d.inside.b }) c.d.invariant.small c.d.invariant.places))

pub returns : goal.returns
unfolding decimal_value
returns c =
    let fi : SFits w64 c.d.inside.a = search rules in
    let ff : FitsSigned w128 c.from.result = search rules in
    let p : to_z w128 (of_z w128 c.from.result) ≡ c.d.inside.a = to_z-of_z w128 c.from.result ff ∙ c.from.ensures
    ∙ to_z-of_z w64 c.d.inside.a fi in
    let q : c.from-2.result ≡ 10 ^ c.d.inside.b = c.from-2.ensures ∙ c.ten_to.ensures.value in
    c.in-Some.ensures.1 ∙ (λ i. lowest (over (p i) (q i))) ∙ ap (λ (d : Decimal). lowest (decimal_value d)) c.d.view_is
