use Rattle.std.proofs.Common.{◌≡◌, ◌∙◌, Result, Ok, to_z, of_z, ap, subst, sym}
use Rattle.std.specs.List.{list_all}
use Rattle.std.specs.Int.{w32}
use Rattle.std.proofs.lemmas.Int.{to_z-of_z}
use Rattle.fx_rational.specs.Interval.{Interval}
use Rattle.fx_inequalities.specs.Formula.{span}
use Rattle.fx_inequalities.specs.Claim.{fits}
use Rattle.fx_inequalities.specs.OperationSpans.{without_unit}
use Rattle.fx_inequalities.specs.NodeConditions.{quotient_claims}
use Rattle.fx_formulas.specs.Judging.{FormsSpan}
use Rattle.fx_outward.specs.declared.fault.Why.{Why}
use Rattle.fx_outward.specs.Narrow.{narrow}
use Rattle.fx_outward.specs.Narrowed.{IsIfSmall}
use Rattle.fx_outward.specs.Grid.{error_grid}
use Rattle.fx_outward.proofs.Dividing.{without_short, beyond_fits, other_fits}
use Rattle.fx_outward.proofs.Settled.{narrowest_some, narrowest_beyond}
use Rattle.fx_outward.proofs.divide.fitted.Goals as goal

pub returns-in-Beyond : goal.returns-in-Beyond
returns-in-Beyond c = λ bounds s t fa fb short kept.
    let f = c.args.point in let f32 : to_z w32 (of_z w32 f) ≡ f = to_z-of_z w32 f c.ranges.point in
    let e = error_grid f in let h = c.in-Some.h in
    let k = subst (λ o. IsIfSmall o (narrow e bounds)) c.in-Some.is kept in
    let u = subst (λ z. FormsSpan c.without_unit.result (without_unit z (span h))) f32 c.without_unit.ensures in
    let j = c.quotient.ensures s t (without_unit f (span h)) short (without_short f bounds h c.requires k.0) fa fb u in
    narrowest_beyond e bounds (λ (g : Interval). quotient_claims s t (without_unit f (span g)))
    (ap (λ (g : Interval). list_all fits (quotient_claims s t (without_unit f (span g)))) (sym k.0)
    ∙ beyond_fits (quotient_claims s t (without_unit f (span h))) (sym c.in-Beyond.is ∙ j))

pub returns-in_default : goal.returns-in_default
returns-in_default c = λ bounds s t fa fb short kept.
    let f = c.args.point in let f32 : to_z w32 (of_z w32 f) ≡ f = to_z-of_z w32 f c.ranges.point in
    let e = error_grid f in let h = c.in-Some.h in
    let k = subst (λ o. IsIfSmall o (narrow e bounds)) c.in-Some.is kept in
    let u = subst (λ z. FormsSpan c.without_unit.result (without_unit z (span h))) f32 c.without_unit.ensures in
    let j = c.quotient.ensures s t (without_unit f (span h)) short (without_short f bounds h c.requires k.0) fa fb u in
    ap (λ (i : Interval). let r : Result Interval Why = Ok i in r) k.0
    ∙ narrowest_some e bounds (λ (g : Interval). quotient_claims s t (without_unit f (span g))) k.1
    (ap (λ (g : Interval). list_all fits (quotient_claims s t (without_unit f (span g)))) (sym k.0)
    ∙ other_fits (quotient_claims s t (without_unit f (span h))) c.quotient.result j c.in_default.not-Beyond)
