-- Demands that a power of two allows: they are met where the error lies between its ends.
use Rattle.std.proofs.Common.{◌≡◌, ℕ, ◌^◌, ◌≤◌, Bool, true, ◌&&◌, List, [], ◌++◌, Option, Some, None, ℤ, refl, sym, ap, subst, ◌∙◌}
use Rattle.std.specs.Prelude.{IfSome, IsTrue, is_some, not}
use Rattle.std.proofs.lemmas.List.{append-nil}
use Rattle.fx_rational.specs.Rational.{Rational, negative, AtMost, is_at_most}
use Rattle.fx_rational.proofs.Tests.{at_most_true, at_most_holds}
use Rattle.fx_rational.proofs.Laws.{le_trans, negative_le}
use Rattle.fx_model.specs.Function as function
use Rattle.fx_inequalities.specs.Formula.{Span, span_sum, formula_value}
use Rattle.fx_inequalities.specs.Claim.{Claim, fits_over}
use Rattle.fx_inequalities.specs.Accepted.{error_claims, lower_claims, upper_claims, demand_claims}
use Rattle.fx_plan_laws.specs.Powers.{power_value}
use Rattle.fx_plan_laws.specs.Narrow.{IsNarrowNumber, IsNarrowDemand}
use Rattle.fx_plan_laws.specs.Demands.{allows_error, allows}
use Rattle.fx_plan_laws.proofs.Sizes.{IsSmallSpan}
use Rattle.fx_plan_laws.proofs.Claims.{AreMet, none_met, over_fits, narrow_negative}

-- an error that lies from -2^v to 2^v
pub record IsWithinPower (e m : ℕ) (v : ℤ) (h : Span) : Type 0 where
  pub small : IsSmallSpan e m h
  pub few : m ≤ 2 ^ 62
  pub low : AtMost (negative (power_value v)) (formula_value h.lo)
  pub high : AtMost (formula_value h.hi) (power_value v)

error_met : (e m : ℕ) (v : ℤ) (h : Span) (err : Option Rational) → IsWithinPower e m v h → IfSome err IsNarrowNumber →
    IsTrue (allows_error err v) → AreMet (error_claims err h)
error_met e m v h None w narrow a = none_met
error_met e m v h (Some d) w narrow a =
    let value = at_most_true (power_value v) d a in
    let p : fits_over h.lo (negative d) ≡ true = over_fits (negative d) w.few w.small.lo (narrow_negative d narrow) in
    let q : fits_over h.hi d ≡ true = over_fits d w.few w.small.hi narrow in
    let low : is_at_most (negative d) (formula_value h.lo) ≡ true =
    at_most_holds (le_trans (negative_le value) w.low) in
    let high : is_at_most (formula_value h.hi) d ≡ true = at_most_holds (le_trans w.high value) in
    record { fits = rw (p, q) refl; holds = rw (low, high) refl }

no_ends : (lo hi : Option Rational) (s : Span) (enough : Bool) →
    IsTrue (not (is_some lo) && (not (is_some hi) && enough)) →
    (lower_claims lo s ++ upper_claims hi s ≡ []) × (enough ≡ true)
no_ends None None s enough h = (refl, h)
no_ends None (Some u) s enough h = absurd cc
no_ends (Some l) hi s enough h = absurd cc

-- with no ends the claims are those of the error, whatever the range is
pub demand_met : (e m : ℕ) (v : ℤ) (g h : Span) (d : function.Demand) → IsWithinPower e m v h → IsNarrowDemand d →
    IsTrue (allows d v) → AreMet (demand_claims d g h)
demand_met e m v g h d w narrow a =
    let ends = no_ends d.lo d.hi (span_sum g h) (allows_error d.err v) a in
    let claims : demand_claims d g h ≡ error_claims d.err h =
    ap (λ (cs : List Claim). error_claims d.err h ++ cs) ends.0 ∙ append-nil (error_claims d.err h) in
    subst AreMet (sym claims) (error_met e m v h d.err w narrow ends.1)
