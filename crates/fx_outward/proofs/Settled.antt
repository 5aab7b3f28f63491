-- The narrowest interval round a span that fits, and its claims.
use Rattle.std.proofs.Common.{◌≡◌, ℕ, Bool, true, false, ◌&&◌, if◌then◌else◌, Option, Some, None, Result, Ok, Err, List, refl, sym, ap, subst, ◌∙◌, arith}
use Rattle.std.specs.List.{list_all}
use Rattle.fx_rational.specs.Dyadic.{Dyadic, dyadic_value, fits_128}
use Rattle.fx_rational.specs.Interval.{Interval}
use Rattle.fx_inequalities.specs.Formula.{Span, span, formula_value, formed, formula_fits}
use Rattle.fx_inequalities.specs.Claim.{Claim, fits, inside}
use Rattle.fx_inequalities.proofs.Formed.{formed_is}
use Rattle.fx_bounds.proofs.Claims.{both_left, both_right}
use Rattle.fx_outward.specs.Narrow.{Bounds, narrow, span_bounds, narrowest}
use Rattle.fx_outward.specs.Grid.{is_small, grid_down, grid_up}
use Rattle.fx_formulas.specs.Judging.{FormsSpan}
use Rattle.fx_outward.specs.Narrowed.{bounds_of, IsIfSmall, answer_of}
use Rattle.fx_outward.specs.declared.fault.Why.{Why}
use Rattle.fx_outward.specs.declared.fault.Why.TheVariants.{Beyond}
use Rattle.fx_outward.proofs.Lefts.{small_fits}
use Rattle.fx_outward.proofs.Spelling.{down_same, up_same}
use Rattle.fx_outward.proofs.Shorts.{short_small}

pub end_fits : (d : Dyadic) → is_small d ≡ true → fits_128 d.m ≡ true
end_fits d e = let l = short_small d e in small_fits d.m (omega (arith, l))

-- ---- the test of the narrowest
pub narrowest_some : (e : ℕ) (b : Bounds) (claims : Interval → List Claim) →
    (is_small (narrow e b).lo && is_small (narrow e b).hi) ≡ true → list_all fits (claims (narrow e b)) ≡ true →
    Path (Result Interval Why) (Ok (narrow e b)) (narrowest e b claims)
narrowest_some e b claims s f = ap (λ (t : Bool). if t then Ok (narrow e b) else Err Beyond) (sym (both s f))
  where
    both : {p q : Bool} → p ≡ true → q ≡ true → (p && q) ≡ true
    both p q = rw (p, q) refl

pub narrowest_long : (e : ℕ) (b : Bounds) (claims : Interval → List Claim) →
    (is_small (narrow e b).lo && is_small (narrow e b).hi) ≡ false →
    Path (Result Interval Why) (Err Beyond) (narrowest e b claims)
narrowest_long e b claims s =
    ap (λ (t : Bool). if t then Ok (narrow e b)
    else Err Beyond) (sym (ap (λ (t : Bool). t && list_all fits (claims (narrow e b))) s))

pub narrowest_beyond : (e : ℕ) (b : Bounds) (claims : Interval → List Claim) →
    list_all fits (claims (narrow e b)) ≡ false → Path (Result Interval Why) (Err Beyond) (narrowest e b claims)
narrowest_beyond e b claims f =
    ap (λ (t : Bool). if t then Ok (narrow e b)
    else Err Beyond) (sym (and_false (is_small (narrow e b).lo &&
    is_small (narrow e b).hi) (list_all fits (claims (narrow e b))) f))
  where
    and_false : (p q : Bool) → q ≡ false → (p && q) ≡ false
    and_false true q h = h
    and_false false q h = refl

-- where the claims fit of a short interval, what is kept is the answer
pub kept_answer : (o : Option Interval) (e : ℕ) (b : Bounds) (claims : Interval → List Claim) →
    IsIfSmall o (narrow e b) →
    (is_small (narrow e b).lo ≡ true → is_small (narrow e b).hi ≡ true → list_all fits (claims (narrow e b)) ≡ true) →
    answer_of o ≡ narrowest e b claims
kept_answer None e b claims k f = narrowest_long e b claims k
kept_answer (Some g) e b claims k f = ap (λ (i : Interval). let r : Result Interval Why = Ok i in r) k.0
    ∙ narrowest_some e b claims k.1
    (f (both_left (is_small (narrow e b).lo) (is_small (narrow e b).hi) k.1)
    (both_right (is_small (narrow e b).lo) (is_small (narrow e b).hi) k.1))

-- ---- a span
pub narrow_formed : (e : ℕ) (x : Interval) (s : Span) → FormsSpan (Some x) s →
    narrow e (bounds_of x) ≡ narrow e (span_bounds s)
narrow_formed e x s h =
    let lo : grid_down e (dyadic_value x.lo) ≡ grid_down e (formula_value s.lo) =
    ap (λ (i : Interval). grid_down e (dyadic_value i.lo)) h.1
    ∙ down_same e (dyadic_value (formed s.lo)) (formula_value s.lo) (formed_is s.lo) in
    let hi : grid_up e (dyadic_value x.hi) ≡ grid_up e (formula_value s.hi) =
    ap (λ (i : Interval). grid_up e (dyadic_value i.hi)) h.1
    ∙ up_same e (dyadic_value (formed s.hi)) (formula_value s.hi) (formed_is s.hi) in
    (λ i. record { lo = lo i; hi = hi i })

inside_fits : (s : Span) (g : Interval) → (formula_fits s.lo && formula_fits s.hi) ≡ true → is_small g.lo ≡ true →
    is_small g.hi ≡ true → list_all fits (inside s (span g)) ≡ true
unfolding formula_fits
inside_fits s g h lo hi =
    let a = both_left (formula_fits s.lo) (formula_fits s.hi) h in
    let b = both_right (formula_fits s.lo) (formula_fits s.hi) h in
    let c = end_fits g.lo lo in let d = end_fits g.hi hi in rw (a, b, c, d) refl

pub settled_some : (o : Option Interval) (e : ℕ) (x : Interval) (s : Span) → FormsSpan (Some x) s →
    IsIfSmall o (narrow e (bounds_of x)) → answer_of o ≡ narrowest e (span_bounds s) (λ g. inside s (span g))
settled_some o e x s h k =
    kept_answer o e (span_bounds s) (λ g. inside s (span g)) (subst (IsIfSmall o) (narrow_formed e x s h) k)
    (λ lo hi. inside_fits s (narrow e (span_bounds s)) h.0 lo hi)
