-- Literals as they are folded.
use Rattle.std.proofs.Common.{◌≡◌, Some, suc, pred, ◌<◌, ◌^◌, ℤ, pos, negsuc, ◌≤ℤ◌, true, sym, ap, subst, ◌∙◌, arith, rules, tests}
use Rattle.std.specs.Prelude.{unsigned_abs}
use Rattle.std.specs.Int.{IsGcd}
use Rattle.std.proofs.lemmas.Int.{ints}
use Rattle.fx_rational.specs.Gcd.{IsLowest}
use Rattle.fx_rational.specs.Rational.{Rational, bottom, quotient, lowest}
use Rattle.fx_rational.proofs.Laws.{equal_refl}
use Rattle.fx_rational.proofs.Lowest.{lowest_is}
use Rattle.fx_rational.proofs.Quotient.{quotient_none}
use Rattle.fx_fraction.specs.Fractions.{IsFraction}
use Rattle.fx_model.specs.Rules.{fits_literal}
use Rattle.fx_rewrite.specs.FoldedAs.{where_kept, folded_as}
use Rattle.fx_rewrite.specs.declared.fold.Folded.TheVariants.{NoMatch, Literal}

whole_bottom : (q : ℤ) → pos 1 ≤ℤ q → suc (pred (unsigned_abs q)) ≡ unsigned_abs q
whole_bottom (pos n) h = omega (arith, ints)
whole_bottom (negsuc n) h = absurd (omega (arith, ints))

-- a fraction of the code is in lowest terms and keeps the limits
pub kept_literal : (p q : ℤ) (v : Rational) → IsFraction p q → record { top = p; less = pred (unsigned_abs q) } ≡ v →
    folded_as (Some v) ≡ Literal v
kept_literal p q v h e =
    let b : suc (pred (unsigned_abs q)) ≡ unsigned_abs q = whole_bottom q h.above in
    let u : Rational = record { top = p; less = pred (unsigned_abs q) } in
    let small : bottom u < 2 ^ 62 = subst (λ n. n < 2 ^ 62) (sym b) h.bottom_small in
    let top_small : unsigned_abs u.top < 2 ^ 62 = h.top_small in
    let fits : fits_literal u ≡ true = search (rules, tests) in
    let is : IsLowest p (bottom u) = record {
      above = omega arith;
      coprime = subst (λ n. IsGcd (unsigned_abs p) n 1) (sym b) h.coprime;
    } in
    let same : u ≡ lowest u = lowest_is.only u u (equal_refl u) is in
    subst (λ (w : Rational). folded_as (Some w) ≡ Literal w) e
    (ap (λ (w : Rational). where_kept (fits_literal w) w) (sym same)
    ∙ ap (λ t. where_kept t u) fits)

-- a zero divisor is no match
pub no_ratio : (l k u : Rational) → u ≡ k → u.top ≡ pos 0 → folded_as (quotient l k) ≡ NoMatch
no_ratio l k u e z = ap folded_as (quotient_none l k (subst (λ (w : Rational). w.top ≡ pos 0) e z))
