-- What holds both of two spans.
use Rattle.std.proofs.Common.{◌≡◌, true, ◌&&◌, Some, None, ◌⊎◌, inl, inr, refl, ◌∙◌}
use Rattle.std.proofs.lemmas.Bool.{and_parts}
use Rattle.fx_rational.specs.Dyadic.{least, greatest}
use Rattle.fx_rational.specs.Interval.{Interval}
use Rattle.fx_inequalities.specs.Formula.{Span, formed, formula_fits}
use Rattle.fx_formulas.specs.Judging.{FormsSpan}
use Rattle.fx_formulas.proofs.Judged.{both_again}
use Rattle.fx_template.specs.PlainRounds.{hull}

pub hull_forms : (r v w : Interval) (s t : Span) → r ≡ record { lo = least v.lo w.lo; hi = greatest v.hi w.hi } →
    FormsSpan (Some v) s → FormsSpan (Some w) t → FormsSpan (Some r) (hull s t)
unfolding formula_fits formed
hull_forms r v w s t e j k =
    let x = and_parts (formula_fits s.lo) (formula_fits s.hi) j.0 in
    let y = and_parts (formula_fits t.lo) (formula_fits t.hi) k.0 in (
      rw (x.0, x.1, y.0, y.1) refl,
      e
          ∙ (λ i. record { lo = least (j.1 i).lo (k.1 i).lo; hi = greatest (j.1 i).hi (k.1 i).hi }),
    )

parts : (s t : Span) → (formula_fits (hull s t).lo && formula_fits (hull s t).hi) ≡ true →
    ((formula_fits s.lo && formula_fits s.hi) ≡ true) × ((formula_fits t.lo && formula_fits t.hi) ≡ true)
unfolding formula_fits
parts s t all =
    let e = and_parts (formula_fits s.lo && formula_fits t.lo) (formula_fits s.hi && formula_fits t.hi) all in
    let lo = and_parts (formula_fits s.lo) (formula_fits t.lo) e.0 in
    let hi = and_parts (formula_fits s.hi) (formula_fits t.hi) e.1 in (
      both_again (formula_fits s.lo) (formula_fits s.hi) lo.0 hi.0,
      both_again (formula_fits t.lo) (formula_fits t.hi) lo.1 hi.1,
    )

pub hull_none : (s t : Span) → FormsSpan None s ⊎ FormsSpan None t → FormsSpan None (hull s t)
hull_none s t (inl h) = λ all. h (parts s t all).0
hull_none s t (inr h) = λ all. h (parts s t all).1
