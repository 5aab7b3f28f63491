-- Rounds: what each bound is, and that bounds stay short and can be spelled.
use Rattle.std.proofs.Common.{◌≡◌, ℕ, zero, suc, ◌+◌, ◌-◌, ◌<◌, ◌≤◌, pos, List, Option, Some, None, Ok, inl, inr, refl, sym, ap, subst, ◌∙◌, arith}
use Rattle.std.proofs.lemmas.Bool.{cases_lt}
use Rattle.std.proofs.lemmas.List.{get_or_past}
use Rattle.std.proofs.lemmas.Option.{same_Some}
use Rattle.fx_rational.specs.Interval.{Interval, IsWrittenInterval}
use Rattle.fx_model.specs.Tree.{at}
use Rattle.fx_inequalities.specs.Formula.{span}
use Rattle.fx_inequalities.specs.Claim.{inside}
use Rattle.fx_inequalities.specs.Certificate.{zero_interval}
use Rattle.fx_formulas.specs.Places.{IsShortSpan}
use Rattle.fx_cert.specs.declared.side.Side.{Side}
use Rattle.fx_cert.specs.declared.side.Side.TheVariants.{Value, Error}
use Rattle.fx_conditions.proofs.Lawful.{short_ends, no_ends}
use Rattle.fx_outward.specs.Narrow.{span_bounds}
use Rattle.fx_outward.specs.Laws.{IsNarrowestOf}
use Rattle.fx_outward.proofs.Narrowest.{narrowest_is}
use Rattle.fx_outward.proofs.Quotients.{around_inside}
use Rattle.fx_outward.proofs.Exacts.{grid_few}
use Rattle.fx_template.specs.Transitions.{IsModestTransition, Transition}
use Rattle.fx_template.specs.PlainRounds.{Bounds, and_on, both_bounds, bounds_after, bounds_at_first, first_bounds, plain_rounds, raised_bound, raised_bounds, raised_span, template_grid, state_bound}
use Rattle.fx_template.specs.Answers.{HasWrittenStates}
use Rattle.fx_template.specs.RoundView.{AreShortBoth, AreShortBounds}
use Rattle.fx_template.proofs.Lists.{each_is, tabulate_all, tabulate_at}

few_places : (side : Side) (t : Transition) (i : ℕ) → IsModestTransition t → template_grid side t i ≤ 96
few_places Value t i m = omega arith
few_places Error t i m = grid_few (at (pos 0) t.points (t.inputs + i)) (m.points (t.inputs + i))

-- a new bound is the narrowest
raised_is : (side : Side) (t : Transition) (bounds : List Interval) (i : ℕ) (g : Interval) → IsModestTransition t →
    raised_bound side t bounds i ≡ Ok g →
    IsNarrowestOf (template_grid side t i) (λ b. inside (raised_span side t bounds i) (span b)) g
raised_is side t bounds i g m made =
    let s = raised_span side t bounds i in
    narrowest_is (template_grid side t i) (span_bounds s) (λ b. inside s (span b)) g (few_places side t i m)
    (λ j. around_inside s (span j)) made

-- ---- new bounds can be spelled
pub raised_written : (side : Side) (t : Transition) (bounds new : List Interval) → IsModestTransition t →
    raised_bounds side t bounds ≡ Some new → (i : ℕ) → i < t.states → IsWrittenInterval (at zero_interval new i)
raised_written side t bounds new m e i lt =
    (raised_is side t bounds i (at zero_interval new i) m
    ((each_is (raised_bound side t bounds) t.states new e).each zero_interval i lt)).written

pub raised_short : (side : Side) (t : Transition) (bounds new : List Interval) → IsModestTransition t →
    raised_bounds side t bounds ≡ Some new → AreShortBounds new
raised_short side t bounds new m e i = elim (cases_lt i t.states) [
  | inl less ↦ short_ends (at zero_interval new i) (raised_written side t bounds new m e i less)
  | inr more ↦ (let count = (each_is (raised_bound side t bounds) t.states new e).count in
      subst (λ (x : Interval). IsShortSpan 96 (span x))
      (sym (get_or_past new i zero_interval (omega (arith, count, more)))) no_ends)
]

-- ---- of both kinds of templates
-- bounds of each state can be spelled
abbrev pub AreWrittenBoth : Transition → Bounds → Type 0
AreWrittenBoth t b = (i : ℕ) → i < t.states →
    IsWrittenInterval (at zero_interval b.templates i) × IsWrittenInterval (at zero_interval b.error_templates i)

pub record IsRound (t : Transition) (b c : Bounds) : Type 0 where
  pub templates : raised_bounds Value t b.templates ≡ Some c.templates
  pub error_templates : raised_bounds Error t b.error_templates ≡ Some c.error_templates

pub round_is : (t : Transition) (b c : Bounds) → bounds_after t b ≡ Some c → IsRound t b c
round_is t b c e = by (raised_bounds Value t b.templates) refl (raised_bounds Error t b.error_templates) refl e
  where
    by : (x : Option (List Interval)) → raised_bounds Value t b.templates ≡ x → (y : Option (List Interval)) →
        raised_bounds Error t b.error_templates ≡ y → both_bounds x y ≡ Some c → IsRound t b c
    by (Some xs) p (Some ys) q e = record {
      templates = p ∙ ap (λ (o : Bounds). Some o.templates) (same_Some _ _ e);
      error_templates = q ∙ ap (λ (o : Bounds). Some o.error_templates) (same_Some _ _ e);
    }
    by (Some xs) p None q e = absurd cc
    by None p (Some ys) q e = absurd cc
    by None p None q e = absurd cc

pub round_short : (t : Transition) (b c : Bounds) → IsModestTransition t → bounds_after t b ≡ Some c → AreShortBoth c
round_short t b c m e =
    let r = round_is t b c e in (
      raised_short Value t b.templates c.templates m r.templates,
      raised_short Error t b.error_templates c.error_templates m r.error_templates,
    )

round_written : (t : Transition) (b c : Bounds) → IsModestTransition t → bounds_after t b ≡ Some c → AreWrittenBoth t c
round_written t b c m e i lt =
    let r = round_is t b c e in (
      raised_written Value t b.templates c.templates m r.templates i lt,
      raised_written Error t b.error_templates c.error_templates m r.error_templates i lt,
    )

pub first_short : (side : Side) (t : Transition) → IsModestTransition t → AreShortBounds (first_bounds side t)
first_short Value t m =
    tabulate_all (λ (x : Interval). IsShortSpan 96 (span x)) (state_bound Value t) t.states zero_interval no_ends
    (λ i lt. (m.lines (t.inputs + i)).range)
first_short Error t m =
    tabulate_all (λ (x : Interval). IsShortSpan 96 (span x)) (state_bound Error t) t.states zero_interval no_ends
    (λ i lt. (m.lines (t.inputs + i)).error)

pub first_written : (t : Transition) → HasWrittenStates t → AreWrittenBoth t (bounds_at_first t)
first_written t h i lt = (
  subst IsWrittenInterval (sym (tabulate_at (state_bound Value t) t.states i zero_interval lt)) (h i lt).0,
  subst IsWrittenInterval (sym (tabulate_at (state_bound Error t) t.states i zero_interval lt)) (h i lt).1,
)

-- ---- one round of several
pub round_on : (n k : ℕ) (t : Transition) (b c : Bounds) → k < n → bounds_after t b ≡ Some c →
    plain_rounds (n - k) t b ≡ plain_rounds (n - (k + 1)) t c
round_on n k t b c lt e =
    let s : n - k ≡ suc (n - (k + 1)) = omega (arith, lt) in
    ap (λ m. plain_rounds m t b) s ∙ ap (λ o. and_on (plain_rounds (n - (k + 1)) t) o b) e

pub round_ends : (n k : ℕ) (t : Transition) (b : Bounds) → k < n → bounds_after t b ≡ None →
    plain_rounds (n - k) t b ≡ b
round_ends n k t b lt e =
    let s : n - k ≡ suc (n - (k + 1)) = omega (arith, lt) in
    ap (λ m. plain_rounds m t b) s ∙ ap (λ o. and_on (plain_rounds (n - (k + 1)) t) o b) e

pub rounds_written : (n : ℕ) (t : Transition) (b : Bounds) → IsModestTransition t → AreWrittenBoth t b →
    AreWrittenBoth t (plain_rounds n t b)
rounds_written zero t b m h = h
rounds_written (suc n) t b m h = by (λ c w. rounds_written n t c m w) (bounds_after t b) refl
  where
    by : ((c : Bounds) → AreWrittenBoth t c → AreWrittenBoth t (plain_rounds n t c)) → (o : Option Bounds) →
        bounds_after t b ≡ o → AreWrittenBoth t (and_on (plain_rounds n t) o b)
    by go None e = h
    by go (Some c) e = go c (round_written t b c m e)
