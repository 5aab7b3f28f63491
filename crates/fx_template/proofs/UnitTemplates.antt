-- Unit templates: short, counted and kept.
use Rattle.std.proofs.Common.{◌≡◌, ℕ, ◌+◌, ◌<◌, ◌≤◌, ◌&&◌, List, length, get_or, None, inl, inr, sym, ap, subst, ◌∙◌, arith}
use Rattle.std.proofs.lemmas.Bool.{cases_lt}
use Rattle.std.proofs.lemmas.List.{get_or_default, get_or_past}
use Rattle.fx_conditions.proofs.Lawful.{no_short_template}
use Rattle.fx_rational.specs.Dyadic.{Dyadic, IsWritten, zero_dyadic}
use Rattle.fx_rational.specs.Interval.{Interval, IsWrittenInterval}
use Rattle.fx_model.specs.Tree.{at}
use Rattle.fx_inequalities.specs.Formula.{Num}
use Rattle.fx_inequalities.specs.Certificate.{Template, no_template, zero_interval}
use Rattle.fx_inequalities.specs.LawfulCertificate.{unit_vector}
use Rattle.fx_bounds.proofs.Claims.{both_right}
use Rattle.fx_formulas.specs.Places.{IsShort}
use Rattle.fx_conditions.specs.Limits.{AreShortTemplates, IsShortTemplate}
use Rattle.fx_cert.specs.declared.side.Side.{Side}
use Rattle.fx_template_conditions.specs.KeptTemplates.{kept_template}
use Rattle.fx_outward.specs.Grid.{is_small}
use Rattle.fx_cert.proofs.Units.{unit_length}
use Rattle.fx_cert.proofs.UnitVectors.{entry_at, entry_whole, entry_written, units_from}
use Rattle.fx_template.specs.Listed.{first_untrue}
use Rattle.fx_template.specs.Transitions.{Transition}
use Rattle.fx_template.specs.PlainRounds.{are_met, stands, unit_template, unit_templates}
use Rattle.fx_template.specs.Templates.{AreCountedTemplates, AreKept, AreWrittenBounds, IsCountedTemplate}
use Rattle.fx_template.specs.RoundView.{AreShortBounds}
use Rattle.fx_template.proofs.Lists.{all_true, tabulate_all, tabulate_at, tabulate_length}

unit_short : (k i j : ℕ) → i < k → IsShort 96 (Num (at zero_dyadic (unit_vector k i) j))
unit_short k i j lt = elim (cases_lt j k) [
  | inl less ↦ (let whole = ap (λ (d : Dyadic). d.e) (entry_at k i j lt less) ∙ entry_whole i j in
      record { few = omega (arith, whole) })
  | inr more ↦ (let past = ap (λ (d : Dyadic). d.e)
      (get_or_past (unit_vector k i) j zero_dyadic (rw (unit_length k i lt) more)) in
      record { few = omega (arith, past) })
]

pub unit_templates_short : (k : ℕ) (bounds : List Interval) → AreShortBounds bounds →
    AreShortTemplates (unit_templates k bounds)
unit_templates_short k bounds h =
    tabulate_all IsShortTemplate (λ i. unit_template k (at zero_interval bounds i) i) k no_template no_short_template
    (λ i lt. record { coefs = λ j. unit_short k i j lt; bound = h i; shares = tt })

-- template i of them
unit_template_at : (k : ℕ) (bounds : List Interval) (i : ℕ) (d : Template) → i < k →
    get_or (unit_templates k bounds) i d ≡ unit_template k (at zero_interval bounds i) i
unit_template_at k bounds i d lt = tabulate_at (λ i. unit_template k (at zero_interval bounds i) i) k i d lt

pub unit_count : (k : ℕ) (bounds : List Interval) → length (unit_templates k bounds) ≡ k
unit_count k bounds = tabulate_length (λ i. unit_template k (at zero_interval bounds i) i) k

unit_counted : (k i count : ℕ) (bound : Interval) → i < k → IsCountedTemplate k count (unit_template k bound i)
unit_counted k i count bound lt = record {
  coefs = unit_length k i lt;
  written = λ j d less. (let inside : j < k = rw (← unit_length k i lt) less in
      subst IsWritten (sym (default_same j d less ∙ entry_at k i j lt inside)) (entry_written i j));
  shares = tt;
}
  where
    default_same : (j : ℕ) (d : Dyadic) → j < length (unit_vector k i) →
        get_or (unit_vector k i) j d ≡ at zero_dyadic (unit_vector k i) j
    default_same j d less = get_or_default (unit_vector k i) j d zero_dyadic less

pub unit_templates_counted : (k : ℕ) (bounds : List Interval) → k ≤ 32 → AreCountedTemplates k (unit_templates k bounds)
unit_templates_counted k bounds few = let count = unit_count k bounds in record {
  enough = omega (arith, count);
  few = omega (arith, count, few);
  units = units_from k 0 (unit_templates k bounds) (λ i lt less. let inside : i < k = rw (← count) lt in
      let same : i ≡ i + 0 = omega arith in
      ap (λ (r : Template). r.coefs) (unit_template_at k bounds i no_template inside) ∙ ap (λ n. unit_vector k n) same);
  each = λ i d lt. let inside : i < k = rw (← count) lt in
      subst (IsCountedTemplate k (length (unit_templates k bounds))) (sym (unit_template_at k bounds i d inside))
      (unit_counted k i (length (unit_templates k bounds)) (at zero_interval bounds i) inside);
}

pub unit_templates_written : (k : ℕ) (bounds : List Interval) →
    ((i : ℕ) → i < k → IsWrittenInterval (at zero_interval bounds i)) → AreWrittenBounds (unit_templates k bounds)
unit_templates_written k bounds h i d lt =
    let inside : i < k = rw (← unit_count k bounds) lt in
    subst (λ (r : Template). IsWrittenInterval r.bound) (sym (unit_template_at k bounds i d inside)) (h i inside)

-- where each stands, one step keeps each
pub unit_templates_kept : (side : Side) (t : Transition) (bounds : List Interval) →
    first_untrue t.states (stands side t bounds) ≡ None → AreKept side t (unit_templates t.states bounds)
unit_templates_kept side t bounds h i lt =
    let inside : i < t.states = rw (← unit_count t.states bounds) lt in let b = at zero_interval bounds i in
    both_right (is_small b.lo &&
    is_small b.hi) (are_met
    (kept_template t.inputs t.states t.next t.lines (unit_templates t.states bounds) side i)) (all_true
    (stands side t bounds) t.states h i inside)
