-- Templates that were tested: counted, short, and what the plain ones are.
use Rattle.std.proofs.Common.{◌≡◌, ℕ, ◌+◌, List, length, Option, Some, None, inl, inr, refl, sym, subst}
use Rattle.std.specs.Option.{option_map}
use Rattle.std.proofs.lemmas.Bool.{cases_lt}
use Rattle.std.proofs.lemmas.List.{get_or_past}
use Rattle.fx_rational.specs.Dyadic.{zero_dyadic}
use Rattle.fx_rational.specs.Interval.{IsWrittenInterval}
use Rattle.fx_model.specs.Tree.{at}
use Rattle.fx_inequalities.specs.Certificate.{Template, no_template}
use Rattle.fx_inequalities.specs.LawfulCertificate.{AreWrittenTemplates}
use Rattle.fx_conditions.specs.Limits.{AreShortTemplates, IsShortTemplate}
use Rattle.fx_cert.specs.declared.side.Side.TheVariants.{Value, Error}
use Rattle.fx_conditions.proofs.Lawful.{short_coefs, short_ends, short_shares, no_short_template}
use Rattle.fx_template.specs.Listed.{first_untrue, or_else}
use Rattle.fx_template.specs.Transitions.{IsModestTransition, Transition}
use Rattle.fx_template.specs.PlainRounds.{Bounds, bounds_at_first, first_fallen, plain_rounds, stands, unit_templates}
use Rattle.fx_template.specs.Templates.{AreCountedTemplates, AreKept, AreWrittenBounds, IsCountedTemplate}
use Rattle.fx_template.specs.Answers.{Found, HasWrittenBounds, HasWrittenStates, IsInvariant}
use Rattle.fx_template.proofs.UnitTemplates.{unit_templates_counted, unit_templates_kept, unit_templates_written}
use Rattle.fx_template.proofs.Rounds.{first_written, rounds_written}

-- ---- templates that a text can spell
pub written_counted : (k : ℕ) (templates : List Template) → AreWrittenTemplates k templates →
    AreCountedTemplates k templates
written_counted k templates h = record {
  enough = h.enough;
  few = h.few;
  units = h.units;
  each = λ i d lt. record {
    coefs = (h.each i d lt).coefs;
    written = (h.each i d lt).written;
    shares = (h.each i d lt).shares;
  };
}

pub written_bounds : (k : ℕ) (templates : List Template) → AreWrittenTemplates k templates → AreWrittenBounds templates
written_bounds k templates h = λ i d lt. (h.each i d lt).bound

-- ---- short
short_template : (k count : ℕ) (r : Template) → IsCountedTemplate k count r → IsWrittenInterval r.bound →
    IsShortTemplate r
short_template k count r h w = record {
  coefs = short_coefs r.coefs h.written;
  bound = short_ends r.bound w;
  shares = short_shares count 0 r.shares h.shares;
}

pub templates_short : (k : ℕ) (templates : List Template) → AreCountedTemplates k templates →
    AreWrittenBounds templates → AreShortTemplates templates
templates_short k templates h w i = elim (cases_lt i (length templates)) [
  | inl less ↦ short_template k (length templates) (at no_template templates i) (h.each i no_template less)
      (w i no_template less)
  | inr more ↦ subst IsShortTemplate (sym (get_or_past templates i no_template more)) no_short_template
]

-- ---- the plain templates
both_none : (f : ℕ → ℕ) (a b : Option ℕ) → or_else a (option_map f b) ≡ None → (a ≡ None) × (b ≡ None)
both_none f (Some x) b h = absurd cc
both_none f None (Some y) h = absurd cc
both_none f None None h = (refl, refl)

pub plain_both_pass : (t : Transition) (b : Bounds) (f : Found) → IsModestTransition t →
    f.templates ≡ unit_templates t.states b.templates → f.error_templates ≡ unit_templates t.states b.error_templates →
    first_fallen t b ≡ None → IsInvariant t f
plain_both_pass t b f m templates errors none =
    let each =
    both_none (λ i. t.states + i) (first_untrue t.states (stands Value t b.templates))
    (first_untrue t.states (stands Error t b.error_templates)) none in
    record {
      kept = subst (AreKept Value t) (sym templates) (unit_templates_kept Value t b.templates each.0);
      kept_errors = subst (AreKept Error t) (sym errors) (unit_templates_kept Error t b.error_templates each.1);
      counted =
          subst (AreCountedTemplates t.states) (sym templates) (unit_templates_counted t.states b.templates m.states);
      counted_errors =
          subst (AreCountedTemplates t.states) (sym errors)
          (unit_templates_counted t.states b.error_templates m.states);
    }

pub plain_written : (t : Transition) (n : ℕ) (b : Bounds) (f : Found) → IsModestTransition t →
    b ≡ plain_rounds n t (bounds_at_first t) → f.templates ≡ unit_templates t.states b.templates →
    f.error_templates ≡ unit_templates t.states b.error_templates →
    HasWrittenStates t → HasWrittenBounds f
plain_written t n b f m is templates errors h =
    let all = rounds_written n t (bounds_at_first t) m (first_written t h) in (
      subst AreWrittenBounds (sym templates)
          (unit_templates_written t.states b.templates
          (λ i lt. subst (λ (x : Bounds). IsWrittenInterval
          (at (record { lo = zero_dyadic; hi = zero_dyadic }) x.templates i)) (sym is) (all i lt).0)),
      subst AreWrittenBounds (sym errors)
          (unit_templates_written t.states b.error_templates
          (λ i lt. subst (λ (x : Bounds). IsWrittenInterval
          (at (record { lo = zero_dyadic; hi = zero_dyadic }) x.error_templates i)) (sym is) (all i lt).1)),
    )
