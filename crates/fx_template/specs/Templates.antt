-- Templates that a certificate over k states may have.
use Rattle.std.specs.Prelude.{◌≡◌, ℕ, ◌<◌, ◌≤◌, true, List, length, All}
use Rattle.fx_rational.specs.Dyadic.{IsWritten}
use Rattle.fx_rational.specs.Interval.{IsWrittenInterval}
use Rattle.fx_model.specs.Limits.{template_limit}
use Rattle.fx_inequalities.specs.Certificate.{Template}
use Rattle.fx_inequalities.specs.LawfulCertificate.{AreShares, AreUnitTemplates, AreWrittenTemplates}
use Rattle.fx_template_conditions.specs.KeptTemplates.{kept_template}
use Rattle.fx_cert.specs.declared.side.Side.{Side}
use Rattle.fx_template.specs.Transitions.{Transition}
use Rattle.fx_template.specs.PlainRounds.{are_met}

-- a template over k states, one of so many
pub record IsCountedTemplate (k count : ℕ) (r : Template) : Type 0 where
  pub coefs : length r.coefs ≡ k
  pub written : All IsWritten r.coefs
  pub shares : AreShares count 0 r.shares

-- the unit templates first, and at most 512 in all
pub record AreCountedTemplates (k : ℕ) (templates : List Template) : Type 0 where
  pub enough : k ≤ length templates
  pub few : length templates ≤ template_limit
  pub units : AreUnitTemplates k 0 templates
  pub each : All (IsCountedTemplate k (length templates)) templates

-- a text can spell each bound
abbrev pub AreWrittenBounds : List Template → Type 0
AreWrittenBounds templates = All (λ r. IsWrittenInterval r.bound) templates

-- one step keeps each template
abbrev pub AreKept : Side → Transition → List Template → Type 0
AreKept side t templates =
    (i : ℕ) → i < length templates → are_met (kept_template t.inputs t.states t.next t.lines templates side i) ≡ true

-- such templates with such bounds are a certificate's
abbrev pub WrittenLaw : Type 0
WrittenLaw = (k : ℕ) (templates : List Template) → AreCountedTemplates k templates → AreWrittenBounds templates →
    AreWrittenTemplates k templates
