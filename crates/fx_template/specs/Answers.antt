-- What is answered for a transition: templates and error templates, or the first that doesn't stand.
use Rattle.std.specs.Prelude.{◌≡◌, ℕ, ◌+◌, ◌<◌, List, Some}
use Rattle.fx_rational.specs.Interval.{IsWrittenInterval}
use Rattle.fx_model.specs.Tree.{at}
use Rattle.fx_inequalities.specs.Certificate.{Template, no_line}
use Rattle.fx_cert.specs.CertificateView.{templates_in}
use Rattle.fx_cert.specs.declared.side.Side.TheVariants.{Value, Error}
use Rattle.fx_template.specs.Transitions.{Transition}
use Rattle.fx_template.specs.PlainRounds.{bounds_at_first, first_fallen, plain_rounds}
use Rattle.fx_template.specs.Templates.{AreCountedTemplates, AreKept, AreWrittenBounds}
use Rattle.fx_template.specs.declared.template.FoundTemplates.{FoundTemplates}
use Rattle.fx_template.specs.declared.template.TemplateFault.{TemplateFault}
use Rattle.fx_template.specs.declared.template.TemplateFault.TheVariants.{NoTemplates, Memory}

-- templates of both kinds
pub record Found : Type 0 where
  pub templates : List Template
  pub error_templates : List Template

abbrev pub found_in : FoundTemplates → Found
found_in t = record { templates = templates_in t.templates; error_templates = templates_in t.error_templates }

-- one step keeps each template and each error template, and a certificate may have them
pub record IsInvariant (t : Transition) (f : Found) : Type 0 where
  pub kept : AreKept Value t f.templates
  pub kept_errors : AreKept Error t f.error_templates
  pub counted : AreCountedTemplates t.states f.templates
  pub counted_errors : AreCountedTemplates t.states f.error_templates

-- the bounds of both can be spelled
abbrev pub HasWrittenBounds : Found → Type 0
HasWrittenBounds f = AreWrittenBounds f.templates × AreWrittenBounds f.error_templates

-- so can where the states lie
abbrev pub HasWrittenStates : Transition → Type 0
HasWrittenStates t = (i : ℕ) → i < t.states →
    IsWrittenInterval (at no_line t.lines (t.inputs + i)).range ×
    IsWrittenInterval (at no_line t.lines (t.inputs + i)).error

-- this template is the first that doesn't stand after so many rounds; want of memory may come at any time
abbrev pub NamesFallen : TemplateFault → Transition → ℕ → Type 0
NamesFallen (NoTemplates template) t n = first_fallen t (plain_rounds n t (bounds_at_first t)) ≡ Some template
NamesFallen Memory t n = Unit {0}
