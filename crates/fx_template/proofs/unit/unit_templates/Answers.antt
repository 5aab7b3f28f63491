use Rattle.std.proofs.Common.{◌≡◌, ℕ, ◌∙◌, ap, subst, sym, arith}
use Rattle.std.proofs.lemmas.List.{map_push}
use Rattle.fx_model.specs.Tree.{at}
use Rattle.fx_inequalities.specs.Certificate.{zero_interval}
use Rattle.fx_cert.specs.CertificateView.{template_view, templates_in}
use Rattle.fx_conditions.specs.Limits.{AreShortTemplates}
use Rattle.fx_template.specs.Listed.{tabulate}
use Rattle.fx_template.specs.PlainRounds.{unit_template}
use Rattle.fx_template.proofs.Lists.{tabulate_more}
use Rattle.fx_template.proofs.UnitTemplates.{unit_templates_short}
use Rattle.fx_template.proofs.unit.unit_templates.Goals as goal

pub loop-i-preserved : goal.loop-i-preserved
loop-i-preserved c =
    let k = c.args.states in let i = c.loop-i.i in let bounds = c.args.bounds.now in
    let template = c.in_ok-template.template in
    let is = c.in_ok-template.ensures ∙ ap (λ b. unit_template k b i) c.bound_at-bound.ensures in
    ap templates_in c.in_ok-push.ensures.items ∙ map_push template_view c.loop-i.templates.items template
    ∙ tabulate_more (λ (j : ℕ). unit_template k (at zero_interval bounds j) j)
    (templates_in c.loop-i.templates.items) i (template_view template) c.loop-i.invariant is

pub returns-clause-short : goal.returns-clause-short
returns-clause-short c =
    let k = c.args.states in let bounds = c.args.bounds.now in let all : c.loop-i.i ≡ k = omega arith in
    subst AreShortTemplates
    (sym (c.loop-i.invariant
    ∙ ap (λ (n : ℕ). tabulate n (λ (j : ℕ). unit_template k (at zero_interval bounds j) j)) all))
    (unit_templates_short k bounds c.requires)
