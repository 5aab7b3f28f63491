use Rattle.std.proofs.Common.{◌∙◌, ℕ, Result, ap, subst}
use Rattle.fx_rational.specs.Interval.{Interval}
use Rattle.fx_model.specs.Tree.{at}
use Rattle.fx_inequalities.specs.Formula.{span}
use Rattle.fx_inequalities.specs.Claim.{inside}
use Rattle.fx_inequalities.specs.Certificate.{zero_interval}
use Rattle.fx_formulas.specs.Judging.{FormsSpan}
use Rattle.fx_template_conditions.specs.CertificateSide.{OneSide}
use Rattle.fx_template_conditions.specs.KeptTemplates.{next_template}
use Rattle.fx_outward.specs.Narrow.{narrowest, span_bounds}
use Rattle.fx_outward.specs.declared.fault.Why.{Why}
use Rattle.fx_template.specs.Transitions.{transition_in}
use Rattle.fx_template.specs.PlainRounds.{raised_span, unit_templates}
use Rattle.fx_template.proofs.round.raised_bound.Goals as goal

pub returns : goal.returns
returns c =
    let t = transition_in c.args.t.now in let side = c.args.side.now in let bounds = c.args.bounds.now in
    let i = c.args.i in let left = c.template_bound_of-left.result in
    let lined =
    subst (λ (s : OneSide). FormsSpan left
    (next_template s.inputs s.states t.next s.lines s.templates s.which i)) c.side_with-own.ensures
    c.template_bound_of-left.ensures in
    let rowed =
    subst (λ rs. FormsSpan left
    (next_template t.inputs t.states t.next t.lines rs side i)) c.requires.templates lined in
    let own = subst (λ (x : Interval). FormsSpan c.interval.result (span x)) c.bound_at.ensures c.interval.ensures in
    let s = raised_span side t bounds i in
    c.round_outward.ensures s (c.hull-held.ensures (span (at zero_interval bounds i))
    (next_template t.inputs t.states t.next t.lines (unit_templates t.states bounds) side i) own rowed)
    ∙ ap (λ (e : ℕ). let r : Result Interval Why = narrowest e (span_bounds s) (λ b. inside s (span b)) in
    r) c.template_grid.ensures
