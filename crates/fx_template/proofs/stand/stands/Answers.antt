use Rattle.std.proofs.Common.{◌∙◌, ◌&&◌, Bool, ap, sym}
use Rattle.fx_rational.specs.Interval.{Interval}
use Rattle.fx_formulas.specs.Judging.{judged}
use Rattle.fx_template_conditions.specs.CertificateSide.{OneSide}
use Rattle.fx_template_conditions.specs.KeptTemplates.{kept_template}
use Rattle.fx_outward.specs.Grid.{is_small}
use Rattle.fx_template.specs.Transitions.{transition_in}
use Rattle.fx_template.specs.PlainRounds.{are_met, unit_templates}
use Rattle.fx_template.proofs.stand.stands.Goals as goal

pub returns-then-is_small_interval : goal.returns-then-is_small_interval
returns-then-is_small_interval c =
    let t = transition_in c.args.t.now in
    let claims =
    kept_template t.inputs t.states t.next t.lines
    (unit_templates t.states c.args.bounds.now) c.args.side.now c.args.i in
    let judged_is = c.template_judgement.ensures
    ∙ (λ k. let s : OneSide = c.side_with-own.ensures k in
    judged (kept_template s.inputs s.states t.next s.lines s.templates s.which c.args.i))
    ∙ (λ k. judged (kept_template t.inputs t.states t.next t.lines (c.requires.templates k) c.args.side.now c.args.i)) in
    let small = ap (λ (x : Interval). is_small x.lo && is_small x.hi) (sym c.bound_at.ensures)
    ∙ sym c.is_small_interval.ensures ∙ c.if-is_small_interval.true in
    c.is_met-met.ensures claims judged_is ∙ sym (ap (λ (b : Bool). b && are_met claims) small)
