use Rattle.std.proofs.Common.{◌≡◌, ◌∙◌, ℕ, true, inl, inr, subst, sym, arith}
use Rattle.std.proofs.lemmas.Bool.{cases_lt}
use Rattle.fx_formulas.specs.Judging.{judged}
use Rattle.fx_cert.specs.CertificateView.{templates_in}
use Rattle.fx_template_conditions.specs.CertificateSide.{OneSide}
use Rattle.fx_template_conditions.specs.KeptTemplates.{kept_template}
use Rattle.fx_template.specs.Transitions.{transition_in}
use Rattle.fx_template.specs.PlainRounds.{are_met}
use Rattle.fx_template.proofs.find.are_kept.Goals as goal

pub loop-i-preserved : goal.loop-i-preserved
loop-i-preserved c = λ k lt.
    let t = transition_in c.args.t.now in let templates = templates_in c.args.templates.now in
    let side = c.args.side.now in let i = c.loop-i.i in
    let judged_is = c.template_judgement-kept.ensures
    ∙ (λ j. let s : OneSide = c.side_with-own.ensures j in
    judged (kept_template s.inputs s.states t.next s.lines s.templates s.which i)) in
    let here = sym (c.is_met.ensures (kept_template t.inputs t.states t.next t.lines templates side i) judged_is)
    ∙ c.if-not-is_met.false in
    elim (cases_lt k i) [
      | inl less ↦ c.loop-i.invariant k less
      | inr more ↦ (let same : i ≡ k = omega (arith, more, lt) in
          subst (λ (n : ℕ). are_met (kept_template t.inputs t.states t.next t.lines templates side n) ≡ true) same here)
    ]
