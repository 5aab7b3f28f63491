use Rattle.std.proofs.Common.{◌≡◌, ℕ, ◌<◌, true}
use Rattle.fx_cert.specs.CertificateView.{templates_in}
use Rattle.fx_template_conditions.specs.KeptTemplates.{kept_template}
use Rattle.fx_template.specs.Transitions.{transition_in}
use Rattle.fx_template.specs.PlainRounds.{are_met}
use Rattle.fx_template.proofs.find.are_kept.Given as goal

abbrev pub invariant-loop-i : goal.invariant-loop-i
invariant-loop-i l = (k : ℕ) → k < l.i →
    are_met (kept_template l.fn.t.inputs l.fn.t.states l.fn.t.next (transition_in l.fn.t).lines
    (templates_in l.fn.templates) l.fn.side k) ≡ true
