use Rattle.std.proofs.Common.{ℕ, ◌+◌, ◌<◌, arith}
use Rattle.fx_inequalities.specs.Affine.{left_over, shared_sum, weighted_sum}
use Rattle.fx_formulas.specs.Places.{IsShort}
use Rattle.fx_cert.specs.CertificateView.{shares_of}
use Rattle.fx_template_conditions.specs.CertificateSide.{spans_on, templates_on}
use Rattle.fx_template_conditions.proofs.Shares.{left_short}
use Rattle.fx_template_conditions.proofs.bound.bound_by_templates.Goals as goal

pub returns : goal.returns
returns c = λ f z formed start.
    let s = c.args.side.now in let i = s.inputs in let k = s.states in let n = i + k in
    let rs = templates_on s in let shares = shares_of c.args.shares.now in
    let reached = weighted_sum z i f (spans_on s) in
    let first = c.with_inputs-first.ensures n f z (omega arith) formed start in
    let second = c.with_shares-second.ensures reached first in
    let left = c.take_shares.ensures (λ (j : ℕ). f (i + j)) (λ j lt. formed.each (i + j) (omega arith)) in
    let short : (j : ℕ) → j < k →
    IsShort 192 (left_over (f (i + j)) rs shares j) =
    λ j lt. left_short s.templates c.keeps.ensures.templates k shares c.requires.shares j (f (i + j))
    (formed.short (i + j) (omega arith)) in
    c.with_states.ensures (λ (j : ℕ). left_over (f (i + j)) rs shares j) (shared_sum reached rs shares) left short second
