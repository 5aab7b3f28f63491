use Rattle.std.proofs.Common.{ℕ, take}
use Rattle.fx_inequalities.specs.Formula.{Formula}
use Rattle.fx_inequalities.specs.Affine.{left_over}
use Rattle.fx_cert.specs.CertificateView.{shares_of}
use Rattle.fx_template_conditions.specs.CertificateSide.{templates_on}
use Rattle.fx_template_conditions.specs.Coefficients.{AreLeft}
use Rattle.fx_template_conditions.proofs.bound.take_shares.Given as goal

abbrev pub invariant-loop-share : goal.invariant-loop-share
invariant-loop-share l = (c : ℕ → Formula) → AreLeft l.fn.coefs l.fn.side.inputs l.fn.side.states c →
    AreLeft l.coefs l.fn.side.inputs l.fn.side.states
    (λ k. left_over (c k) (templates_on l.fn.side) (shares_of (take l.share-index l.fn.shares)) k)
