use Rattle.std.proofs.Common.{take}
use Rattle.fx_inequalities.specs.Formula.{Span}
use Rattle.fx_inequalities.specs.Affine.{shared_sum}
use Rattle.fx_formulas.specs.Judging.{FormsSpan}
use Rattle.fx_cert.specs.CertificateView.{shares_of}
use Rattle.fx_template_conditions.specs.CertificateSide.{templates_on}
use Rattle.fx_template_conditions.proofs.bound.with_shares.Given as goal

abbrev pub invariant-loop-share : goal.invariant-loop-share
invariant-loop-share l = (z : Span) → FormsSpan l.fn.start z →
    FormsSpan l.total (shared_sum z (templates_on l.fn.side) (shares_of (take l.share-index l.fn.shares)))
