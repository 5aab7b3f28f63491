use Rattle.std.proofs.Common.{take, arith}
use Rattle.fx_inequalities.specs.Formula.{Num, point, span_product}
use Rattle.fx_inequalities.specs.Affine.{shared_sum}
use Rattle.fx_cert.specs.CertificateView.{share_of, shares_of}
use Rattle.fx_template_conditions.specs.CertificateSide.{templates_on}
use Rattle.fx_template_conditions.proofs.Shares.{shared_more, next_shares, share_short}
use Rattle.fx_template_conditions.proofs.bound.with_shares.Goals as goal

pub share_bound-requires : goal.share_bound-requires
share_bound-requires c =
    share_short c.args.shares.now c.loop-share.share-index c.share-item.result c.share-item.is c.requires.shares
    (omega arith)

pub loop-share-preserved : goal.loop-share-preserved
loop-share-preserved c = λ z start.
    let n = c.loop-share.share-index in let xs = c.args.shares.now in let s = c.share-item.result in
    let rs = templates_on c.args.side.now in
    let same = next_shares xs n s c.share-item.is (omega arith) in
    let more =
    c.plus-total.ensures (shared_sum z rs (shares_of (take n xs)))
    (span_product (point (Num s.times)) (rs.bound s.template))
    (c.loop-share.invariant z start) c.share_bound.ensures in
    rw (same, shared_more z rs (shares_of (take n xs)) (share_of s)) more
