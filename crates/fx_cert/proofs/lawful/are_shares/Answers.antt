use Rattle.std.proofs.Common.{subst, sym, arith}
use Rattle.fx_inequalities.specs.LawfulCertificate.{AreShares}
use Rattle.fx_cert.specs.CertificateView.{share_of}
use Rattle.fx_cert.proofs.Tested.{rest_seen}
use Rattle.fx_cert.proofs.lawful.are_shares.Goals as goal

pub loop-share-preserved : goal.loop-share-preserved
loop-share-preserved c =
    let split =
    rest_seen share_of c.args.shares.now c.loop-share.share-index c.share-item.result c.loop-share-test.true
    c.share-item.is in
    let below = c.if-template-count.false in let few = c.requires in
    record {
      all =
          λ rest. c.loop-share.invariant.all
          (subst (AreShares c.args.count c.loop-share.least) (sym split) (
            c.if-template-least.false,
            below,
            c.is_written.ensures c.if-not-is_written.false,
            rest,
          ));
      few = omega (arith, below, few);
    }
