use Rattle.std.proofs.Common.{drop, ◌≤◌}
use Rattle.fx_inequalities.specs.LawfulCertificate.{AreShares}
use Rattle.fx_cert.specs.CertificateView.{shares_of}
use Rattle.fx_cert.proofs.lawful.are_shares.Given as goal

-- where what is left rises from here on, all of it does
abbrev pub invariant-loop-share : goal.invariant-loop-share
invariant-loop-share l = record {
  all : AreShares l.fn.count l.least (drop l.share-index (shares_of l.fn.shares)) →
      AreShares l.fn.count 0 (shares_of l.fn.shares);
  few : l.least ≤ 512;
}
