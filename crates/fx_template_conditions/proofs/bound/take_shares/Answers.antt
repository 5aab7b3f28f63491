use Rattle.std.proofs.Common.{◌≡◌, ℕ, ◌+◌, List, length, take, None, ap, subst, ◌∙◌, arith}
use Rattle.std.proofs.Math.Seq.{take-length}
use Rattle.fx_model.specs.Tree.{at}
use Rattle.fx_inequalities.specs.Affine.{left_over}
use Rattle.fx_formulas.specs.Judging.{Forms}
use Rattle.fx_cert.specs.declared.certificate.Share as written
use Rattle.fx_cert.specs.CertificateView.{share_of, shares_of}
use Rattle.fx_template_conditions.specs.CertificateSide.{templates_on}
use Rattle.fx_template_conditions.proofs.Shares.{left_more, next_shares, share_short}
use Rattle.fx_template_conditions.proofs.bound.take_shares.Goals as goal

pub take_share-requires-clause-times : goal.take_share-requires-clause-times
take_share-requires-clause-times c =
    share_short c.args.shares.now c.loop-share.share-index c.share-item.result c.share-item.is c.requires.shares
    (omega arith)

pub loop-share-preserved : goal.loop-share-preserved
loop-share-preserved c = λ f left j lt.
    let n = c.loop-share.share-index in let xs = c.args.shares.now in let s = c.share-item.result in
    let rs = templates_on c.args.side.now in
    let same = next_shares xs n s c.share-item.is (omega arith) in
    let more =
    c.take_share.ensures (λ (k : ℕ). left_over (f k) rs (shares_of (take n xs)) k)
    (c.loop-share.invariant f left) j lt in
    rw (same, left_more (f j) rs (shares_of (take n xs)) (share_of s) j) more

pub returns : goal.returns
returns c = λ f left j lt.
    let n = c.loop-share.share-index in let xs = c.args.shares.now in
    let rs = templates_on c.args.side.now in
    let end : n ≡ length xs = omega (arith, c.loop-share.auto.share-index-end, c.loop-share-test.false) in
    let all : take n xs ≡ xs = ap (λ (m : ℕ). take m xs) end ∙ take-length xs in
    subst (λ (ys : List written.Share). Forms (at None c.loop-share.coefs (c.args.side.now.inputs + j))
    (left_over (f j) rs (shares_of ys) j)) all (c.loop-share.invariant f left j lt)
