use Rattle.std.proofs.Common.{◌≡◌, ℕ, ◌<◌, length, refl, subst, arith}
use Rattle.std.proofs.lemmas.List.{length-map}
use borrow.Author.Count.{below_more}
use Rattle.fx_model.specs.Tree.{at}
use Rattle.fx_inequalities.specs.Certificate.{Share}
use Rattle.fx_inequalities.specs.Formula.{Num}
use Rattle.fx_formulas.specs.Places.{IsShort}
use Rattle.fx_cert.specs.CertificateView.{share_of, shares_of}
use Rattle.fx_template.proofs.ShortLists.{all_shares, each_share, no_share, share_at}
use Rattle.fx_template.proofs.modest.are_short_shares.Goals as goal

pub returns-then-not-is_short : goal.returns-then-not-is_short
returns-then-not-is_short c =
    let shares = c.args.shares.now in let i = c.loop-i.i in let lt = c.loop-i-test.true in
    let no = c.if-not-is_short.true in (
      λ e. absurd cc,
      λ all.
          (let yes = c.is_short.ensures.1
          ((share_at (λ (s : Share). IsShort 96 (Num s.times)) shares i c.index-shares-i.result lt).1
          (each_share (shares_of shares) all i (omega (arith, lt, length-map shares share_of)))) in
          absurd cc),
    )

pub loop-i-preserved : goal.loop-i-preserved
loop-i-preserved c =
    below_more _ _ c.loop-i.invariant
    ((share_at (λ (s : Share). IsShort 96 (Num s.times)) c.args.shares.now c.loop-i.i c.index-shares-i.result
    c.loop-i-test.true).0 (c.is_short.ensures.0 c.if-not-is_short.false))

pub returns : goal.returns
returns c =
    let shares = shares_of c.args.shares.now in
    let all : c.loop-i.i ≡ length shares = omega (arith, length-map c.args.shares.now share_of) in (
      λ _. all_shares shares
          (subst (λ (n : ℕ). (k : ℕ) → k < n → IsShort 96 (Num (at no_share shares k).times)) all c.loop-i.invariant),
      λ _. refl,
    )
