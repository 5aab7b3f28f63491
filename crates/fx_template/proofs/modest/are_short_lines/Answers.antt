use Rattle.std.proofs.Common.{◌≡◌, ℕ, ◌<◌, length, refl, subst, arith}
use Rattle.std.proofs.lemmas.List.{length-map}
use borrow.Author.Count.{below_more}
use Rattle.fx_model.specs.Tree.{at}
use Rattle.fx_inequalities.specs.Certificate.{no_line}
use Rattle.fx_cert.specs.CertificateView.{line_view, lines_view}
use Rattle.fx_conditions.specs.Limits.{IsShortLine}
use Rattle.fx_template.proofs.ShortLists.{line_at, past_the_end, short_no_line}
use Rattle.fx_template.proofs.modest.are_short_lines.Goals as goal

pub returns-then-not-is_short_line : goal.returns-then-not-is_short_line
returns-then-not-is_short_line c =
    let no = c.if-not-is_short_line.true in (
      λ e. absurd cc,
      λ all.
          (let yes = c.is_short_line.ensures.1 ((line_at IsShortLine c.args.lines.now c.loop-n.n c.index-lines-n.result
          c.loop-n-test.true c.index-lines-n.is).1 (all c.loop-n.n)) in
          absurd cc),
    )

pub loop-n-preserved : goal.loop-n-preserved
loop-n-preserved c =
    below_more _ _ c.loop-n.invariant
    ((line_at IsShortLine c.args.lines.now c.loop-n.n c.index-lines-n.result c.loop-n-test.true
    c.index-lines-n.is).0 (c.is_short_line.ensures.0 c.if-not-is_short_line.false))

pub returns : goal.returns
returns c =
    let lines = lines_view c.args.lines.now in
    let all : c.loop-n.n ≡ length lines = omega (arith, length-map c.args.lines.now line_view) in (
      λ _. past_the_end IsShortLine no_line lines short_no_line
          (subst (λ (n : ℕ). (k : ℕ) → k < n → IsShortLine (at no_line lines k)) all c.loop-n.invariant),
      λ _. refl,
    )
