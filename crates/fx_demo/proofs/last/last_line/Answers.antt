use Rattle.std.proofs.Common.{arith}
use Rattle.fx_demo.proofs.Feeds.{last-line-of, no-feed-before}
use Rattle.fx_demo.proofs.last.last_line.Goals as goal

pub returns-in_err-before-clause-none : goal.returns-in_err-before-clause-none
returns-in_err-before-clause-none c = λ _.
    let e = c.in_ok-end.ensures in
    no-feed-before c.args.page.now c.in_ok-end.end e.0.high (omega (arith, c.if-end-page.false)) c.in_err-before.ensures

pub returns-clause-line : goal.returns-clause-line
returns-clause-line c =
    last-line-of c.args.page.now c.in_ok-end.end c.in_ok-before.before c.in_ok-end.ensures
    (omega (arith, c.if-end-page.false)) c.in_ok-before.ensures
