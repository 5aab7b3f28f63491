use Rattle.std.proofs.Common.{sym, ◌∙◌}
use Rattle.fx_inequalities.specs.Rewriting.{Rewriting}
use Rattle.fx_expr.specs.TreeOf.{tree}
use Rattle.fx_rewrite.specs.FoundOf.{found_of}
use Rattle.fx_rewrite.specs.Matching.{new_of}
use Rattle.fx_rewrite.proofs.Judged.{unmatched, overlong, overfull, admitted}
use Rattle.fx_rewrite.proofs.judge.admit.Goals as goal

pub returns-in-NoMatch : goal.returns-in-NoMatch
returns-in-NoMatch c place path there depth =
    let s : Rewriting = record { place = place; path = path; rule = c.args.rule } in
    unmatched c.args.function.now s (tree c.args.old.now) there c.in-NoMatch.ensures

pub returns-in-TooLong : goal.returns-in-TooLong
returns-in-TooLong c place path there depth =
    let s : Rewriting = record { place = place; path = path; rule = c.args.rule } in
    overlong c.args.function.now s (tree c.args.old.now) there c.in-TooLong.ensures

pub returns-then-fits : goal.returns-then-fits
returns-then-fits c place path there depth =
    let s : Rewriting = record { place = place; path = path; rule = c.args.rule } in
    let m = c.in-Matches.m in
    admitted c.args.function.now s (tree c.args.old.now) (found_of c.judge.new.found) m there c.in-Matches.ensures
    (sym c.if-fits.true
    ∙ c.fits.ensures place path (new_of (found_of c.judge.new.found) m) there depth c.in-Matches.ensures.less
    c.in-Matches.ensures.more)

pub returns-else-fits : goal.returns-else-fits
returns-else-fits c place path there depth =
    let s : Rewriting = record { place = place; path = path; rule = c.args.rule } in
    let m = c.in-Matches.m in
    overfull c.args.function.now s (tree c.args.old.now) (found_of c.judge.new.found) m there c.in-Matches.ensures
    (sym c.if-fits.false
    ∙ c.fits.ensures place path (new_of (found_of c.judge.new.found) m) there depth c.in-Matches.ensures.less
    c.in-Matches.ensures.more)
