use Rattle.std.proofs.Common.{◌≡◌, pos, sym, rules, tests}
use Rattle.fx_rewrite.proofs.Folds.{no_ratio}
use Rattle.fx_rewrite.proofs.fold.ratio.Goals as goal

pub returns-then-k-eq0 : goal.returns-then-k-eq0
returns-then-k-eq0 c =
    let z : c.k.inside.p ≡ pos 0 = search (rules, tests) in sym (no_ratio c.args.l c.args.k _ c.k.view_is z)
