use Rattle.std.proofs.Common.{◌+◌, ◌≤◌, length}
use Rattle.std.specs.Prelude.{◌↔◌, IsTrue}
use Rattle.fx_expr.specs.SizeOf.{size_of}
use Rattle.fx_expr.specs.TreeOf.{tree}
use Rattle.fx_rewrite.proofs.Within.{low_is, small_is, within_low, not_within}
use Rattle.fx_rewrite.proofs.judge.fits.Goals as goal

pub returns-then-is_low : goal.returns-then-is_low
returns-then-is_low c place path new there depth less more =
    let low : IsTrue c.is_low.result ↔ (length path + (size_of new).height ≤ 200) =
    rw (← depth, ← more) c.is_low.ensures in
    let small : IsTrue c.is_small.result ↔
    (c.nodes.result + (size_of new).nodes ≤ 4000 + (size_of (tree c.args.old.now)).nodes) =
    rw (← less, ← more) c.is_small.ensures in
    within_low c.args.function.now place path new c.is_low.result c.is_small.result
    (low_is c.args.function.now place path (tree c.args.old.now) new c.is_low.result c.keeps.ensures there low)
    (small_is c.args.function.now place path
    (tree c.args.old.now) new c.nodes.result c.is_small.result c.keeps.ensures there c.nodes.ensures small)
    c.if-is_low.true

pub returns-else-is_low : goal.returns-else-is_low
returns-else-is_low c place path new there depth less more =
    let low : IsTrue c.is_low.result ↔ (length path + (size_of new).height ≤ 200) =
    rw (← depth, ← more) c.is_low.ensures in
    not_within c.args.function.now place path new c.is_low.result
    (low_is c.args.function.now place path (tree c.args.old.now) new c.is_low.result c.keeps.ensures there low)
    c.if-is_low.false
