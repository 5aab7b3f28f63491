use Rattle.fx_expr.proofs.Places.{temp_at, result_at, nothing_at}
use Rattle.fx_expr.proofs.trees.tree_in.Goals as goal

pub returns-then-place-count : goal.returns-then-place-count
returns-then-place-count c =
    temp_at c.args.temps.now c.args.results.now c.args.place c.index-temps-place.result c.if-place-count.true

pub returns-then-place-count-2 : goal.returns-then-place-count-2
returns-then-place-count-2 c =
    result_at c.args.temps.now c.args.results.now c.args.place c.index-results-place.result c.if-place-count.false
    c.if-place-count-2.true c.index-results-place.is

pub returns-else-place-count-2 : goal.returns-else-place-count-2
returns-else-place-count-2 c =
    nothing_at c.args.temps.now c.args.results.now c.args.place c.if-place-count.false c.if-place-count-2.false
