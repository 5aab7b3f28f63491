use Rattle.std.proofs.Common.{ap}
use Rattle.fx_expr.specs.declared.size.Size.{Size}
use Rattle.fx_expr.proofs.Sizes.{first_result}
use Rattle.fx_expr.proofs.count.+count_results.Goals as goal

pub returns-in-len1-up : goal.returns-in-len1-up
returns-in-len1-up t c =
    first_result c.args.results.now c.first-item.result c.of.result.nodes c.saturating_add-nodes.result
    c.count_results.result c.saturating_add.result c.in-len1-up.len_at_least c.first-item.is
    (ap (λ (s : Size). s.nodes) c.of.ensures) c.saturating_add-nodes.ensures c.count_results.ensures
    c.saturating_add.ensures
