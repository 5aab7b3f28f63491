use Rattle.std.proofs.Common.{ap}
use Rattle.fx_expr.specs.declared.size.Size.{Size}
use Rattle.fx_expr.proofs.Sizes.{first_temp}
use Rattle.fx_expr.proofs.count.+count_temps.Goals as goal

pub returns-in-len1-up : goal.returns-in-len1-up
returns-in-len1-up t c =
    first_temp c.args.temps.now c.first-item.result c.of-nodes.result.nodes c.count_temps.result c.saturating_add.result
    c.in-len1-up.len_at_least c.first-item.is
    (ap (λ (s : Size). s.nodes) c.of-nodes.ensures) c.count_temps.ensures c.saturating_add.ensures
