use Rattle.std.proofs.Common.{◌≡◌, ◌⊎◌, ◌<◌, sym, arith}
use Rattle.fx_model.specs.Rules.{rule_count}
use Rattle.fx_rewrite.proofs.NoRule.{no_rule}
use Rattle.fx_rewrite.proofs.table.rule.Goals as goal

pub returns-in_default-2-clause-row : goal.returns-in_default-2-clause-row
returns-in_default-2-clause-row c =
    sym (no_rule c.args.number (let k : (c.args.number ≡ 0) ⊎ (rule_count < c.args.number) = grind arith in k))
