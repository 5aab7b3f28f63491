use Rattle.std.proofs.Common.{◌+◌, ◌-◌}
use Rattle.fx_model.specs.Rules.{rule_count}
use Rattle.fx_rewrite.proofs.first.+first_rule.Given as goal

abbrev pub decreases-first_rule : goal.decreases-first_rule
decreases-first_rule l = rule_count + 1 - l.from
