use Rattle.fx_expr.specs.TreeOf.{tree}
use Rattle.fx_rewrite.specs.Refusals.{IsAdmitted}
use Rattle.fx_rewrite.proofs.Firsts.{rule_is_there, rule_is_not}
use Rattle.fx_rewrite.proofs.first.+first_rule.Goals as goal

pub returns-in-Ok : goal.returns-in-Ok
returns-in-Ok t c place path there depth =
    let a : IsAdmitted c.args.function.now (record { place = place; path = path; rule = c.args.from })
    (tree c.args.old.now) _ _ = c.in-Ok.ensures place path there depth in
    rule_is_there c.args.function.now place path c.args.from _ c.if-from-gt-LAST_RULE.false a.is

pub returns-in-Err : goal.returns-in-Err
returns-in-Err t c place path there depth =
    rule_is_not c.args.function.now place path c.args.from c.first_rule.result c.if-from-gt-LAST_RULE.false
    (c.in-Err.ensures place path there depth).1 (c.first_rule.ensures place path there depth)
