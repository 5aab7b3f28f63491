use Rattle.std.proofs.Common.{ap, ◌∙◌}
use Rattle.std.specs.Option.{option_and_then}
use Rattle.fx_model.specs.Paths.{subtree}
use Rattle.fx_rewrite.specs.Ahead.{rules_from}
use Rattle.fx_rewrite.proofs.Firsts.{nothing_found}
use Rattle.fx_rewrite.proofs.first.first_at.Goals as goal

pub returns-in_default : goal.returns-in_default
returns-in_default c place at =
    nothing_found c.args.function.now place c.args.path.now (rules_from c.args.from)
    (ap (option_and_then (subtree c.args.path.now)) at ∙ c.in_default.ensures)
