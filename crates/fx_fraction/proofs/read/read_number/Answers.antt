use Rattle.std.proofs.Common.{◌∙◌, rules, tests}
use Rattle.fx_fraction.proofs.Numbers.{number_of_digits}
use Rattle.fx_fraction.proofs.read.read_number.Goals as goal

pub returns : goal.returns
returns c = c.read_natural.ensures ∙ number_of_digits c.args.digits.now (search (rules, tests))
