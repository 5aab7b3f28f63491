use Rattle.fx_formulas.proofs.Judged.{interval_forms}
use Rattle.fx_formulas.proofs.formula.interval.Goals as goal

pub returns : goal.returns
returns c = interval_forms c.args.a c.narrow.ensures
