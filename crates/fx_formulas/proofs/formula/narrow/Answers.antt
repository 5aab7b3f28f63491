use Rattle.std.proofs.Common.{subst}
use Rattle.fx_formulas.specs.Judging.{IsNarrowInterval}
use Rattle.fx_formulas.proofs.Judged.{both_again}
use Rattle.fx_formulas.proofs.formula.narrow.Goals as goal

pub returns : goal.returns
returns c = subst IsNarrowInterval c.value.view_is (both_again _ _ c.mantissa-lo.ensures c.mantissa-hi.ensures)
