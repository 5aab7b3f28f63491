use Rattle.std.proofs.Common.{refl}
use Rattle.fx_formulas.proofs.Judged.{forms_number}
use Rattle.fx_formulas.proofs.formula.number.Goals as goal

pub returns : goal.returns
returns c = forms_number c.args.d c.args.d refl c.mantissa-m.ensures
