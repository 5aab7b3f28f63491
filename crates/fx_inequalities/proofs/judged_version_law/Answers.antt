use Rattle.std.proofs.Common.{refl}
use Rattle.fx_inequalities.proofs.judged_version_law.Goals as goal

pub returns : goal.returns
returns c = record { fault = λ rewrite fn p cert. refl; bound = λ p cert j. refl }
