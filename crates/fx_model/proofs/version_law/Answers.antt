use Rattle.std.proofs.Common.{refl}
use Rattle.fx_model.proofs.Versions.{second_lawful}
use Rattle.fx_model.proofs.version_law.Goals as goal

pub returns : goal.returns
returns c = record { run = λ p rows. refl; lawful = second_lawful }
