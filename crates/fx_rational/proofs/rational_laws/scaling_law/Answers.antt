use Rattle.fx_rational.proofs.Powers.{scaled_is, scaled_down}
use Rattle.fx_rational.proofs.rational_laws.scaling_law.Goals as goal

pub returns : goal.returns
returns c = record {
  up = scaled_is;
  down = scaled_down;
}
