use Rattle.fx_rational.proofs.Floors.{floor_floors, floor-greatest}
use Rattle.fx_rational.proofs.rational_laws.floor_law.Goals as goal

pub returns : goal.returns
returns c = record {
  not_above = λ x. (floor_floors x).low;
  greatest = floor-greatest;
}
