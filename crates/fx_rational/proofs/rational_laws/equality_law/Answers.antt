use Rattle.fx_rational.proofs.Laws.{equal_refl, equal_sym, equal_trans}
use Rattle.fx_rational.proofs.rational_laws.equality_law.Goals as goal

pub returns : goal.returns
returns c = record {
  reflexive = equal_refl;
  symmetric = λ x y h. equal_sym h;
  transitive = λ x y z h k. equal_trans h k;
}
