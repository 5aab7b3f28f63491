use Rattle.fx_rational.proofs.Laws.{le_of_equal, le_trans, le_antisym, le_total}
use Rattle.fx_rational.proofs.Tests.{at_most_test}
use Rattle.fx_rational.proofs.rational_laws.order_law.Goals as goal

pub returns : goal.returns
returns c = record {
  reflexive = λ x y h. le_of_equal h;
  transitive = λ x y z h k. le_trans h k;
  antisymmetric = λ x y h k. le_antisym h k;
  total = le_total;
  test = at_most_test;
}
