use Rattle.fx_rational.proofs.Laws.{plus_same, minus_same, times_same, negative_same}
use Rattle.fx_rational.proofs.Quotient.{quotient_same}
use Rattle.fx_rational.proofs.rational_laws.operations_law.Goals as goal

pub returns : goal.returns
returns c = record {
  sum = λ x y u v h k. plus_same h k;
  difference = λ x y u v h k. minus_same h k;
  product = λ x y u v h k. times_same h k;
  negation = λ x y h. negative_same h;
  quotient = quotient_same;
}
