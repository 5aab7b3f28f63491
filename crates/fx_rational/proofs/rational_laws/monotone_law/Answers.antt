use Rattle.fx_rational.proofs.Laws.{plus_le, minus_le, negative_le, times_le}
use Rattle.fx_rational.proofs.rational_laws.monotone_law.Goals as goal

pub returns : goal.returns
returns c = record {
  sum = λ x y u v h k. plus_le h k;
  difference = λ x y u v h k. minus_le h k;
  negation = λ x y h. negative_le h;
  product = λ x y z h k. times_le h k;
}
