use Rattle.fx_rational.proofs.Quotient.{quotient_none, quotient_none_where, quotient_back, zero_top}
use Rattle.fx_rational.proofs.rational_laws.quotient_law.Goals as goal

pub returns : goal.returns
returns c = record {
  none = λ x y. (quotient_none_where x y, λ h. quotient_none x y (zero_top y h));
  back = quotient_back;
}
