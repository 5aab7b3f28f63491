use Rattle.fx_rational.proofs.ErrorIdentities.{product_error_identity, centred_product, quotient_error_identity}
use Rattle.fx_rational.proofs.rational_laws.error_law.Goals as goal

pub returns : goal.returns
returns c = record {
  product = product_error_identity;
  centred = centred_product;
  quotient = quotient_error_identity;
}
