use Rattle.fx_rational.proofs.Fits.{fits_is}
use Rattle.fx_rational.proofs.dyadic_laws.fits_law.Goals as goal

pub returns : goal.returns
returns c = fits_is
