use Rattle.fx_rational.proofs.Laws.{equal_sym, plus_le, minus_le}
use Rattle.fx_rational.proofs.Quotient.{above_not, quotient_back}
use Rattle.fx_rational.proofs.Intervals.{product_low, product_high, quotient_between, between_same}
use Rattle.fx_rational.proofs.rational_laws.interval_law.Goals as goal

pub returns : goal.returns
returns c = record {
  sum = λ a b c d x y h k. record { low = plus_le h.low k.low; high = plus_le h.high k.high };
  difference = λ a b c d x y h k. record { low = minus_le h.low k.high; high = minus_le h.high k.low };
  product = λ a b c d lo hi x y h k e. record {
    low = product_low h.low h.high k.low k.high e.ac.low e.ad.low e.bc.low e.bd.low;
    high = product_high h.low h.high k.low k.high e.ac.high e.ad.high e.bc.high e.bd.high;
  };
  quotient = λ a b c d lo hi x y z h k is apart p q r s.
      quotient_between (above_not apart) (between_same (equal_sym (quotient_back x y z is)) h) k p q r s;
}
