-- Intervals with dyadic ends, and their exact operations. No order of the ends is asked for.
use Rattle.std.specs.Prelude.{ℕ, Bool, ◌&&◌}
use Rattle.fx_rational.specs.Dyadic.{Dyadic, IsWritten, dyadic_sum, dyadic_difference, dyadic_product, sum_fits, difference_fits, product_fits, is_dyadic_at_most, least, greatest, rounded_down, rounded_up}

-- from lo to hi; no order is asked for
pub record Interval : Type 0 where
  pub lo : Dyadic
  pub hi : Dyadic

-- what a text can spell
abbrev pub IsWrittenInterval : Interval → Type 0
IsWrittenInterval i = IsWritten i.lo × IsWritten i.hi

-- ends are added
unfoldable pub interval_sum : Interval → Interval → Interval
interval_sum a b = record { lo = dyadic_sum a.lo b.lo; hi = dyadic_sum a.hi b.hi }

-- each end less the other end
unfoldable pub interval_difference : Interval → Interval → Interval
interval_difference a b = record { lo = dyadic_difference a.lo b.hi; hi = dyadic_difference a.hi b.lo }

-- the least and the greatest of the ends' products in the order lo lo, lo hi, hi lo, hi hi: of equal ones the first
unfoldable pub interval_product : Interval → Interval → Interval
interval_product a b =
    let ll = dyadic_product a.lo b.lo in let lh = dyadic_product a.lo b.hi in let hl = dyadic_product a.hi b.lo in
    let hh = dyadic_product a.hi b.hi in
    record { lo = least (least ll lh) (least hl hh); hi = greatest (greatest ll lh) (greatest hl hh) }

-- each mantissa of a sum fits
unfoldable pub interval_sum_fits : Interval → Interval → Bool
interval_sum_fits a b = sum_fits a.lo b.lo && sum_fits a.hi b.hi

-- of a difference
unfoldable pub interval_difference_fits : Interval → Interval → Bool
interval_difference_fits a b = difference_fits a.lo b.hi && difference_fits a.hi b.lo

-- of the four products of ends
unfoldable pub interval_product_fits : Interval → Interval → Bool
interval_product_fits a b =
    product_fits a.lo b.lo && product_fits a.lo b.hi && product_fits a.hi b.lo && product_fits a.hi b.hi

-- a lies in b
unfoldable pub is_inside : Interval → Interval → Bool
is_inside a b = is_dyadic_at_most b.lo a.lo && is_dyadic_at_most a.hi b.hi

-- the narrowest interval round a whose ends have exponents of at most e
unfoldable pub outward_to : Interval → ℕ → Interval
outward_to a e = record { lo = rounded_down a.lo e; hi = rounded_up a.hi e }
