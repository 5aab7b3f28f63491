-- How many places sums, differences and products have, and the dyadics that short formulas come to.
use Rattle.std.proofs.Common.{ℕ, ◌+◌, ◌≤◌, max, Bool, true, false, if◌then◌else◌, arith}
use Rattle.fx_rational.specs.Dyadic.{Dyadic, dyadic_sum, dyadic_difference, dyadic_product, least, greatest, aligned, is_dyadic_at_most}
use Rattle.fx_rational.proofs.Dyadics.{dyadic_exponent}
use Rattle.std.specs.Prelude.{◌+ℤ◌, ◌-ℤ◌, ◌*ℤ◌}
use Rattle.fx_inequalities.specs.Formula.{Formula, Num, Sum, Difference, Product, Least, Greatest, formed, Span, point, zero_span, span_sum, span_difference, span_product}
use Rattle.fx_formulas.specs.Places.{most_places, IsShort, IsShortSpan}

picked : (t : Bool) (a b : Dyadic) (m n : ℕ) → a.e ≤ m → b.e ≤ n → (if t then a else b).e ≤ max m n
picked true a b m n h k = omega arith
picked false a b m n h k = omega arith

-- its dyadic has no more places
pub formed_places : (f : Formula) → (formed f).e ≤ most_places f
unfolding formed dyadic_sum dyadic_difference dyadic_product least greatest
formed_places (Num d) = omega arith
formed_places (Sum a b) =
    let e = max (formed a).e (formed b).e in let h = dyadic_exponent (aligned (formed a) e +ℤ aligned (formed b) e) e in
    omega (arith, formed_places a, formed_places b, h)
formed_places (Difference a b) =
    let e = max (formed a).e (formed b).e in let h = dyadic_exponent (aligned (formed a) e -ℤ aligned (formed b) e) e in
    omega (arith, formed_places a, formed_places b, h)
formed_places (Product a b) =
    let h = dyadic_exponent ((formed a).m *ℤ (formed b).m) ((formed a).e + (formed b).e) in
    omega (arith, formed_places a, formed_places b, h)
formed_places (Least a b) =
    picked (is_dyadic_at_most (formed a) (formed b)) (formed a) (formed b) (most_places a) (most_places b)
    (formed_places a) (formed_places b)
formed_places (Greatest a b) =
    picked (is_dyadic_at_most (formed b) (formed a)) (formed a) (formed b) (most_places a) (most_places b)
    (formed_places a) (formed_places b)

-- ---- numbers
pub short_sum : {n : ℕ} {f g : Formula} → IsShort n f → IsShort n g → IsShort n (Sum f g)
short_sum h k = let a = h.few in let b = k.few in record { few = omega arith }

pub short_difference : {n : ℕ} {f g : Formula} → IsShort n f → IsShort n g → IsShort n (Difference f g)
short_difference h k = let a = h.few in let b = k.few in record { few = omega arith }

pub short_product : {m n : ℕ} {f g : Formula} → IsShort m f → IsShort n g → IsShort (m + n) (Product f g)
short_product h k = let a = h.few in let b = k.few in record { few = omega arith }

pub short_within : {m : ℕ} {f : Formula} (n : ℕ) → m ≤ n → IsShort m f → IsShort n f
short_within n le h = let a = h.few in record { few = omega arith }

-- ---- spans
pub short_span_sum : {n : ℕ} {s t : Span} → IsShortSpan n s → IsShortSpan n t → IsShortSpan n (span_sum s t)
short_span_sum h k = record { lo = short_sum h.lo k.lo; hi = short_sum h.hi k.hi }

pub short_span_difference : {n : ℕ} {s t : Span} → IsShortSpan n s → IsShortSpan n t →
    IsShortSpan n (span_difference s t)
short_span_difference h k = record { lo = short_difference h.lo k.hi; hi = short_difference h.hi k.lo }

pub short_span_product : {m n : ℕ} {s t : Span} → IsShortSpan m s → IsShortSpan n t →
    IsShortSpan (m + n) (span_product s t)
short_span_product h k =
    let a = h.lo.few in let b = h.hi.few in let c = k.lo.few in let d = k.hi.few in
    record { lo = record { few = omega arith }; hi = record { few = omega arith } }

pub short_point : {n : ℕ} {f : Formula} → IsShort n f → IsShortSpan n (point f)
short_point h = record { lo = h; hi = h }

pub short_zero : (n : ℕ) → IsShortSpan n zero_span
short_zero n = short_point (record { few = omega arith })

pub shorter_span : {m : ℕ} {s : Span} (n : ℕ) → m ≤ n → IsShortSpan m s → IsShortSpan n s
shorter_span n le h = record { lo = short_within n le h.lo; hi = short_within n le h.hi }
