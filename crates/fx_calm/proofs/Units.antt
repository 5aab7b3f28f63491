-- Units in code: ceilings and shifts, and that what has a size is narrow.
use Rattle.std.proofs.Common.{◌≡◌, ℕ, suc, pred, ◌+◌, ◌-◌, ◌/◌, ◌^◌, ◌<◌, ℤ, pos, ap, arith}
use Rattle.std.proofs.lemmas.Int.{ints}
use Rattle.fx_rational.specs.Rational.{Rational, bottom, over, ceil_div}
use Rattle.fx_rational.proofs.Floors.{ceiling_is}
use Rattle.fx_rational.proofs.Lowest.{suc_pred}
use Rattle.fx_plan_laws.specs.Powers.{magnitude}
use Rattle.fx_plan_laws.specs.Narrow.{IsNarrowNumber}
use Rattle.fx_plan_laws.specs.Bounds.{shifted_up}

-- a whole number is its own ceiling
pub ceil_one : (z : ℤ) → ceil_div z 1 ≡ z
ceil_one z = let h = ceiling_is z 1 (omega arith) in let a = h.not_below in let b = h.least in omega (arith, ints, a, b)

-- a shift
pub shifted_code : (f n d : ℕ) → d ≡ 2 ^ f → (n + (d - 1)) / d ≡ shifted_up f n
unfolding shifted_up
shifted_code f n d e = ap (λ (k : ℕ). (n + (k - 1)) / k) e

-- what has a size is narrow
pub narrow_size : (t b : ℕ) (q : Rational) → 0 < b → b < 2 ^ 62 → over (pos t) b ≡ magnitude q → IsNarrowNumber q
unfolding over
narrow_size t b q some few e =
    let s = suc_pred b some in let g : suc (pred b) ≡ bottom q = ap bottom e in omega (arith, s, g, few)
