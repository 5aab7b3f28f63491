-- Shifts to the left that stay within 126 bits.
use Rattle.std.proofs.Common.{◌≡◌, ℕ, ◌-◌, ◌^◌, ◌<◌, ◌≤◌, true, ℤ, pos, negsuc, ◌*ℤ◌, arith}
use Rattle.std.specs.Prelude.{unsigned_abs}
use Rattle.std.proofs.Math.Pow.{pow_mono}
use Rattle.std.proofs.lemmas.Int.{ints, unsigned_abs-mul}
use Rattle.std.proofs.lemmas.Nat.{mul-le}
use Rattle.fx_rational.specs.Dyadic.{fits_128}
use Rattle.fx_rational.proofs.Fits.{fits_in}

pub left_small : (p : ℤ) (s : ℕ) → unsigned_abs p < 2 ^ 62 → s ≤ 64 → unsigned_abs (p *ℤ pos (2 ^ s)) < 2 ^ 126
left_small p s h l =
    let e = unsigned_abs-mul p (pos (2 ^ s)) in let q : 2 ^ s ≤ 2 ^ 64 = pow_mono l in
    let m = mul-le (unsigned_abs p) (2 ^ s) (2 ^ 62 - 1) (2 ^ 64) (omega (arith, h)) q in
    omega (arith, e, m)

pub sized_fits : (z : ℤ) → unsigned_abs z < 2 ^ 127 → fits_128 z ≡ true
sized_fits (pos n) l = fits_in (pos n) (record { low = omega (arith, ints); high = omega (arith, ints, l) })
sized_fits (negsuc n) l = fits_in (negsuc n) (record { low = omega (arith, ints, l); high = omega (arith, ints) })

pub small_fits : (z : ℤ) → unsigned_abs z < 2 ^ 126 → fits_128 z ≡ true
small_fits z l = sized_fits z (omega (arith, l))
