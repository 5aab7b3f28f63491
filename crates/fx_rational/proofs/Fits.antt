-- Whole numbers of 128 bits: the test, its two limits, and std's word for them.
use Rattle.std.proofs.Common.{◌≡◌, refl, arith, ◌^◌, pos, negsuc, ℤ, neg_ℤ, ◌≤ℤ◌, ◌<ℤ◌, int_le, int_lt, FitsSigned, Bool, true, false, ◌&&◌, IsTrue, Option, Some, None, SomeIff}
use Rattle.std.specs.Int.{w128}
use Rattle.std.proofs.lemmas.Int.{ints}
use Rattle.fx_rational.specs.Dyadic.{fits_128}
use Rattle.fx_rational.specs.DyadicLaws.{FitsLaw}

-- from -2^127 to 2^127 - 1
pub record In128 (z : ℤ) : Type 0 where
  pub low : neg_ℤ (pos (2 ^ 127)) ≤ℤ z
  pub high : z <ℤ pos (2 ^ 127)

-- the test tells the limits
pub in_128 : (z : ℤ) → IsTrue (fits_128 z) → In128 z
unfolding fits_128
in_128 z h = by (int_le (neg_ℤ (pos (2 ^ 127))) z) (int_lt z (pos (2 ^ 127))) refl refl h
  where
    by : (p q : Bool) → int_le (neg_ℤ (pos (2 ^ 127))) z ≡ p → int_lt z (pos (2 ^ 127)) ≡ q → IsTrue (p && q) → In128 z
    by true true d e h = record { low = omega (arith, ints); high = omega (arith, ints) }
    by true false d e h = absurd cc
    by false q d e h = absurd cc

-- and is true between them
pub fits_in : (z : ℤ) → In128 z → IsTrue (fits_128 z)
unfolding fits_128
fits_in z h =
    let p : int_le (neg_ℤ (pos (2 ^ 127))) z ≡ true = (let l = h.low in grind (arith, ints)) in
    let q : int_lt z (pos (2 ^ 127)) ≡ true = (let l = h.high in grind (arith, ints)) in
    rw (p, q) refl

-- the test is std's word
pub fits_is : FitsLaw
fits_is z = (λ h. signed z (in_128 z h), λ f. fits_in z (limits z f))
  where
    signed : (z : ℤ) → In128 z → FitsSigned w128 z
    signed (pos n) h = record { sfits = let l = h.high in omega (arith, ints) }
    signed (negsuc n) h = record { sfits = let l = h.low in omega (arith, ints) }

    limits : (z : ℤ) → FitsSigned w128 z → In128 z
    limits (pos n) f = let l = f.sfits in record { low = omega (arith, ints); high = omega (arith, ints) }
    limits (negsuc n) f = let l = f.sfits in record { low = omega (arith, ints); high = omega (arith, ints) }

-- so a call that promises by std's word promises by the test
pub some_fits : (r : Option ℤ) (z : ℤ) → SomeIff r (FitsSigned w128 z) z → SomeIff r (IsTrue (fits_128 z)) z
some_fits None z h = λ t. h ((fits_is z).0 t)
some_fits (Some x) z h = ((fits_is z).1 h.0, h.1)
