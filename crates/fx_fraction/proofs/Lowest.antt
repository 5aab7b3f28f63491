-- A fraction that is kept is in lowest terms.
use Rattle.std.proofs.Common.{◌≡◌, suc, pred, ℤ, pos, negsuc, sym, subst, arith}
use Rattle.std.specs.Prelude.{unsigned_abs}
use Rattle.std.specs.Int.{IsGcd}
use Rattle.std.proofs.lemmas.Int.{ints}
use Rattle.fx_rational.specs.Rational.{Rational, lowest}
use Rattle.fx_rational.proofs.Laws.{equal_refl}
use Rattle.fx_rational.proofs.Lowest.{lowest_is, suc_pred}
use Rattle.fx_fraction.specs.Fractions.{IsFraction}

abbrev pub fraction : ℤ → ℤ → Rational
fraction p q = record { top = p; less = pred (unsigned_abs q) }

pub reduced_is : (p q : ℤ) → IsFraction p q → fraction p q ≡ lowest (fraction p q)
reduced_is p (pos n) h =
    let some : suc (pred n) ≡ n = let a = h.above in suc_pred n (omega (arith, ints)) in
    lowest_is.only (fraction p (pos n)) (fraction p (pos n)) (equal_refl _)
    (record { above = omega arith; coprime = subst (λ k. IsGcd (unsigned_abs p) k 1) (sym some) h.coprime })
reduced_is p (negsuc n) h = absurd (let a = h.above in omega (arith, ints))
