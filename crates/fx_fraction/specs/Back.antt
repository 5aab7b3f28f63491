-- A fraction's two numbers follow from its value.
use Rattle.std.specs.Prelude.{◌≡◌, zero, suc, pred, ℤ, pos, negsuc, ◌≤ℤ◌, refl}
use Rattle.std.specs.Int.RustNames.{unsigned_abs}
use Rattle.fx_fraction.specs.Fractions.{IsFraction}
use Rattle.fx_fraction.specs.declared.fraction.Fraction.TheInside.{Inside}

-- a denominator above zero is its own size
back : (p q : ℤ) → (pos 1 ≤ℤ q) →
    (let made : Inside = record { p = p; q = pos (suc (pred (unsigned_abs q))) } in made ≡ record { p = p; q = q })
back p (pos zero) h = absurd h.le
back p (pos (suc n)) h = refl
back p (negsuc n) h = absurd h.le

pub fraction_back : (c : Inside) → IsFraction c.p c.q →
    (let made : Inside = record { p = c.p; q = pos (suc (pred (unsigned_abs c.q))) } in made ≡ c)
fraction_back c h = back c.p c.q h.above
