-- A dyadic and a fraction compared by one product.
use Rattle.std.proofs.Common.{◌≡◌, ℕ, ◌^◌, pos, ◌*ℤ◌, ◌≤ℤ◌, sym, subst}
use Rattle.std.specs.Prelude.{int_le}
use Rattle.std.specs.Cmp.{both_ways}
use Rattle.fx_rational.proofs.Order.{pow_above}
use Rattle.fx_rational.specs.Rational.{Rational, bottom, over, is_at_most, floor_div, ceil_div}
use Rattle.fx_rational.specs.Dyadic.{Dyadic, dyadic_value}
use Rattle.fx_rational.proofs.Floors.{le_floor, ceiling_le}
use Rattle.fx_rational.proofs.Dyadics.{power_bottom}
use Rattle.fx_fraction.proofs.Ranges.{le_true, true_le}

-- m / 2^e <= p / q exactly where the ceiling of m * q / 2^e is at most p
pub le_is : (d : Dyadic) (c : Rational) →
    int_le (ceil_div (d.m *ℤ pos (bottom c)) (2 ^ d.e)) c.top ≡ is_at_most (dyadic_value d) c
unfolding is_at_most dyadic_value over
le_is d c =
    let k = ceiling_le (d.m *ℤ pos (bottom c)) c.top (2 ^ d.e) (pow_above d.e) in
    both_ways _ _
    (λ t. le_true _ _ (subst (λ (n : ℕ). (d.m *ℤ pos (bottom c)) ≤ℤ (c.top *ℤ pos n)) (sym (power_bottom d.e))
    (k.0 (true_le _ _ t))))
    (λ t. le_true _ _ (k.1 (subst (λ (n : ℕ). (d.m *ℤ pos (bottom c)) ≤ℤ (c.top *ℤ pos n)) (power_bottom d.e)
    (true_le _ _ t))))

-- p / q <= m / 2^e exactly where p is at most the floor of m * q / 2^e
pub ge_is : (d : Dyadic) (c : Rational) →
    int_le c.top (floor_div (d.m *ℤ pos (bottom c)) (2 ^ d.e)) ≡ is_at_most c (dyadic_value d)
unfolding is_at_most dyadic_value over
ge_is d c =
    let k = le_floor c.top (d.m *ℤ pos (bottom c)) (2 ^ d.e) (pow_above d.e) in
    both_ways _ _
    (λ t. le_true _ _ (subst (λ (n : ℕ). (c.top *ℤ pos n) ≤ℤ (d.m *ℤ pos (bottom c))) (sym (power_bottom d.e))
    (k.0 (true_le _ _ t))))
    (λ t. le_true _ _ (k.1 (subst (λ (n : ℕ). (c.top *ℤ pos n) ≤ℤ (d.m *ℤ pos (bottom c))) (power_bottom d.e)
    (true_le _ _ t))))
