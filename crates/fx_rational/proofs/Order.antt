-- More of the order of ℤ, by certificates.
use Rattle.std.proofs.Common.{ℕ, ◌^◌, refl, arith, pos, ℤ, ◌*ℤ◌, ◌≤ℤ◌, ◌<ℤ◌, [], ◌∷◌}
use Rattle.std.proofs.lemmas.Int.{ints, by_lt_z}
use Rattle.std.proofs.lemmas.Nat.{pow_pos}
use Rattle.fx_rational.proofs.Integers.{le_by_certificate, mul_nonneg, difference_nonneg, one_above}
use Rattle.fx_rational.proofs.Quote.{by_quotes, quotes}

pub mul_le_right : {a b c : ℤ} → a ≤ℤ b → pos 0 ≤ℤ c → (a *ℤ c) ≤ℤ (b *ℤ c)
mul_le_right {a} {b} {c} h k =
    le_by_certificate one_above (mul_nonneg (difference_nonneg h) k)
    (by_quotes {ρ = a ∷ b ∷ c ∷ []} (search quotes depth 20) (search quotes depth 20) refl)

pub le_of_mul : {a b c : ℤ} → pos 0 <ℤ c → (a *ℤ c) ≤ℤ (b *ℤ c) → a ≤ℤ b
le_of_mul {a} {b} {c} h k =
    le_by_certificate h (difference_nonneg k)
    (by_quotes {ρ = a ∷ b ∷ c ∷ []} (search quotes depth 20) (search quotes depth 20) refl)

pub lt_of_mul : {a b c : ℤ} → pos 0 ≤ℤ c → (a *ℤ c) <ℤ (b *ℤ c) → a <ℤ b
lt_of_mul {a} {b} {c} h k = by_lt_z a b (λ l. l) (λ l. absurd (let p = mul_le_right l h in omega (arith, ints)))

pub pow_above : (e : ℕ) → pos 0 <ℤ pos (2 ^ e)
pow_above e = let p = pow_pos e in omega (arith, ints)
