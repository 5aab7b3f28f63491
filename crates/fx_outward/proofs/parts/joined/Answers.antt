use Rattle.std.proofs.Common.{◌≡◌, ◌≤◌, ◌<◌, ◌+◌, ◌*◌, ◌^◌, ◌-◌, ℕ, subst, sym, arith}
use Rattle.std.proofs.Math.Pow.{pow_mono}
use Rattle.fx_outward.proofs.LongDivision.{joined_few}
use Rattle.fx_outward.proofs.parts.joined.Goals as goal

small : {h l s e p : ℕ} → h < 2 ^ (e - s) → l < 2 ^ s → s ≤ e → e ≤ 126 → p ≡ 2 ^ s →
    (h * p + l < 2 ^ e) × (2 ^ e ≤ 2 ^ 126)
small {h} {l} {s} {e} {p} a b c d is =
    let few : 2 ^ e ≤ 2 ^ 126 = pow_mono d in
    (subst (λ (k : ℕ). h * k + l < 2 ^ e) (sym is) (joined_few h l s e a b c), few)

pub overflow_mul-result : goal.overflow_mul-result
overflow_mul-result c =
    let q = small c.requires.high c.requires.low c.requires.fits c.requires.few c.two_to.ensures.value in
    let a = q.0 in let b = q.1 in record { fits = omega (arith, a, b) }

pub overflow_add-result : goal.overflow_add-result
overflow_add-result c =
    let q = small c.requires.high c.requires.low c.requires.fits c.requires.few c.two_to.ensures.value in
    let a = q.0 in let b = q.1 in record { fits = omega (arith, a, b) }

pub returns-clause-few : goal.returns-clause-few
returns-clause-few c =
    (small c.requires.high c.requires.low c.requires.fits c.requires.few c.two_to.ensures.value).0
