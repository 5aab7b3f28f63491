use Rattle.std.proofs.Common.{◌≡◌, ◌/◌, ◌^◌, ◌<◌, pos, ℕ, ap, sym, refl, subst, ◌∙◌, arith}
use Rattle.std.specs.Prelude.{unsigned_abs, int_lt}
use Rattle.std.specs.Int.{IsGcd, w128}
use Rattle.std.proofs.lemmas.Int.{to_z-of_z}
use Rattle.fx_rational.specs.Rational.{over, bottom, lowest}
use Rattle.fx_rational.proofs.Lowest.{gcd_above, parts_apart, part_some}
use Rattle.fx_fraction.proofs.Terms.{top_over, bottom_over, made_is}
use Rattle.fx_fraction.proofs.fraction.reduced.Goals as goal

pub nonzero_div-top : goal.nonzero_div-top
nonzero_div-top c = gcd_above _ c.args.q c.gcd-divisor.result c.requires c.gcd-divisor.ensures

pub nonzero_div-bottom : goal.nonzero_div-bottom
nonzero_div-bottom c = gcd_above _ c.args.q c.gcd-divisor.result c.requires c.gcd-divisor.ensures

pub made-requires-clause-above : goal.made-requires-clause-above
made-requires-clause-above c = part_some c.args.q c.gcd-divisor.result c.requires c.gcd-divisor.ensures.1

pub made-requires-clause-coprime : goal.made-requires-clause-coprime
made-requires-clause-coprime c =
    parts_apart _ c.args.q c.gcd-divisor.result
    (gcd_above _ c.args.q c.gcd-divisor.result c.requires c.gcd-divisor.ensures) c.gcd-divisor.ensures

pub returns-then-top : goal.returns-then-top
returns-then-top c = λ fits.
    let fp = c.ranges.p in
    let k : c.unsigned_abs-size.result ≡ unsigned_abs c.args.p = simp to_z-of_z at c.unsigned_abs-size.ensures.value in
    let e : unsigned_abs (lowest (over c.args.p c.args.q)).top ≡ c.unsigned_abs-size.result / c.gcd-divisor.result =
    top_over c.args.p c.args.q c.gcd-divisor.result c.requires
    (subst (λ (n : ℕ). IsGcd n c.args.q c.gcd-divisor.result) k c.gcd-divisor.ensures)
    ∙ ap (λ (n : ℕ). n / c.gcd-divisor.result) (sym k) in
    let t : unsigned_abs (lowest (over c.args.p c.args.q)).top < 2 ^ 62 = fits.top in
    omega (arith, e, t)

pub returns-then-bottom : goal.returns-then-bottom
returns-then-bottom c = λ fits.
    let fp = c.ranges.p in
    let k : c.unsigned_abs-size.result ≡ unsigned_abs c.args.p = simp to_z-of_z at c.unsigned_abs-size.ensures.value in
    let e : bottom (lowest (over c.args.p c.args.q)) ≡ c.args.q / c.gcd-divisor.result =
    bottom_over c.args.p c.args.q c.gcd-divisor.result c.requires
    (subst (λ (n : ℕ). IsGcd n c.args.q c.gcd-divisor.result) k c.gcd-divisor.ensures) in
    let t : bottom (lowest (over c.args.p c.args.q)) < 2 ^ 62 = fits.bottom in
    omega (arith, e, t)

pub returns : goal.returns
returns c =
    let fp = c.ranges.p in
    let k : c.unsigned_abs-size.result ≡ unsigned_abs c.args.p = simp to_z-of_z at c.unsigned_abs-size.ensures.value in
    made_is c.args.p c.args.q c.gcd-divisor.result (c.unsigned_abs-size.result / c.gcd-divisor.result)
    (c.args.q / c.gcd-divisor.result) _ c.made.result c.requires
    (subst (λ (n : ℕ). IsGcd n c.args.q c.gcd-divisor.result) k c.gcd-divisor.ensures)
    (ap (λ z. int_lt z (pos 0)) (to_z-of_z w128 c.args.p fp)) (ap (λ (n : ℕ). n / c.gcd-divisor.result) k) refl
    (omega arith) (omega arith) c.made.ensures
