use Rattle.std.proofs.Common.{◌∙◌, ◌-◌, ◌^◌, ◌<◌, ℕ, ℤ, pos, negsuc, min, ap, arith, FitsSigned, rules}
use Rattle.std.specs.Prelude.{unsigned_abs}
use Rattle.std.specs.Int.{w128, trailing_zeros}
use Rattle.std.proofs.lemmas.Int.{ints}
use Rattle.fx_rational.specs.Rational.{floor_div}
use Rattle.fx_rational.specs.Dyadic.{dyadic}
use Rattle.fx_outward.proofs.Casts.{back}
use Rattle.fx_outward.proofs.Trimmed.{trimmed}
use Rattle.fx_outward.proofs.grid.trim.Goals as goal

few : (z : ℤ) → FitsSigned w128 z → unsigned_abs z < 2 ^ 128
few (pos n) f = let b = f.sfits in omega (arith, ints, b)
few (negsuc n) f = let b = f.sfits in omega (arith, ints, b)

pub returns : goal.returns
returns c =
    let f : FitsSigned w128 c.floor_shift.result = search rules in
    let s = c.min-s.result in let m = back c.ranges.m in
    c.new.ensures ∙ ap (λ (z : ℤ). dyadic z (c.args.e - s)) (back f ∙ c.floor_shift.ensures
    ∙ ap (λ (z : ℤ). floor_div z (2 ^ s)) m)
    ∙ trimmed c.args.m s c.args.e (few c.args.m c.ranges.m) (c.min-s.ensures
    ∙ ap (λ (k : ℕ). min k c.args.e) (c.halvings.ensures ∙ ap (λ (z : ℤ). trailing_zeros w128 (unsigned_abs z)) m))
