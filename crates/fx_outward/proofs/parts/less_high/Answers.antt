use Rattle.std.proofs.Common.{◌∙◌, ◌≤◌, ◌+◌, ◌-◌, ◌^◌, ℕ, ℤ, pos, ◌*ℤ◌, ◌+ℤ◌, ◌-ℤ◌, FitsSigned, rules, ap, ap₂, subst, arith}
use Rattle.std.specs.Int.{w128}
use Rattle.std.proofs.Math.Pow.{pow_mono}
use Rattle.fx_outward.specs.Grid.{lowest_dyadic}
use Rattle.fx_outward.specs.Wide.{IsEnd}
use Rattle.fx_outward.proofs.Casts.{back}
use Rattle.fx_outward.proofs.LongDivision.{less_one}
use Rattle.fx_outward.proofs.parts.less_high.Goals as goal

pub enough : (k : ℕ) → 256 ≤ 2 ^ (k + 8)
enough k = let h : 8 ≤ k + 8 = omega arith in let p : 2 ^ 8 ≤ 2 ^ (k + 8) = pow_mono h in omega (arith, p)

pub overflow_sub-more : goal.overflow_sub-more
overflow_sub-more c = let e = c.two_to-more.ensures.value in let p = enough c.args.k in omega (arith, e, p)

pub returns : goal.returns
returns c =
    let e = c.args.k + 8 in
    let fw : FitsSigned w128 c.less_power.result = search rules in
    let w = back fw ∙ c.less_power.ensures ∙ ap (λ (z : ℤ). z -ℤ pos 1) (back c.ranges.w) in
    let p = c.two_to-more.ensures.value in
    subst (IsEnd c.assembled-2.result)
    (ap₂ (λ (z : ℤ) (n : ℕ). lowest_dyadic (z *ℤ pos (2 ^ e) +ℤ pos (c.args.f + (n - 256))) e) w p
    ∙ ap (λ (z : ℤ). lowest_dyadic z e) (less_one c.args.w c.args.f (2 ^ e) (enough c.args.k)))
    c.assembled-2.ensures
