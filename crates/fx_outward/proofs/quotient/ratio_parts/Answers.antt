use Rattle.std.proofs.Common.{◌∙◌, ◌<◌, ◌^◌, ◌*ℤ◌, pos, subst, sym, ap, ap₂, ℕ, ℤ, FitsSigned, rules}
use Rattle.std.specs.Prelude.{unsigned_abs}
use Rattle.std.specs.Int.{w128}
use Rattle.fx_outward.proofs.Casts.{back}
use Rattle.fx_outward.proofs.Ratios.{bottom_some}
use Rattle.fx_outward.proofs.quotient.ratio_parts.Goals as goal

pub returns-clause-some : goal.returns-clause-some
returns-clause-some c =
    let f : FitsSigned w128 c.left-bottom.result = search rules in
    let g : FitsSigned w128 c.small_mantissa-bm.result = search rules in
    let e = c.unsigned_abs.ensures.value
    ∙ ap unsigned_abs (back f ∙ c.left-bottom.ensures.value
    ∙ ap₂ (λ (z : ℤ) (k : ℕ). z *ℤ pos (2 ^ k)) (back g
    ∙ c.small_mantissa-bm.ensures.value) c.exponent-ae.ensures.value) in
    subst (λ (k : ℕ). 0 < k) (sym e) (bottom_some c.args.b c.args.a.e c.requires.above).1
