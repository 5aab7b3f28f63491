use Rattle.std.proofs.Common.{◌∙◌, ◌^◌, pos, ℤ, ◌*ℤ◌, FitsSigned, rules, ap, sym}
use Rattle.std.specs.Int.{w128}
use Rattle.fx_rational.specs.Dyadic.{fits_128}
use Rattle.fx_outward.proofs.Casts.{back}
use Rattle.fx_outward.proofs.Checks.{raised_some, raised_none}
use Rattle.fx_outward.proofs.exact.raised_word.Goals as goal

pub returns-in-Some : goal.returns-in-Some
returns-in-Some c =
    let z = ap (λ (y : ℤ). y *ℤ pos (2 ^ c.args.s)) (back c.ranges.w) in
    let f : FitsSigned w128 c.in-Some.m = search rules in
    raised_some c.new.result _ (c.args.w *ℤ pos (2 ^ c.args.s)) (ap fits_128 (sym z) ∙ c.in-Some.ensures.0) (back f
    ∙ c.in-Some.ensures.1 ∙ z) c.new.ensures

pub returns-in-None : goal.returns-in-None
returns-in-None c =
    let z = ap (λ (y : ℤ). y *ℤ pos (2 ^ c.args.s)) (back c.ranges.w) in
    raised_none (c.args.w *ℤ pos (2 ^ c.args.s)) (λ h. c.in-None.ensures (ap fits_128 z ∙ h))
