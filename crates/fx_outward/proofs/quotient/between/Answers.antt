use Rattle.std.proofs.Common.{◌∙◌, ◌<◌, ◌^◌, subst, ℕ}
use Rattle.fx_outward.specs.Narrowed.{IsIfSmall}
use Rattle.fx_outward.proofs.Ratios.{fraction_answer}
use Rattle.fx_outward.proofs.quotient.between.Goals as goal

pub returns : goal.returns
returns c = λ x y p q.
    let lo = c.down_fraction.ensures in let hi = c.up_fraction.ensures in
    c.answer.ensures ∙ fraction_answer c.keep-kept.result c.args.e c.args.lo c.args.hi x y p q
    (subst (λ (k : ℕ). k < 2 ^ 62) c.denominator-p.ensures.value c.denominator-p.ensures.small)
    (subst (λ (k : ℕ). k < 2 ^ 62) c.denominator-q.ensures.value c.denominator-q.ensures.small)
    (subst (IsIfSmall c.keep-kept.result) (λ i. record { lo = lo i; hi = hi i }) c.keep-kept.ensures)
