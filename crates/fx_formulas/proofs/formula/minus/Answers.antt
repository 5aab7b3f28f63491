use Rattle.std.proofs.Common.{subst}
use Rattle.fx_formulas.specs.Judging.{FormsSpan}
use Rattle.fx_formulas.proofs.Judged.{minus_forms}
use Rattle.fx_formulas.proofs.formula.minus.Goals as goal

pub returns-in-Some-b : goal.returns-in-Some-b
returns-in-Some-b c =
    λ s t h k. minus_forms c.isub.result c.in-Some.x c.in-Some-b.y s t c.isub.ensures
    (subst (λ o. FormsSpan o s) c.in-Some.is h) (subst (λ o. FormsSpan o t) c.in-Some-b.is k)
