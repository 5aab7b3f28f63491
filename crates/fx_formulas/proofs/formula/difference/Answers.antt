use Rattle.std.proofs.Common.{subst}
use Rattle.fx_formulas.specs.Judging.{Forms}
use Rattle.fx_formulas.proofs.Judged.{difference_forms}
use Rattle.fx_formulas.proofs.formula.difference.Goals as goal

pub returns-in-Some-b : goal.returns-in-Some-b
returns-in-Some-b c =
    λ f g h k. difference_forms c.dsub.result c.in-Some.x c.in-Some-b.y f g c.dsub.ensures
    (subst (λ o. Forms o f) c.in-Some.is h) (subst (λ o. Forms o g) c.in-Some-b.is k)
