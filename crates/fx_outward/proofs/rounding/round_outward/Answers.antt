use Rattle.std.proofs.Common.{◌∙◌, subst}
use Rattle.fx_formulas.specs.Judging.{FormsSpan}
use Rattle.fx_outward.proofs.Settled.{settled_some}
use Rattle.fx_outward.proofs.rounding.round_outward.Goals as goal

pub returns-in-Some : goal.returns-in-Some
returns-in-Some c = λ s forms. c.answer.ensures
    ∙ settled_some c.narrowed.result c.args.e c.in-Some.x s
    (subst (λ v. FormsSpan v s) c.in-Some.is forms) c.narrowed.ensures
