use Rattle.std.proofs.Common.{Some, ap, sym, ◌∙◌}
use Rattle.fx_rewrite.specs.FoldedAs.{folded_as}
use Rattle.fx_rewrite.proofs.Folds.{kept_literal}
use Rattle.fx_rewrite.proofs.fold.opposite.Goals as goal

pub returns : goal.returns
returns c =
    sym (kept_literal c.v.inside.p c.v.inside.q c.fneg-v.result c.v.invariant c.v.view_is)
    ∙ ap (λ q. folded_as (Some q)) c.fneg-v.ensures
