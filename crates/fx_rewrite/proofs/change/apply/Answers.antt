use Rattle.std.proofs.Common.{Some, sym, ap, ◌∙◌}
use Rattle.fx_model.specs.Function.{Function}
use Rattle.fx_expr.specs.TreeOf.{tree}
use Rattle.fx_step.specs.StepView.{step_view}
use Rattle.fx_rewrite.specs.Prepared.{IsPrepared}
use Rattle.fx_rewrite.proofs.Applied.{out_lawful, out_there, out_nodes, in_is, back_lawful}
use Rattle.fx_rewrite.proofs.change.apply.Goals as goal

pub replace-old-requires-clause-lawful : goal.replace-old-requires-clause-lawful
replace-old-requires-clause-lawful c =
    out_lawful c.args.function.now (step_view c.args.step.now) (tree c.in_ok-begun.begun) c.in_ok-begun.m c.keeps.ensures
    c.in_ok-begun.ensures c.as_slice-path.result.now c.as_slice-path.ensures

pub replace-requires-clause-there : goal.replace-requires-clause-there
replace-requires-clause-there c =
    out_there c.args.function.now (step_view c.args.step.now) (tree c.in_ok-begun.begun) c.in_ok-begun.m c.keeps.ensures
    c.in_ok-begun.ensures c.as_slice-path.result.now c.as_slice-path.ensures
    c.replace-old.new.self c.replace-old.ensures.function

pub replace-requires-clause-less : goal.replace-requires-clause-less
replace-requires-clause-less c =
    out_nodes c.args.function.now (step_view c.args.step.now) (tree c.in_ok-begun.begun) c.in_ok-begun.m c.keeps.ensures
    c.in_ok-begun.ensures c.as_slice-path.result.now c.as_slice-path.ensures
    c.replace-old.new.self c.replace-old.ensures.function

pub replace-requires-clause-lawful : goal.replace-requires-clause-lawful
replace-requires-clause-lawful c =
    back_lawful c.args.function.now (step_view c.args.step.now) (tree c.in_ok-begun.begun) c.in_ok-begun.m
    c.keeps.ensures c.in_ok-begun.ensures c.as_slice-path.result.now c.as_slice-path.ensures
    c.replace-old.new.self c.replace-old.ensures.function (tree c.replace-old.result) (tree c.finish-new.result)
    c.replace-old.ensures.old c.finish-new.ensures

pub returns-clause-rewritten : goal.returns-clause-rewritten
returns-clause-rewritten c =
    let p : IsPrepared c.args.function.now (step_view c.args.step.now) (tree c.in_ok-begun.begun) c.in_ok-begun.m =
    c.in_ok-begun.ensures in
    let same =
    in_is c.args.function.now (step_view c.args.step.now) (tree c.in_ok-begun.begun) c.in_ok-begun.m c.keeps.ensures
    p c.as_slice-path.result.now c.as_slice-path.ensures
    c.replace-old.new.self c.replace-old.ensures.function (tree c.replace-old.result) (tree c.finish-new.result)
    c.replace-old.ensures.old c.finish-new.ensures in
    p.is ∙ ap (λ (f : Function). Some f) (sym (c.replace.ensures.function ∙ same))
