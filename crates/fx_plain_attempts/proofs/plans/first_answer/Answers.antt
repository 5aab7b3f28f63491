use Rattle.std.proofs.Common.{sym, ◌∙◌}
use Rattle.fx_weight.specs.ObstacleView.{obstacle_view}
use Rattle.fx_plain_attempts.proofs.Promised.{calm_suits_first, plain_suits_first, view_of_none, view_of_some}
use Rattle.fx_plain_attempts.proofs.plans.first_answer.Goals as goal

pub returns-then-is_some : goal.returns-then-is_some
returns-then-is_some c =
    let a = c.in_ok-answer.ensures in
    let reason = view_of_some obstacle_view c.args.obstacle _ c.requires.obstacle (sym c.is_some.ensures
    ∙ c.if-is_some.true) in
    calm_suits_first c.args.wanted c.args.function.now c.in_ok-answer.answer reason.0 reason.1 a.answer a.bounded a.calm
    a.none

pub returns : goal.returns
returns c =
    let a = c.in_ok-certified.ensures in
    plain_suits_first c.args.wanted c.args.function.now c.in_ok-certified.certified
    (view_of_none obstacle_view c.args.obstacle _ c.requires.obstacle (sym c.is_some.ensures
    ∙ c.if-is_some.false)) a.answer a.bounded
