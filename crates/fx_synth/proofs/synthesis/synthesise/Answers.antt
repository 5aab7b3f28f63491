use Rattle.std.proofs.Common.{◌∙◌, sym, ap, subst, take}
use Rattle.std.specs.Option.{option_map}
use Rattle.fx_rules.specs.SingleSteps.{single_steps}
use Rattle.fx_weight.specs.ObstacleView.{obstacle_view}
use Rattle.fx_plain_attempts.specs.Turns.{IsBestAfter}
use Rattle.fx_synth.proofs.Found.{found, not_found}
use Rattle.fx_synth.proofs.synthesis.synthesise.Goals as goal

pub returns-in-Some-clause-found : goal.returns-in-Some-clause-found
returns-in-Some-clause-found c =
    let w = c.args.wanted in let fn = c.args.function.now in
    found w fn c.in-Some.certified
    (subst (IsBestAfter w fn (take w.tries (single_steps fn))) c.in-Some.is c.in_ok-certified.ensures)

pub returns-in-Some-obstacle-clause-not_found : goal.returns-in-Some-obstacle-clause-not_found
returns-in-Some-obstacle-clause-not_found c =
    let w = c.args.wanted in let fn = c.args.function.now in
    not_found w fn (obstacle_view c.in-Some-obstacle.obstacle)
    (subst (IsBestAfter w fn (take w.tries (single_steps fn))) c.in-None.is c.in_ok-certified.ensures)
    (sym c.in_ok-obstacle.ensures.obstacle ∙ ap (option_map obstacle_view) c.in-Some-obstacle.is)
