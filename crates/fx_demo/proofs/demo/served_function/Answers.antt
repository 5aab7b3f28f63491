use Rattle.std.proofs.Common.{◌≡◌, ◌∙◌, ap, sym, refl, arith, false, Option, Some, None}
use Rattle.std.specs.Prelude.{is_some}
use Rattle.std.specs.Option.{option_map}
use Rattle.fx_weight.specs.ObstacleView.{obstacle_view}
use Rattle.fx_weight.specs.declared.class.Obstacle.{Obstacle}
use Rattle.fx_demo.proofs.demo.served_function.Goals as goal

none_of : (o : Option Obstacle) → is_some o ≡ false → o ≡ None
none_of None e = refl
none_of (Some x) e = absurd cc

pub find_obstacle-requires : goal.find_obstacle-requires
find_obstacle-requires c = (3, omega arith, refl)

pub returns-clause-served : goal.returns-clause-served
returns-clause-served c =
    sym c.in_ok-obstacle.ensures.obstacle
    ∙ ap (option_map obstacle_view) (none_of c.in_ok-obstacle.obstacle (let i = c.is_some.ensures in
    let f = c.if-is_some.false in cc))
