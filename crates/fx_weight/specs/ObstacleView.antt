-- What contracts see of what keeps a function outside.
use Rattle.fx_weight.specs.PlainClass as model
use Rattle.fx_weight.specs.declared.class.Obstacle.{Obstacle}
use Rattle.fx_weight.specs.declared.class.Obstacle.TheVariants.{Node, Demand}

-- as the definition has it
abbrev pub obstacle_view : Obstacle → model.Obstacle
obstacle_view (Node node) = model.Node node
obstacle_view (Demand output) = model.Demand output
