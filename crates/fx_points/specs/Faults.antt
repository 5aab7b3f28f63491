-- What is known where no points are chosen.
use Rattle.std.specs.Prelude.{◌<◌, ℕ}
use Rattle.fx_points.specs.declared.fault.PointFault.{PointFault}
use Rattle.fx_points.specs.declared.fault.PointFault.TheVariants.{NoPoint, Memory}

-- the node that is blamed is one of so many
abbrev pub BlamesOneOf : ℕ → PointFault → Type 0
BlamesOneOf count (NoPoint n) = n < count
BlamesOneOf count Memory = Unit {0}
