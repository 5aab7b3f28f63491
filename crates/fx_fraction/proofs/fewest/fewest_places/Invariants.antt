use Rattle.std.proofs.Common.{◌≡◌, ◌≤◌}
use Rattle.fx_fraction.specs.DecimalOf.{trimmed}
use Rattle.fx_fraction.proofs.fewest.fewest_places.Given as goal

abbrev pub invariant-loop-left : goal.invariant-loop-left
invariant-loop-left l = record {
  value : trimmed l.front l.left ≡ trimmed l.size l.places;
  few : l.left ≤ 18;
}

abbrev pub decreases-loop-left : goal.decreases-loop-left
decreases-loop-left l = l.left
