use Rattle.std.proofs.Common.{◌≡◌, ◌+◌, ◌*◌, ◌^◌, ◌<◌, ◌≤◌}
use Rattle.fx_fraction.proofs.short.stripped.Given as goal

abbrev pub invariant-loop-front : goal.invariant-loop-front
invariant-loop-front l = record {
  value : l.size ≡ l.front * 10 ^ l.zeros;
  some : 0 < l.front;
  few : l.zeros + l.front ≤ l.size;
}

abbrev pub decreases-loop-front : goal.decreases-loop-front
decreases-loop-front l = l.front
