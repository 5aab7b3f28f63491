use Rattle.std.proofs.Common.{◌≡◌, ◌<◌, ◌+◌, ◌*◌, ◌^◌}
use Rattle.fx_outward.proofs.wide.places.Given as goal

abbrev pub invariant-loop-i : goal.invariant-loop-i
invariant-loop-i l = record {
  sum : l.fn.r * 2 ^ l.i ≡ l.f * l.fn.d + l.left;
  less : l.left < l.fn.d;
  small : l.f < 2 ^ l.i;
}
