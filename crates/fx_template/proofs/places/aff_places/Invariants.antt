use Rattle.std.proofs.Common.{◌≤◌}
use Rattle.fx_template.proofs.Short.{AreShortBefore}
use Rattle.fx_template.proofs.places.aff_places.Given as goal

abbrev pub invariant-loop-j : goal.invariant-loop-j
invariant-loop-j l = record {
  coefs : AreShortBefore l.most l.j l.fn.a.coefs;
  lo : l.fn.a.rest.lo.e ≤ l.most;
  hi : l.fn.a.rest.hi.e ≤ l.most;
}
