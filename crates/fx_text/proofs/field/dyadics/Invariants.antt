use Rattle.std.proofs.Common.{◌≡◌, ◌-◌, All}
use Rattle.fx_rational.specs.Dyadic.{IsWritten}
use Rattle.fx_text.specs.Many.{dyadics_at, with_front}
use Rattle.fx_text.proofs.field.dyadics.Given as goal

abbrev pub invariant-loop : goal.invariant-loop
invariant-loop l = record {
  so_far : with_front l.found.items (dyadics_at (l.count - l.counter) l.fields) ≡ dyadics_at l.count l.fn.fields;
  written : All IsWritten l.found.items;
}
