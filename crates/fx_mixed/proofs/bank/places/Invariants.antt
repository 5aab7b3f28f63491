use Rattle.std.proofs.Common.{◌≡◌, ℕ, ◌<◌, length}
use Rattle.fx_model.specs.Tree.{at}
use Rattle.fx_mixed.specs.Packed.{place_of}
use Rattle.fx_mixed.proofs.bank.places.Given as goal

abbrev pub invariant-loop-k : goal.invariant-loop-k
invariant-loop-k l = record {
  counted : length l.places.items ≡ l.k;
  places : (k : ℕ) → k < l.k → at 0 l.places.items k ≡ place_of l.lengths k;
  next : l.place ≡ place_of l.lengths l.k;
}
