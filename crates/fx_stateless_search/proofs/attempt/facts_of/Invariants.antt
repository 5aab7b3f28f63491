-- There is a fact for each node so far.
use Rattle.std.proofs.Common.{◌≡◌, length}
use Rattle.fx_stateless_search.proofs.attempt.facts_of.Given as goal

abbrev pub invariant-loop-n : goal.invariant-loop-n
invariant-loop-n l = length l.facts.items ≡ l.n
