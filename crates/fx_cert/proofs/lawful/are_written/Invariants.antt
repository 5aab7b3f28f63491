use Rattle.std.proofs.Common.{ℕ, ◌<◌}
use Rattle.fx_rational.specs.Dyadic.{IsWritten, zero_dyadic}
use Rattle.fx_model.specs.Tree.{at}
use Rattle.fx_cert.proofs.lawful.are_written.Given as goal

abbrev pub invariant-loop-j : goal.invariant-loop-j
invariant-loop-j l = (k : ℕ) → k < l.j → IsWritten (at zero_dyadic l.fn.coefs k)
