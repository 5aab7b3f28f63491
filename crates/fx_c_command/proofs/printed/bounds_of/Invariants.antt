use Rattle.std.proofs.Common.{◌≡◌, map}
use Rattle.std.specs.List.{range_with_len}
use Rattle.fx_inequalities.specs.Accepted.{bound_dyadic}
use Rattle.fx_c_command.proofs.printed.bounds_of.Given as goal

-- the bounds of the outputs so far
abbrev pub invariant-loop-j : goal.invariant-loop-j
invariant-loop-j l =
    l.bounds.items ≡ map (bound_dyadic l.fn.certified.program l.fn.certified.certificate) (range_with_len 0 l.j)
