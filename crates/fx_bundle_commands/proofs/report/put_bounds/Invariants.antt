use Rattle.std.proofs.Common.{◌≡◌, ◌≤◌, ◌-◌, ℕ, List, ◌++◌}
use Rattle.std.specs.Io.KnownBytes.{Appends}
use Rattle.fx_bundle_commands.specs.commands.Check.{bound_lines}
use Rattle.fx_bundle_commands.proofs.report.put_bounds.Given as goal

-- what was sent, and the lines that are left, are all of them
abbrev pub invariant-loop-j : goal.invariant-loop-j
invariant-loop-j g l =
    let a = l.fn.certified in
    (sent : List ℕ) × Appends (g.K.Sink.seen l.initial.sink).taken (g.K.Sink.seen l.sink).taken sent ×
    (bound_lines a.program a.certificate 0 a.program.outputs ≡ sent
    ++ bound_lines a.program a.certificate l.j (a.program.outputs - l.j)) ×
    ((g.K.Sink.seen l.initial.sink).faults ≤ (g.K.Sink.seen l.sink).faults)
