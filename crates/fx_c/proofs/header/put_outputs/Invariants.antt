use Rattle.std.proofs.Common.{◌≡◌, ◌-◌, ◌++◌}
use Rattle.fx_model.specs.LineText.{numbered_lines}
use Rattle.fx_c99.specs.CHeader.{output_group}
use Rattle.fx_c.proofs.header.put_outputs.Given as goal

-- what was appended, and the groups that are left, are all of them
abbrev pub invariant-loop-j : goal.invariant-loop-j
invariant-loop-j l =
    let group = output_group l.program l.bounds in let m = l.program.outputs in
    l.out.items ++ numbered_lines group l.j (m - l.j) ≡ l.fn.out.items ++ numbered_lines group 0 m
