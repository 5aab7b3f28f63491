use Rattle.std.proofs.Common.{◌≡◌, ◌-◌, ◌++◌}
use Rattle.fx_model.specs.LineText.{numbered_lines}
use Rattle.fx_c99.specs.CHeader.{input_group}
use Rattle.fx_c.proofs.header.put_inputs.Given as goal

-- what was appended, and the groups that are left, are all of them
abbrev pub invariant-loop-k : goal.invariant-loop-k
invariant-loop-k l =
    let group = input_group l.function l.program in let m = l.program.inputs in
    l.out.items ++ numbered_lines group l.k (m - l.k) ≡ l.fn.out.items ++ numbered_lines group 0 m
