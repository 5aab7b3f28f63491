use Rattle.std.proofs.Common.{◌≡◌, ◌-◌, ◌+◌, ◌++◌}
use Rattle.fx_model.specs.LineText.{numbered_lines}
use Rattle.fx_demo.specs.Source.{temp_line}
use Rattle.fx_demo.proofs.source.put_temps.Given as goal

-- what was appended, and the lines that are left, are all of them
abbrev pub invariant-loop-i : goal.invariant-loop-i
invariant-loop-i l =
    l.out.items ++ numbered_lines temp_line l.i (l.n + 1 - l.i) ≡ l.fn.out.items ++ numbered_lines temp_line 1 l.n
