use Rattle.std.proofs.Common.{◌≡◌, ◌-◌, ◌++◌}
use Rattle.fx_model.specs.LineText.{numbered_lines}
use Rattle.fx_demo.specs.Rows.{row_line}
use Rattle.fx_demo.proofs.rows.put_rows.Given as goal

-- what was appended, and the lines that are left, are all of them
abbrev pub invariant-loop-r : goal.invariant-loop-r
invariant-loop-r l =
    l.out.items ++ numbered_lines row_line l.r (1001 - l.r) ≡ l.fn.out.items ++ numbered_lines row_line 1 1000
