use Rattle.std.proofs.Common.{◌≡◌, ◌-◌, ◌++◌, length}
use Rattle.fx_model.specs.LineText.{numbered_lines}
use Rattle.fx_bundle_commands.specs.commands.Show.{shown_line}
use Rattle.fx_bundle_commands.proofs.table.put_codes.Given as goal

-- what was appended, and the lines that are left, are all of them
abbrev pub invariant-loop-n : goal.invariant-loop-n
invariant-loop-n l =
    let a = l.certified in let line = shown_line a.program a.certificate in let m = length a.program.codes in
    l.out.items ++ numbered_lines line l.n (m - l.n) ≡ l.fn.out.items ++ numbered_lines line 0 m
