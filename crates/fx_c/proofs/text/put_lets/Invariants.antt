use Rattle.std.proofs.Common.{◌≡◌, ◌++◌, take, map}
use Rattle.std.specs.List.{flat_map}
use Rattle.fx_program.specs.CodeView.{code_of}
use Rattle.fx_c99.specs.CText.{c_let_text}
use Rattle.fx_c99.specs.OfProgram.{c_lets_from}
use Rattle.fx_c.proofs.text.put_lets.Given as goal

abbrev pub invariant-loop-n : goal.invariant-loop-n
invariant-loop-n l =
    l.out.items ≡ l.fn.out.items
    ++ flat_map (c_let_text l.fn.width) (c_lets_from l.fn.width 0 l.fn.widths (map code_of (take l.n l.fn.codes)))
