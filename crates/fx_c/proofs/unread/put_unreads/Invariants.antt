use Rattle.std.proofs.Common.{◌≡◌, ℕ, List, ◌++◌, take, map}
use Rattle.fx_program.specs.CodeView.{code_of}
use Rattle.fx_c99.specs.CText.{unreads_text}
use Rattle.fx_c99.specs.OfProgram.{c_lets_from}
use Rattle.fx_c.proofs.unread.put_unreads.Given as goal

abbrev pub invariant-loop-name : goal.invariant-loop-name
invariant-loop-name l = (n : ℕ) (ns : List ℕ) → l.out.items ≡ l.fn.out.items
    ++ unreads_text (c_lets_from n 0 ns (map code_of l.fn.codes)) l.fn.first
    (c_lets_from n 0 ns (map code_of (take l.name l.fn.codes)))
