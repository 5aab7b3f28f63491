use Rattle.std.proofs.Common.{◌≡◌, take, map}
use Rattle.std.specs.List.{list_any}
use Rattle.fx_program.specs.CodeView.{code_of}
use Rattle.fx_c99.specs.OfProgram.{c_lets_from}
use Rattle.fx_c.specs.Choices.{passes}
use Rattle.fx_c.proofs.text.any_passes.Given as goal

abbrev pub invariant-loop-n : goal.invariant-loop-n
invariant-loop-n l = l.found ≡ list_any (passes l.fn.test l.fn.width)
    (c_lets_from l.fn.width 0 l.fn.widths (map code_of (take l.n l.fn.codes)))
