use Rattle.std.proofs.Common.{take}
use Rattle.std.specs.Prelude.{All}
use Rattle.fx_program.specs.CodeView.{round_of, code_of}
use Rattle.fx_program.specs.Rounding.{RoundsBy}
use Rattle.fx_program.proofs.rounding.all_round_by.Given as goal

-- those so far do
abbrev pub invariant-loop-i : goal.invariant-loop-i
invariant-loop-i l = All (λ code. RoundsBy (round_of l.fn.round) l.fn.width (code_of code)) (take l.i l.fn.codes)
