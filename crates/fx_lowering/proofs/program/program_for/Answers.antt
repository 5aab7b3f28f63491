use Rattle.std.proofs.Common.{sym, subst, length, map}
use Rattle.fx_model.proofs.Widths.{width_of}
use Rattle.fx_program.specs.CodeView.{code_of}
use Rattle.fx_program.specs.Points.{AreNear}
use Rattle.fx_program.proofs.Lists.{all_near}
use Rattle.fx_lowering.proofs.program.program_for.Goals as goal

pub code_points-requires-clause-near : goal.code_points-requires-clause-near
code_points-requires-clause-near c =
    let a = c.args in let h = c.requires in let w = width_of a.width h.width in
    subst (λ cs. AreNear 0 (map code_of cs)) (sym c.deref.ensures.value)
    (all_near a.width (length a.function.now.inputs) (length a.function.now.states) 0 (map code_of a.codes.items)
    (record { least = w.least; most = w.most }) h.codes)
