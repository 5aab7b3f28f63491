use Rattle.std.proofs.Common.{◌∙◌, [], sym}
use Rattle.fx_program.specs.CodeView.{code_of}
use Rattle.fx_model.specs.ProgramText.{instruction_name}
use Rattle.fx_bundle_commands.proofs.Shown.{at_twice}
use Rattle.fx_bundle_commands.proofs.table.name_in.Goals as goal

pub returns-in-Some : goal.returns-in-Some
returns-in-Some c = c.name.ensures
    ∙ sym (at_twice instruction_name code_of c.args.codes.now c.args.n [] c.in-Some.code.now
    c.in-Some.ensures.lookup.3.0 c.in-Some.ensures.lookup.1)
