use Rattle.std.proofs.Common.{subst}
use Rattle.fx_model.specs.LawfulProgram.{IsLawfulProgram}
use Rattle.fx_model.proofs.Widths.{width_of}
use Rattle.fx_run.proofs.run.width_law.Goals as goal

pub returns-clause-least : goal.returns-clause-least
returns-clause-least c =
    let lawful = subst IsLawfulProgram c.program.ensures c.keeps.ensures.lawful in
    (width_of c.args.certified.now.program.width lawful.width).least

pub returns-clause-most : goal.returns-clause-most
returns-clause-most c =
    let lawful = subst IsLawfulProgram c.program.ensures c.keeps.ensures.lawful in
    (width_of c.args.certified.now.program.width lawful.width).most
