use Rattle.std.proofs.Common.{◌≡◌, length, map, arith, sym, subst, ◌∙◌}
use Rattle.std.proofs.lemmas.List.{length-map}
use Rattle.fx_rational.specs.Decimal.{decimal_value}
use Rattle.fx_model.specs.LawfulProgram.{IsLawfulProgram}
use Rattle.fx_rules.specs.Steps.{rewrite}
use Rattle.fx_checker.proofs.Ready.{inputs_are, row_length}
use Rattle.fx_run.proofs.held.row_counts.Goals as goal

pub returns-clause-value : goal.returns-clause-value
returns-clause-value c =
    let a = c.args.certified.now in
    sym (length-map c.args.row.now decimal_value)
    ∙ row_length a.function.inputs (map decimal_value c.args.row.now) c.requires
    ∙ sym (inputs_are rewrite a.function a.program a.certificate c.certified.ensures.certified)

pub returns-clause-few : goal.returns-clause-few
returns-clause-few c =
    let a = c.args.certified.now in
    let lawful = subst IsLawfulProgram c.program.ensures c.keeps.ensures.lawful in
    let same : length c.args.row.now ≡ a.program.inputs = sym (length-map c.args.row.now decimal_value)
    ∙ row_length a.function.inputs (map decimal_value c.args.row.now) c.requires
    ∙ sym (inputs_are rewrite a.function a.program a.certificate c.certified.ensures.certified) in
    omega (arith, lawful.counts.inputs)
