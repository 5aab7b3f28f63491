use Rattle.std.proofs.Common.{◌∙◌}
use Rattle.fx_program.specs.CodeView.{round_of}
use Rattle.fx_weight.proofs.Planned.{each, operands, literals, count, planned, program_is, program_lawful, certificate_is}
use Rattle.fx_weight.proofs.plan.plan_of.Goals as goal

pub put_codes-requires-clause-each : goal.put_codes-requires-clause-each
put_codes-requires-clause-each c =
    let a = c.args in let r = c.requires in
    each a.width a.function.now r.width c.keeps.ensures r.modest a.nodes.now a.ws.now r.nodes r.weights

pub put_codes-requires-clause-operands : goal.put_codes-requires-clause-operands
put_codes-requires-clause-operands c =
    let a = c.args in let r = c.requires in
    operands a.width a.function.now r.width c.keeps.ensures r.modest a.nodes.now a.ws.now r.nodes r.weights

pub put_codes-requires-clause-literals : goal.put_codes-requires-clause-literals
put_codes-requires-clause-literals c =
    let a = c.args in let r = c.requires in
    literals a.width a.function.now r.width c.keeps.ensures r.modest a.nodes.now a.ws.now r.nodes r.weights

pub put_lines-requires-clause-count : goal.put_lines-requires-clause-count
put_lines-requires-clause-count c =
    let a = c.args in let r = c.requires in
    count a.width a.function.now r.width c.keeps.ensures r.modest a.nodes.now a.ws.now r.nodes r.weights

pub program_for-requires : goal.program_for-requires
program_for-requires c =
    let a = c.args in let r = c.requires in
    program_lawful a.width a.function.now r.width c.keeps.ensures r.modest a.nodes.now a.ws.now r.nodes r.weights
    (round_of a.round) c.in_ok-codes.codes.items c.in_ok-codes.ensures
    (planned a.width a.function.now r.width c.keeps.ensures r.modest a.nodes.now a.ws.now r.nodes r.weights
    (round_of a.round) c.narrow_inputs.ensures r.narrow)

pub returns-clause-program : goal.returns-clause-program
returns-clause-program c =
    let a = c.args in let r = c.requires in
    c.in_ok-program.ensures
    ∙ program_is a.width a.function.now r.width c.keeps.ensures r.modest a.nodes.now a.ws.now r.nodes r.weights
    (round_of a.round) c.in_ok-codes.codes.items c.in_ok-codes.ensures

pub returns-clause-certificate : goal.returns-clause-certificate
returns-clause-certificate c =
    let a = c.args in let r = c.requires in
    c.stateless-certificate.ensures
    ∙ certificate_is a.width a.function.now r.width c.keeps.ensures r.modest a.nodes.now a.ws.now r.nodes r.weights
    c.input_count.result c.in_ok-lines.lines.items c.input_count.ensures c.in_ok-lines.ensures

pub returns-clause-plan : goal.returns-clause-plan
returns-clause-plan c =
    let a = c.args in let r = c.requires in
    planned a.width a.function.now r.width c.keeps.ensures r.modest a.nodes.now a.ws.now r.nodes r.weights
    (round_of a.round) c.narrow_inputs.ensures r.narrow
