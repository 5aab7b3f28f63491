use Rattle.std.specs.Prelude.{codes}
use Rattle.fx_model.specs.Page.{names_from}
use Rattle.fx_node.proofs.Lines.{line_put, names_some}
use Rattle.fx_node.proofs.node.put_names.Goals as goal

pub returns : goal.returns
returns c =
    let p = c.args.program.now in
    line_put c.args.page.now c.put.new.self c.put_header.new.page (codes "unit") (names_from 1 p.outputs)
    (names_some p c.keeps.ensures.lawful) c.put.ensures c.put_header.ensures
