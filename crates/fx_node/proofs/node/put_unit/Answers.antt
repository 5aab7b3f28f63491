use Rattle.std.specs.Fmt.{decimal}
use Rattle.fx_model.specs.Machine.{output_points}
use Rattle.fx_model.specs.Page.{word_texts}
use Rattle.fx_machine.specs.Steps.{step_taken}
use Rattle.fx_node.proofs.Lines.{line_put, texts_some}
use Rattle.fx_node.proofs.node.put_unit.Goals as goal

pub returns : goal.returns
returns g c =
    let p = c.args.program.now in let ws = c.args.registers.now.words in
    line_put c.args.page.now c.put_number.new.page c.put_words.new.page (decimal c.args.unit)
    (word_texts (step_taken p ws).outputs (output_points p))
    (texts_some p ws c.keeps.ensures.lawful c.requires.words) c.put_number.ensures.written c.put_words.ensures.line
