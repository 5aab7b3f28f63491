use Rattle.std.proofs.Common.{◌∙◌, ap}
use Rattle.std.proofs.lemmas.Result.{IfOk-weaker}
use Rattle.fx_command.specs.commands.Demo.{demo_line}
use Rattle.fx_command.proofs.commands.demo.line_of.Goals as goal

pub returns : goal.returns
returns c =
    IfOk-weaker c.demo_text.result _ _ (λ text line. record {
      certified = c.in_ok-certified.certified;
      last = c.in_ok-certified.last.items;
      shown = c.in_ok-certified.ensures;
      line_is = line ∙ ap (demo_line c.args.number c.in_ok-certified.certified) c.deref.ensures.value;
    }) c.demo_text.ensures
