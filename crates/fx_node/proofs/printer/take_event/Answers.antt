use Rattle.std.proofs.Common.{ap, ◌∙◌}
use Rattle.fx_checker.specs.CertifiedView.{Accepted}
use Rattle.fx_node.specs.Steps.{node_columns}
use Rattle.fx_node.proofs.Taken.{event_taken, printed_line}
use Rattle.fx_node.proofs.printer.take_event.Goals as goal

pub returns-in-Ok-Some-clause-taken : goal.returns-in-Ok-Some-clause-taken
returns-in-Ok-Some-clause-taken g c =
    let function = c.function.ensures ∙ ap (λ (a : Accepted). a.function) c.certified.ensures in (
      printed_line c.turn.new.self c.in-Ok-Some.unit,
      c.put_line.ensures,
      event_taken c.args.node.now c.turn.new.self
          (node_columns c.args.reader.now) c.function.result.now c.args.units c.in-Ok-Some.unit
          c.read_event.new.row.items c.deref.result.now c.args.line.now
          function c.requires.units c.deref.ensures.value
          (rw c.in-Ok-Some.field-0-is at c.in-Ok-Some.ensures.below) c.turn.ensures.turned
          (λ more. rw c.in-Ok-Some.field-0-is at c.in-Ok-Some.ensures.event more),
    )
