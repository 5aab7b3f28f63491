use Rattle.std.proofs.Common.{ap}
use Rattle.fx_arguments.specs.Command.{texts}
use Rattle.fx_ends.specs.EndView.{end_of}
use Rattle.fx_c_command.specs.Words.{request_of}
use Rattle.fx_c_command.proofs.Behaving.{behaves, printing_as}
use Rattle.fx_c_command.proofs.call.fixd_c.Goals as goal

pub returns : goal.returns
returns g c =
    behaves c.bundle_text_law.ensures.again _ _ _ (g.N.Sink.seen c.args.notes.now) (g.N.Sink.seen c.finish.new.notes)
    (end_of c.print_asked-end.result) c.finish.result
    (printing_as (ap (λ ws. request_of (texts ws)) c.as_slice.ensures.value) c.print_asked-end.ensures)
    c.finish.ensures.status c.finish.ensures.line
