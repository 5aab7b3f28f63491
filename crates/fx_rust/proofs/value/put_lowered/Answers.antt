use Rattle.fx_program.specs.CodeView.{round_of}
use Rattle.fx_statements.specs.Statements.{Widened}
use Rattle.fx_rust.proofs.Appended.{between}
use Rattle.fx_rust.proofs.value.put_lowered.Goals as goal

pub returns : goal.returns
returns c =
    between (round_of c.args.r)
    (Widened c.args.a) c.args.s c.args.out.now.items c.open_rounded.new.out.items c.put_widened.new.out.items
    c.close_rounded.new.out.items c.in_ok-open_rounded.ensures c.in_ok-put_widened.ensures c.in_ok-close_rounded.ensures
