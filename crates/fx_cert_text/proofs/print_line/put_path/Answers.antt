use Rattle.std.proofs.Common.{arith, tests}
use Rattle.fx_cert_text.proofs.Printed.{path_text}
use Rattle.fx_cert_text.proofs.print_line.put_path.Goals as goal

pub returns-else-is_empty : goal.returns-else-is_empty
returns-else-is_empty c =
    rw (path_text c.args.path.now
    (grind (arith, tests, c.is_empty.ensures, c.if-is_empty.false))) c.put_some_turns.ensures
