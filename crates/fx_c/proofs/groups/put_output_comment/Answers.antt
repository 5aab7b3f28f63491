use Rattle.std.proofs.Common.{codes}
use Rattle.fx_c.proofs.HeaderPieces.{commented}
use Rattle.fx_c.proofs.groups.put_output_comment.Goals as goal

pub returns : goal.returns
returns c =
    commented (codes "output") c.args.j
    (codes ": for inputs in range at most BOUND / 2^BOUND_POINT from the exact value */\n") c.args.out.now.items
    c.put_element.new.out.items c.put.new.out.items c.in_ok-put_element.ensures c.in_ok-put.ensures
