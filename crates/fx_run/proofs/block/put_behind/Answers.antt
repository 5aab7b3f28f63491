use Rattle.std.proofs.Common.{length, arith}
use Rattle.fx_run.proofs.Blocks.{first_row, put_in_range, row_behind}
use Rattle.fx_run.proofs.block.put_behind.Goals as goal

pub returns-then-filled-clause-rows : goal.returns-then-filled-clause-rows
returns-then-filled-clause-rows c =
    row_behind (length c.args.row.now) c.args.k c.args.rows.now c.put_at.new.rows c.args.row.now c.put_at.ensures.put
    (λ j lt. let within = c.requires.within in c.put_at.ensures.others j (omega arith) (λ e. absurd (omega arith)))

pub returns-then-filled-clause-in_range : goal.returns-then-filled-clause-in_range
returns-then-filled-clause-in_range c = λ is good was.
    put_in_range is (length c.args.row.now) c.args.k c.args.rows.now c.put_at.new.rows c.args.row.now good
    (was c.if-filled.true) c.put_at.ensures.put c.put_at.ensures.others

pub returns-else-filled-clause-rows : goal.returns-else-filled-clause-rows
returns-else-filled-clause-rows c =
    first_row (length c.args.row.now) c.args.k c.args.rows.now c.fill.new.rows c.args.row.now c.args.filled
    c.requires.within c.if-filled.false c.requires.filled c.fill.ensures.put
