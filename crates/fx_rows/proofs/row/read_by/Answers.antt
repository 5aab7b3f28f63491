use Rattle.std.proofs.Common.{Ok, true, sym, ◌∙◌}
use Rattle.fx_rows.proofs.InRange.{row_in_range}
use Rattle.fx_rows.proofs.Ranges.{as-many-ranges}
use Rattle.fx_rows.proofs.row.read_by.Goals as goal

pub returns-then-read_quick-clause-in_range : goal.returns-then-read_quick-clause-in_range
returns-then-read_quick-clause-in_range c = λ f ranges.
    row_in_range (Ok true) c.read_quick.new.row.items _ _ _ (c.args.columns.now.many
    ∙ sym (as-many-ranges _ _ ranges)) (c.read_quick.ensures.read c.if-read_quick.true _ ranges)

pub returns-then-read_one-clause-in_range : goal.returns-then-read_one-clause-in_range
returns-then-read_one-clause-in_range c = λ f ranges.
    row_in_range (Ok true) c.read_one.new.row.items _ _ _ (c.args.columns.now.many
    ∙ sym (as-many-ranges _ _ ranges)) (c.read_one.ensures.read c.if-read_one.true _ ranges)

pub returns-clause-in_range : goal.returns-clause-in_range
returns-clause-in_range c = λ f ranges.
    row_in_range c.read_line.result c.read_line.new.row.items _ _ _ (c.args.columns.now.many
    ∙ sym (as-many-ranges _ _ ranges)) (c.read_line.ensures.read _ ranges)
