use Rattle.std.proofs.Common.{sym, ◌∙◌}
use Rattle.fx_rows.proofs.PlainLines.{plain_text_line, special_line}
use Rattle.fx_rows.proofs.line.plain_text.Goals as goal

pub returns-then-is_plain-clause-fields : goal.returns-then-is_plain-clause-fields
returns-then-is_plain-clause-fields c =
    plain_text_line c.args.line.now c.unmarked-text.result.now c.unmarked-text.ensures c.requires
    (sym c.is_plain.ensures ∙ c.if-is_plain.true)

pub returns-else-is_plain-clause-none : goal.returns-else-is_plain-clause-none
returns-else-is_plain-clause-none c =
    special_line c.args.line.now c.unmarked-text.result.now c.unmarked-text.ensures (sym c.is_plain.ensures
    ∙ c.if-is_plain.false)
