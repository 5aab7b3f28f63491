use Rattle.std.proofs.Common.{◌-◌, drop, ap, ◌∙◌}
use Rattle.fx_rows.specs.Line.{pieces}
use Rattle.fx_rows.proofs.Cuts.{drop-further}
use Rattle.fx_rows.proofs.pieces.left_behind.Goals as goal

pub returns-else-place-column : goal.returns-else-place-column
returns-else-place-column c =
    c.skip_pieces-else-place-column.ensures ∙ ap (drop (c.args.place - c.args.column)) c.requires
    ∙ drop-further (pieces c.args.text.now) c.args.column c.args.place c.if-place-column.false
