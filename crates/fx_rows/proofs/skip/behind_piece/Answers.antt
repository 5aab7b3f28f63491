use Rattle.fx_rows.proofs.Passed.{pieces_behind, special_behind, pieces_last, special_last}
use Rattle.fx_rows.proofs.skip.behind_piece.Goals as goal

pub returns-then-end-text-clause-pieces : goal.returns-then-end-text-clause-pieces
returns-then-end-text-clause-pieces c = pieces_behind c.args.text.now c.args.end c.requires c.if-end-text.true

pub returns-then-end-text-clause-special : goal.returns-then-end-text-clause-special
returns-then-end-text-clause-special c = special_behind c.args.text.now c.args.end c.requires c.if-end-text.true

pub returns-else-end-text-clause-pieces : goal.returns-else-end-text-clause-pieces
returns-else-end-text-clause-pieces c = pieces_last c.args.text.now c.args.end c.requires c.if-end-text.false

pub returns-else-end-text-clause-special : goal.returns-else-end-text-clause-special
returns-else-end-text-clause-special c = special_last c.args.text.now c.args.end c.requires c.if-end-text.false
