use Rattle.std.proofs.Common.{◌+◌, arith}
use Rattle.fx_rows.specs.Line.{pieces, pieces_left}
use Rattle.fx_rows.proofs.Cuts.{first_there, none_there, one_further, none_further}
use Rattle.fx_rows.proofs.pieces.piece_from.Goals as goal

pub returns-in-Some-clause-piece : goal.returns-in-Some-clause-piece
returns-in-Some-clause-piece c =
    first_there (pieces c.args.text.now)
    (pieces_left c.left_behind.result) _ _ c.args.place c.in-Some.ensures c.left_behind.ensures

pub returns-in-Some-clause-rest : goal.returns-in-Some-clause-rest
returns-in-Some-clause-rest c =
    one_further (pieces c.args.text.now)
    (pieces_left c.left_behind.result) _ _ c.args.place c.in-Some.ensures c.left_behind.ensures

pub returns-in-None-clause-piece : goal.returns-in-None-clause-piece
returns-in-None-clause-piece c =
    none_there (pieces c.args.text.now)
    (pieces_left c.left_behind.result) c.args.place c.in-None.ensures c.left_behind.ensures

pub returns-in-None-clause-rest : goal.returns-in-None-clause-rest
returns-in-None-clause-rest c =
    none_further (pieces c.args.text.now) (pieces_left c.left_behind.result) c.args.place (c.args.place + 1)
    (omega arith) c.in-None.ensures c.left_behind.ensures
