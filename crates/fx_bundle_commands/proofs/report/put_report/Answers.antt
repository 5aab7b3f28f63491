use Rattle.fx_ends.proofs.Noted.{front_more, front_behind, on_err, err_more}
use Rattle.fx_bundle_commands.proofs.report.put_report.Goals as goal

pub returns-in_err-put_pieces-clause-front : goal.returns-in_err-put_pieces-clause-front
returns-in_err-put_pieces-clause-front g c =
    on_err c.from_residual.result (front_more _ _ _ _ c.in_err-put_pieces.ensures.front)

pub returns-clause-front : goal.returns-clause-front
returns-clause-front g c =
    err_more c.put_bounds.result (front_behind _ _ _ _ _ c.in_ok-put_pieces.ensures.all) c.put_bounds.ensures.front
