use Rattle.std.proofs.Common.{ap, ◌∙◌}
use Rattle.fx_text.proofs.Cuts.{split-more, split-last}
use Rattle.fx_rows.specs.Line.{pieces_left}
use Rattle.fx_rows.proofs.pieces.next_piece.Goals as goal

pub returns-in-Some : goal.returns-in-Some
returns-in-Some c = ap pieces_left c.in_ok-text.was
    ∙ split-more 44 c.in_ok-text.text.now c.in-Some.piece.now c.in-Some.others.now c.in-Some.ensures

pub returns-in-None : goal.returns-in-None
returns-in-None c = ap pieces_left c.in_ok-text.was ∙ split-last 44 c.in_ok-text.text.now c.in-None.ensures
