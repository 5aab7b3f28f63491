use Rattle.fx_ends.proofs.end.note_number.Goals as goal

pub returns : goal.returns
returns g c = rw (← c.format.ensures.text) c.note_line.ensures
