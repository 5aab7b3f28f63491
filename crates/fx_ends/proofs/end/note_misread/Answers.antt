use Rattle.fx_ends.proofs.end.note_misread.Goals as goal

pub returns : goal.returns
returns g c = rw (← c.source_text.ensures, ← c.format.ensures.text) c.note_line.ensures
