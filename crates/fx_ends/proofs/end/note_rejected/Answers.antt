use Rattle.fx_ends.proofs.end.note_rejected.Goals as goal

pub returns : goal.returns
returns g c = rw (← c.condition_text.ensures, ← c.name.ensures, ← c.format.ensures.text) c.note_line.ensures
