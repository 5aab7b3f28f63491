use Rattle.fx_ends.proofs.end.note_bundle.Goals as goal

pub returns : goal.returns
returns g c = rw (← c.bundle_text.ensures, ← c.format.ensures.text) c.note_line.ensures
