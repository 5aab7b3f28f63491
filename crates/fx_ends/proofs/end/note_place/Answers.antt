use Rattle.fx_ends.proofs.end.note_place.Goals as goal

pub returns-in-Node : goal.returns-in-Node
returns-in-Node g c = rw (c.in-Node.is) c.note_number.ensures

pub returns-in-Output : goal.returns-in-Output
returns-in-Output g c = rw (c.in-Output.is) c.note_number-in-Output.ensures
