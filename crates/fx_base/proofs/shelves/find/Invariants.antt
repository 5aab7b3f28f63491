use Rattle.std.proofs.Common.{◌≡◌, drop}
use Rattle.fx_base.specs.Shelf.{entries}
use Rattle.fx_base.specs.Shelf.{paper_of}
use Rattle.fx_base.proofs.shelves.find.Given as goal

-- the files that were passed have other names
abbrev pub invariant-loop-file : goal.invariant-loop-file
invariant-loop-file l = paper_of (entries l.files) l.name ≡ paper_of (entries (drop l.file-index l.files)) l.name
