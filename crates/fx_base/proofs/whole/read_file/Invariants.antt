use Rattle.std.proofs.Common.{◌≡◌, vec_len, length, ◌-◌, ◌≤◌}
use Rattle.fx_base.specs.Shelf.{IfPaper, IsMissing}
use Rattle.fx_base.proofs.Parts.{IsFront}
use Rattle.fx_base.proofs.Requested.{AsksBelow}
use Rattle.fx_base.proofs.whole.read_file.Given as goal

abbrev pub invariant-reads : goal.invariant-reads
invariant-reads g l =
    let papers = (g.H.Shelf.seen l.initial.shelf).files in
    let before = (g.H.Shelf.seen l.initial.shelf).faults in
    record {
      within : vec_len l.bytes ≤ l.limit;
      front : IfPaper papers l.name (IsFront l.bytes.items);
      asked : AsksBelow l.name (length l.bytes.items) (g.H.Shelf.seen l.initial.shelf).asked
          (g.H.Shelf.seen l.shelf).asked;
      same : (g.H.Shelf.seen l.shelf).files ≡ papers;
      later : before ≤ (g.H.Shelf.seen l.shelf).faults;
      missing : IsMissing papers l.name → (g.H.Shelf.seen l.shelf).faults ≡ before;
    }

abbrev pub decreases-reads : goal.decreases-reads
decreases-reads g l = l.limit - vec_len l.bytes
