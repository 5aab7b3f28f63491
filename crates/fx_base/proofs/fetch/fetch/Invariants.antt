use Rattle.std.proofs.Common.{◌≡◌, ℕ, List, ◌+◌, ◌-◌, ◌≤◌, ◌++◌, length, None}
use Rattle.std.specs.Prelude.{◌==◌, position}
use Rattle.std.specs.Io.KnownBytes.{Consumes}
use Rattle.fx_base.specs.Moments.{HoldsEachTime, IsSought}
use Rattle.fx_base.proofs.fetch.fetch.Given as goal

abbrev pub invariant-reads : goal.invariant-reads
invariant-reads g l = record {
  more : (more : List ℕ) × Consumes (g.S.Source.seen l.initial.source).left (g.S.Source.seen l.source).left more
      × (l.held ≡ l.initial.held ++ more) × (l.taken ≡ l.initial.taken + length more);
  no_line : position (λ b. b == 10) l.held ≡ None;
  within : l.taken ≤ l.limit;
  room : length l.held ≤ 131072;
  sought : HoldsEachTime (IsSought l.initial.held (g.S.Source.seen l.initial.source).left (g.K.Sink.seen l.shown).taken)
      (g.S.Source.seen l.initial.source).asked (g.S.Source.seen l.source).asked;
  later : (g.S.Source.seen l.initial.source).faults ≤ (g.S.Source.seen l.source).faults;
}

abbrev pub decreases-reads : goal.decreases-reads
decreases-reads g l = 131072 - length l.held
