use Rattle.std.proofs.Common.{◌≡◌, ◌≤◌, ℕ, List, ◌++◌, map, drop}
use Rattle.std.specs.Io.KnownBytes.{Appends}
use Rattle.std.specs.List.{concat}
use Rattle.fx_ends.proofs.notes.put_pieces.Given as goal

-- what was sent, and the pieces that are left, are all of them
abbrev pub invariant-loop-piece : goal.invariant-loop-piece
invariant-loop-piece g l =
    (sent : List ℕ) × Appends (g.N.Sink.seen l.initial.notes).taken (g.N.Sink.seen l.notes).taken sent ×
    (concat (map (λ p. p.now) l.pieces) ≡ sent ++ concat (map (λ p. p.now) (drop l.piece-index l.pieces))) ×
    ((g.N.Sink.seen l.initial.notes).faults ≤ (g.N.Sink.seen l.notes).faults)
