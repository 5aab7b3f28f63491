use Rattle.std.proofs.Common.{◌∙◌, sym, subst, append_assoc, arith}
use Rattle.std.specs.Io.KnownBytes.{Appends}
use Rattle.std.proofs.KnownBytes.{Appends-trans}
use Rattle.fx_base.specs.Calls.{AppendsFront}
use Rattle.fx_ends.proofs.Noted.{front_more, front_behind, next_piece, on_err}
use Rattle.fx_ends.proofs.notes.put_pieces.Goals as goal

-- behind what was sent, a front of this piece
pub returns-in_err-put_all-clause-front : goal.returns-in_err-put_all-clause-front
returns-in_err-put_all-clause-front g c =
    let kept = c.loop-piece.invariant in
    let put = subst (AppendsFront _ _) c.as_bytes.ensures.value c.in_err-put_all.ensures.front in
    let whole =
    next_piece (λ p. p.now) c.args.pieces.now kept.0 _ c.loop-piece.piece-index _ c.loop-piece-test.true kept.2 in
    on_err c.from_residual.result
    (subst (AppendsFront _ _) (sym whole) (front_behind _ _ _ kept.0 _ kept.1 (front_more _ _ _ _ put)))

-- what was sent, and this piece
pub loop-piece-preserved : goal.loop-piece-preserved
loop-piece-preserved g c =
    let kept = c.loop-piece.invariant in
    let put = subst (Appends _ _) c.as_bytes.ensures.value c.in_ok-put_all.ensures.all in
    let whole =
    next_piece (λ p. p.now) c.args.pieces.now kept.0 _ c.loop-piece.piece-index _ c.loop-piece-test.true kept.2 in (
      _,
      Appends-trans _ _ _ kept.0 _ kept.1 put,
      whole
          ∙ sym (append_assoc kept.0 _ _),
      omega (arith, kept.3, c.in_ok-put_all.ensures.cause.later),
    )
