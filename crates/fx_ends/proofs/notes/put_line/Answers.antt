use Rattle.std.proofs.Common.{subst}
use Rattle.std.specs.Io.KnownBytes.{Appends}
use Rattle.fx_base.specs.Calls.{AppendsFront}
use Rattle.fx_ends.proofs.Noted.{front_more, front_behind, on_err, err_more}
use Rattle.fx_ends.proofs.notes.put_line.Goals as goal

-- the name, and a front of what stands behind it
pub returns-in_err-put_all-2-clause-front : goal.returns-in_err-put_all-2-clause-front
returns-in_err-put_all-2-clause-front g c =
    on_err c.from_residual-in_err-put_all-2.result
    (front_behind _ _ _ _ _ (subst (Appends _ _) c.as_bytes.ensures.value c.in_ok-put_all.ensures.all)
    (front_more _ _ _ _ c.in_err-put_all-2.ensures.front))

-- both, and a front of the pieces
pub returns-clause-front : goal.returns-clause-front
returns-clause-front g c =
    err_more c.put_pieces.result
    (λ front. front_behind _ _ _ _ _ (subst (Appends _ _) c.as_bytes.ensures.value c.in_ok-put_all.ensures.all)
    (front_behind _ _ _ _ _ c.in_ok-put_all-2.ensures.all front)) c.put_pieces.ensures.front
