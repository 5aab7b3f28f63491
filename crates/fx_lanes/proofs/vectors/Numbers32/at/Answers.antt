use Rattle.std.proofs.Common.{arith, ap, ◌∙◌, pos, to_z, of_z}
use Rattle.std.specs.Prelude.{slice_index_or}
use Rattle.std.specs.Int.{w32}
use Rattle.std.proofs.lemmas.Int.{to_z-of_z}
use Rattle.fx_lanes.proofs.Operators as operators
use Rattle.fx_lanes.proofs.vectors.Numbers32.at.Goals as goal

pub returns : goal.returns
returns c =
    let v = c.self.inside.lanes in let i = c.self.invariant in let k = c.args.k in
    ap (λ xs. to_z w32 (of_z w32 (slice_index_or xs k (pos 0)))) (operators.taken_out w32 v i.fits)
    ∙ to_z-of_z w32 _ (i.fits k (pos 0) (omega (arith, c.requires, i.many)))
    ∙ ap (λ xs. slice_index_or xs k (pos 0)) c.self.view_is
