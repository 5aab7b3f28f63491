use Rattle.std.proofs.Common.{arith, refl, ap, ◌∙◌, to_z, of_z}
use Rattle.std.specs.Prelude.{replicate}
use Rattle.std.specs.Int.{w32}
use Rattle.std.proofs.lemmas.Int.{to_z-of_z}
use Rattle.fx_word.proofs.Fits.{shown_64}
use Rattle.fx_lanes.proofs.Numbers.{word_fits}
use Rattle.fx_lanes.proofs.Lanewise as lanewise
use Rattle.fx_lanes.proofs.narrow.NarrowLanesSideBySide.splat.Goals as goal

pub invariant_of-result : goal.invariant_of-result
invariant_of-result g c =
    let v = c.args.value in let r = c.requires in let most = r.room.most in
    let kept = shown_64 g.row.B v v (omega (arith, most)) refl r.word in
    (lanewise.same_word g.row.B _ v (c.all.ensures
    ∙ ap (replicate 16) (ap (λ x. to_z w32 (of_z w32 x)) kept
    ∙ to_z-of_z w32 v (word_fits w32 g.row.B v most r.word))) r.word).are
