use Rattle.std.proofs.Common.{◌≡◌, ℕ, pos, ◌<◌, length, refl, subst, arith}
use Rattle.std.proofs.lemmas.Int.{ints}
use Rattle.fx_model.specs.LawfulProgram.{IsPoint}
use Rattle.fx_model.specs.Tree.{at}
use Rattle.fx_template.proofs.ShortLists.{past_the_end}
use Rattle.fx_template.proofs.modest.are_points.Goals as goal

pub returns : goal.returns
returns c =
    let points = c.args.points.now in let all : c.loop-n.n ≡ length points = omega arith in (
      λ _. past_the_end IsPoint (pos 0) points record { low = omega (arith, ints); high = omega (arith, ints) }
          (subst (λ (n : ℕ). (k : ℕ) → k < n → IsPoint (at (pos 0) points k)) all c.loop-n.invariant),
      λ _. refl,
    )
