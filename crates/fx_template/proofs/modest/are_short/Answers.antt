use Rattle.std.proofs.Common.{◌≡◌, ℕ, ◌<◌, length, refl, subst, arith}
use Rattle.fx_rational.specs.Dyadic.{Dyadic, zero_dyadic}
use Rattle.fx_model.specs.Tree.{at}
use Rattle.fx_inequalities.specs.Formula.{Num}
use Rattle.fx_formulas.specs.Places.{IsShort}
use Rattle.fx_template.proofs.ShortLists.{past_the_end}
use Rattle.fx_template.proofs.modest.are_short.Goals as goal

pub returns : goal.returns
returns c =
    let coefs = c.args.coefs.now in let all : c.loop-j.j ≡ length coefs = omega arith in (
      λ _. past_the_end (λ (d : Dyadic). IsShort 96 (Num d)) zero_dyadic coefs record { few = omega arith }
          (subst (λ (n : ℕ). (k : ℕ) → k < n → IsShort 96 (Num (at zero_dyadic coefs k))) all c.loop-j.invariant),
      λ _. refl,
    )
