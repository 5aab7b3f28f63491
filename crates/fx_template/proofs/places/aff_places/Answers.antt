use Rattle.std.proofs.Common.{◌≡◌, ℕ, length, subst, arith}
use Rattle.fx_template.specs.AffineView.{linear_form}
use Rattle.fx_template.proofs.Short.{AreShortBefore, all_short}
use Rattle.fx_template.proofs.places.aff_places.Goals as goal

pub returns : goal.returns
returns c =
    let a = linear_form c.args.a.now in let most = c.loop-j.most in
    let all : c.loop-j.j ≡ length a.coefs = omega arith in
    all_short most a (subst
    (λ (j : ℕ). AreShortBefore most j a.coefs) all c.loop-j.invariant.coefs) c.loop-j.invariant.lo
    c.loop-j.invariant.hi
