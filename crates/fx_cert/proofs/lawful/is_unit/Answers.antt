use Rattle.std.proofs.Common.{◌≡◌, ℕ, ◌<◌, length, arith, subst}
use Rattle.fx_rational.specs.Dyadic.{zero_dyadic}
use Rattle.fx_model.specs.Tree.{at}
use Rattle.fx_inequalities.specs.Formula.{Num}
use Rattle.fx_inequalities.specs.Affine.{unit_coef}
use Rattle.fx_cert.proofs.UnitVectors.{unit_by}
use Rattle.fx_cert.proofs.lawful.is_unit.Goals as goal

pub returns : goal.returns
returns c = λ lt met.
    let all : c.loop-j.j ≡ length c.args.coefs.now = omega arith in
    unit_by c.args.coefs.now c.args.i lt (subst (λ (n : ℕ). (k : ℕ) → k < n →
    Num (at zero_dyadic c.args.coefs.now k) ≡ unit_coef c.args.i k) all c.loop-j.invariant)
