use Rattle.std.proofs.Common.{◌^◌, ◌*ℤ◌, ◌<◌, pos, ℤ, sym, subst}
use Rattle.std.specs.Prelude.{unsigned_abs}
use Rattle.std.proofs.lemmas.Nat.{pow_pos}
use Rattle.fx_rational.proofs.Fits.{in_128}
use Rattle.fx_num.proofs.Shifts.{left_is}
use Rattle.fx_outward.proofs.Lefts.{left_small, small_fits}
use Rattle.fx_outward.proofs.number.left.Goals as goal

pub returns-clause-value : goal.returns-clause-value
returns-clause-value c =
    let z = c.args.p *ℤ pos (2 ^ c.args.s) in
    left_is c.args.p (2 ^ c.args.s) (pow_pos c.args.s)
    (in_128 z (small_fits z (left_small c.args.p c.args.s c.requires.small c.requires.few)))

pub returns-clause-small : goal.returns-clause-small
returns-clause-small c =
    subst (λ (z : ℤ). unsigned_abs z < 2 ^ 126) (sym (returns-clause-value c))
    (left_small c.args.p c.args.s c.requires.small c.requires.few)
