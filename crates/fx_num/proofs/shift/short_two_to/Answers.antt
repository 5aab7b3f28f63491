use Rattle.std.proofs.Common.{◌≡◌, ◌≤◌, ◌^◌, unsigned_abs, ap, subst, sym}
use Rattle.std.proofs.Math.Pow.{pow_mono}
use Rattle.fx_num.proofs.Shifts.{short_power}
use Rattle.fx_num.proofs.shift.short_two_to.Goals as goal

pub returns-clause-value : goal.returns-clause-value
returns-clause-value c = short_power c.args.s c.requires

pub returns-clause-few : goal.returns-clause-few
returns-clause-few c = rw (short_power c.args.s c.requires) (pow_mono c.requires)
