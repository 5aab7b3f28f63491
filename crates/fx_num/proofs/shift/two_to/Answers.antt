use Rattle.std.proofs.Common.{◌≤◌, ◌^◌, arith}
use Rattle.std.proofs.Math.Pow.{pow_mono}
use Rattle.fx_num.proofs.shift.two_to.Goals as goal

pub returns-clause-few : goal.returns-clause-few
returns-clause-few c = let p : 2 ^ c.args.s ≤ 2 ^ 126 = pow_mono c.requires in omega (arith, p)
