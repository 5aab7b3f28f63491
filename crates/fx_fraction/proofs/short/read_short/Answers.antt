use Rattle.std.proofs.Common.{◌<◌, ◌^◌, length, rules}
use Rattle.fx_fraction.proofs.Mantissas.{mantissa_of_short}
use Rattle.fx_fraction.proofs.short.read_short.Goals as goal

pub returns : goal.returns
returns c =
    let n = c.in_ok-number.number in
    let short : length c.args.body.now < 2 ^ 63 = search rules in
    mantissa_of_short c.args.body.now c.stripped.result n.size n.places n.end c.in_ok-number.ensures short
    c.stripped.ensures.value c.stripped.ensures.zeros c.stripped.ensures.fits
