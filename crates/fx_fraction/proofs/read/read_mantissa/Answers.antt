use Rattle.std.proofs.Common.{◌<◌, ◌^◌, ◌-◌, drop, length, length-drop, refl, arith, rules}
use Rattle.std.proofs.lemmas.List.{length-take}
use Rattle.fx_fraction.proofs.Mantissas.{mantissa_is}
use Rattle.fx_fraction.proofs.read.read_mantissa.Goals as goal

pub returns-clause-some : goal.returns-clause-some
returns-clause-some c =
    let w = c.read_digits-whole.ensures in
    let p = c.read_part-part.ensures in
    let short : length c.args.body.now < 2 ^ 63 = search rules in
    let e =
    length-take (length c.args.body.now - c.read_digits-whole.result.1)
    (drop c.read_digits-whole.result.1 c.args.body.now) in
    let d = length-drop c.read_digits-whole.result.1 c.args.body.now in
    mantissa_is c.args.body.now _ c.read_digits-whole.result.1 c.read_part-part.result.digits
    c.read_part-part.result.places c.read_part-part.result.end
    (record {
      count_is = w.count;
      within = w.within;
      short = short;
      tail_is = refl;
      value = p.value _ (w.value 0 refl);
      zeros = omega (arith, w.zeros, p.zeros, w.within, e, d, short);
      fits = p.fits;
      places_are = p.places;
      end_within = p.within;
      rest = p.rest;
    })
    (omega arith)
