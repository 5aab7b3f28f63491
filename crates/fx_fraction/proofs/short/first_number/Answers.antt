use Rattle.std.proofs.Common.{refl, arith}
use Rattle.fx_fraction.proofs.Mantissas.{short_number_is}
use Rattle.fx_fraction.proofs.short.first_number.Goals as goal

pub returns : goal.returns
returns c =
    let w = c.few_digits-whole.ensures in
    short_number_is c.args.body.now _ c.few_digits-whole.result.1 c.few_digits-whole.result.0 c.few_part-size.result.0
    c.few_part-size.result.1 c.few_part-size.result.2
    (record {
      count_is = w.count;
      within = w.within;
      tail_is = refl;
      whole_is = w.value;
      part = c.few_part-size.ensures (omega arith);
    })
    (omega arith)
