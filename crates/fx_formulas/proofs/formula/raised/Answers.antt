use Rattle.fx_formulas.proofs.Raising.{raised_is}
use Rattle.fx_formulas.proofs.formula.raised.Goals as goal

pub overflow_mul-result : goal.overflow_mul-result
overflow_mul-result c =
    (raised_is c.args.word c.from.result c.signed_two_to.result c.args.places c.ranges.word c.requires c.from.ensures
    c.signed_two_to.ensures.value).0

pub returns : goal.returns
returns c =
    (raised_is c.args.word c.from.result c.signed_two_to.result c.args.places c.ranges.word c.requires c.from.ensures
    c.signed_two_to.ensures.value).1
