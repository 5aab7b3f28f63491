use Rattle.std.proofs.Common.{◌∙◌, sym, arith}
use Rattle.fx_calm.proofs.Found.{none_is, not_low, tame}
use Rattle.fx_calm.proofs.numbers.find_numbers.Goals as goal

pub returns-then-low-gt25 : goal.returns-then-low-gt25
returns-then-low-gt25 c =
    let t = c.if-low-gt25.true in
    none_is c.args.width c.args.function.now
    (not_low c.args.width c.args.function.now c.requires c.keeps.ensures c.in_ok-low.low c.in_ok-low.ensures
    (omega (arith, t)))

pub of_tame-requires-clause-tame : goal.of_tame-requires-clause-tame
of_tame-requires-clause-tame c =
    let few = c.if-low-gt25.false in
    tame c.args.width c.args.function.now c.requires c.keeps.ensures c.in_ok-low.low
    (sym c.has_form.ensures ∙ c.if-not-has_form.false) c.in_ok-low.ensures (omega (arith, few))
