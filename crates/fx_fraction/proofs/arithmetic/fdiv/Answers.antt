use Rattle.std.proofs.Common.{rules, arith}
use Rattle.std.proofs.lemmas.Int.{ints}
use Rattle.fx_fraction.specs.Fractions.{GivesLowest}
use Rattle.fx_fraction.proofs.Terms.{some_and, quotient_up, quotient_down}
use Rattle.fx_fraction.proofs.arithmetic.fdiv.Goals as goal

pub returns-then-numerator-lt0 : goal.returns-then-numerator-lt0
returns-then-numerator-lt0 c =
    some_and _ _ (GivesLowest c.reduced.result) (quotient_down c.args.a c.args.b (omega (arith, ints))) (search rules)

pub returns-else-numerator-lt0 : goal.returns-else-numerator-lt0
returns-else-numerator-lt0 c =
    some_and _ _ (GivesLowest c.reduced-else-numerator-lt0.result)
    (quotient_up c.args.a c.args.b (omega (arith, ints, c.requires))) (search rules)
