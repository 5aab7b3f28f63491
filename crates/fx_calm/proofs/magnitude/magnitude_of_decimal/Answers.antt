use Rattle.std.proofs.Common.{◌∙◌, pos}
use Rattle.fx_rational.specs.Rational.{over}
use Rattle.fx_calm.proofs.Sizes.{decimal_size}
use Rattle.fx_calm.proofs.magnitude.magnitude_of_decimal.Goals as goal

pub returns-clause-value : goal.returns-clause-value
returns-clause-value c =
    (λ i. over (pos (c.decimal_top.ensures.value i)) (c.decimal_bottom.ensures.value i)) ∙ decimal_size c.args.d
