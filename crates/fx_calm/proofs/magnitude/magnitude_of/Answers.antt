use Rattle.std.proofs.Common.{◌∙◌, pos}
use Rattle.fx_rational.specs.Rational.{over}
use Rattle.fx_calm.proofs.Sizes.{fraction_size}
use Rattle.fx_calm.proofs.magnitude.magnitude_of.Goals as goal

pub returns-clause-value : goal.returns-clause-value
returns-clause-value c =
    (λ i. over (pos (c.top.ensures.value i)) (c.denominator.ensures.value i)) ∙ fraction_size c.args.c
