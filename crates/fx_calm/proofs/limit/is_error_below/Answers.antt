use Rattle.std.proofs.Common.{◌∙◌, ap}
use Rattle.fx_rational.specs.Decimal.{decimal_value}
use Rattle.fx_plan_laws.specs.Bounds.{units_up}
use Rattle.fx_calm.proofs.Tests.{error_test}
use Rattle.fx_calm.proofs.limit.is_error_below.Goals as goal

pub returns : goal.returns
returns c =
    error_test (decimal_value c.args.input.now.err) c.args.f c.args.w c.units.result c.two_to.result c.requires.error
    (c.units.ensures ∙ ap (units_up c.args.f) c.magnitude_of_decimal.ensures.value) c.two_to.ensures.value
