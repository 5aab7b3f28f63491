use Rattle.std.proofs.Common.{sym, subst}
use Rattle.std.specs.Prelude.{IfSome}
use Rattle.std.specs.Option.{option_map}
use Rattle.fx_rational.specs.Decimal.{decimal_value}
use Rattle.fx_plan_laws.specs.Narrow.{IsNarrowNumber}
use Rattle.fx_calm.proofs.Units.{narrow_size}
use Rattle.fx_calm.proofs.narrow.narrow_error.Goals as goal

pub returns-in-Some : goal.returns-in-Some
returns-in-Some c =
    let s = c.magnitude_of_decimal-size.ensures.weight.size in
    subst (λ o. IfSome (option_map decimal_value o) IsNarrowNumber) (sym c.in-Some.is)
    (narrow_size c.magnitude_of_decimal-size.result.top c.magnitude_of_decimal-size.result.bottom
    (decimal_value c.in-Some.e) s.some s.few c.magnitude_of_decimal-size.ensures.value)
