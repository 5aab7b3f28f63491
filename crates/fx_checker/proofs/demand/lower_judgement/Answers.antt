use Rattle.std.proofs.Common.{ap, sym, ◌∙◌, Option}
use Rattle.std.specs.Option.{option_map}
use Rattle.fx_rational.specs.Decimal.{Decimal, decimal_value}
use Rattle.fx_inequalities.specs.Formula.{Sum, span, span_sum}
use Rattle.fx_inequalities.specs.Accepted.{lower_claims}
use Rattle.fx_formulas.specs.Judging.{judged}
use Rattle.fx_checker.proofs.demand.lower_judgement.Goals as goal

pub returns-in-Some : goal.returns-in-Some
returns-in-Some c =
    let g = span c.args.range in let h = span c.args.error in
    c.is_above.ensures (Sum g.lo h.lo) (decimal_value c.in-Some.end) c.least_value.ensures c.to_fraction.ensures
    ∙ ap (λ (o : Option Decimal). judged (lower_claims (option_map decimal_value o) (span_sum g h))) (sym c.in-Some.is)
