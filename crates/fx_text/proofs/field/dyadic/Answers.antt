use Rattle.std.proofs.Common.{◌<◌, ◌∙◌, sym, arith, rules, SFits}
use Rattle.std.specs.Prelude.{unsigned_abs}
use Rattle.std.specs.Int.{w128}
use Rattle.std.proofs.lemmas.Int.{to_z-of_z}
use Rattle.fx_rational.specs.Dyadic.{IsWritten, mantissa_end}
use Rattle.fx_text.proofs.Mantissas.{kept_written, IsDyadic-written}
use Rattle.fx_text.proofs.field.dyadic.Goals as goal

-- the dyadic that is about to be returned
written : (c : goal.Else-e-gt-EXPONENT_LIMIT) → IsWritten (record { m = c.in_ok-m.m; e = c.in_ok-m.e })
written c =
    let fits : SFits w128 c.in_ok-m.m = search rules in
    let small : unsigned_abs c.in_ok-m.m < mantissa_end =
    omega (arith, rw (to_z-of_z w128 c.in_ok-m.m fits) at c.unsigned_abs.ensures.value) in
    kept_written c.in_ok-field.field.now c.in_ok-m.m c.in_ok-m.e (sym c.in_ok-m.ensures.ok_part
    ∙ c.dyadic_parts.ensures) small c.if-e-gt-EXPONENT_LIMIT.false

pub invariant_of-result : goal.invariant_of-result
invariant_of-result c =
    let fits : SFits w128 c.in_ok-m.m = search rules in
    rw (to_z-of_z w128 c.in_ok-m.m fits) (IsDyadic-written c.in_ok-m.m c.in_ok-m.e (written c))

pub returns-clause-written : goal.returns-clause-written
returns-clause-written c =
    let fits : SFits w128 c.in_ok-m.m = search rules in rw (to_z-of_z w128 c.in_ok-m.m fits) (written c)
