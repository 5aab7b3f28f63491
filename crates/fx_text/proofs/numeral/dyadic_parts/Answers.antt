use Rattle.std.proofs.Common.{◌∙◌, sym, rules, SFits, true, false}
use Rattle.std.specs.Int.{w128}
use Rattle.std.proofs.lemmas.Int.{to_z-of_z}
use Rattle.fx_text.proofs.Mantissas.{parts_kept}
use Rattle.fx_text.proofs.numeral.dyadic_parts.Goals as goal

pub returns-then-is_reduced : goal.returns-then-is_reduced
returns-then-is_reduced c =
    let fits : SFits w128 c.in_ok-m.m = search rules in
    rw (to_z-of_z w128 c.in_ok-m.m fits)
    (parts_kept c.args.field.now c.in_ok-mantissa.mantissa.now c.in_ok-mantissa.exponent.now c.in_ok-m.m c.in_ok-e.e
    true c.in_ok-mantissa.ensures c.in_ok-m.ensures c.in_ok-e.ensures (sym c.is_reduced.ensures
    ∙ c.if-is_reduced.true))

pub returns-else-is_reduced : goal.returns-else-is_reduced
returns-else-is_reduced c =
    parts_kept c.args.field.now c.in_ok-mantissa.mantissa.now c.in_ok-mantissa.exponent.now c.in_ok-m.m c.in_ok-e.e
    false c.in_ok-mantissa.ensures c.in_ok-m.ensures c.in_ok-e.ensures (sym c.is_reduced.ensures
    ∙ c.if-is_reduced.false)
