use Rattle.std.proofs.Common.{◌≡◌, sym, ap, subst, ◌∙◌, ◌-ℤ◌, arith, rules, SFits}
use Rattle.std.proofs.lemmas.Int.{ints, to_z-of_z}
use mir.Syntax.{w128}
use Rattle.fx_fraction.specs.Kept.{Keeps}
use Rattle.fx_fraction.specs.DecimalOf.{within_limits, fewest_places}
use Rattle.fx_fraction.specs.ReadParts.{by_shift}
use Rattle.fx_fraction.proofs.Shifts.{fewest_front, fewest_zero, fewest_long, no_sign}
use Rattle.fx_fraction.proofs.limits.placed.Goals as goal

pub returns-in-Zero : goal.returns-in-Zero
returns-in-Zero c =
    λ n h. sym (ap (λ m. within_limits c.args.is_negative (fewest_places m c.args.places))
    (subst (Keeps n) c.in-Zero.is h) ∙ ap (within_limits c.args.is_negative) (fewest_zero c.args.places)
    ∙ no_sign c.args.is_negative)

pub returns-in-Long : goal.returns-in-Long
returns-in-Long c = λ n h. let k = subst (Keeps n) c.in-Long.is h in
    sym (fewest_long c.args.is_negative n k.0 k.1 c.args.places k.2 k.3)

pub returns-in-Front : goal.returns-in-Front
returns-in-Front c = λ n h.
    let k = subst (Keeps n) c.in-Front.is h in
    let zeros : SFits w128 c.from.result = search rules in
    let places : SFits w128 c.args.places = c.ranges.places in
    let shift : SFits w128 (c.from.result -ℤ c.args.places) = omega (arith, ints, c.from.ensures) in
    let s : c.scaled.result ≡ within_limits c.args.is_negative
    (by_shift c.in-Front.front (c.from.result -ℤ c.args.places)) = simp to_z-of_z at c.scaled.ensures in
    s ∙ ap (λ z. within_limits c.args.is_negative (by_shift c.in-Front.front (z -ℤ c.args.places))) c.from.ensures
    ∙ ap (within_limits c.args.is_negative)
    (sym (fewest_front n c.in-Front.front c.in-Front.zeros c.args.places k.0))
