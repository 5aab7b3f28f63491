use Rattle.std.proofs.Common.{◌≡◌, ◌-ℤ◌, FitsSigned, to_z, of_z, ap, refl, ◌∙◌}
use Rattle.std.specs.Prelude.{int_le}
use Rattle.std.specs.Int.{w128}
use Rattle.std.proofs.lemmas.Int.{to_z-of_z}
use Rattle.fx_fraction.specs.Units.{smallest_units}
use Rattle.fx_fraction.proofs.Ranges.{above_is, short_difference_fits, unit_fits}
use Rattle.fx_fraction.proofs.range.least_of.Goals as goal

pub returns : goal.returns
returns c = λ g few.
    let x = c.smallest_units.result in let y = c.smallest_units-2.result in
    let fx : FitsSigned w128 c.smallest_units.result = unit_fits x c.smallest_units.ensures.small in
    let fy : FitsSigned w128 c.smallest_units-2.result = unit_fits y c.smallest_units-2.ensures.small in
    let e : to_z w128 (of_z w128 x) -ℤ to_z w128 (of_z w128 y) ≡ x -ℤ y =
    rw (to_z-of_z w128 x fx, to_z-of_z w128 y fy) refl in
    let s : to_z w128 (of_z w128 (to_z w128 (of_z w128 x) -ℤ to_z w128 (of_z w128 y))) ≡ x -ℤ y =
    ap (λ v. to_z w128 (of_z w128 v)) e
    ∙ to_z-of_z w128 (x -ℤ y)
    (short_difference_fits x y c.smallest_units.ensures.small c.smallest_units-2.ensures.small) in
    ap (λ v. int_le v (smallest_units g)) s
    ∙ above_is g c.args.lo c.args.err x y
    (smallest_units g) c.smallest_units.ensures.value c.smallest_units-2.ensures.value refl few
    c.smallest_units.ensures.places c.smallest_units-2.ensures.places
