use Rattle.std.proofs.Common.{◌≡◌, ◌∙◌, to_z, of_z, rules}
use Rattle.std.specs.Int.{w32, w128}
use Rattle.std.proofs.lemmas.Int.{to_z-of_z}
use Rattle.fx_rational.specs.Rational.{floor, scaled}
use Rattle.fx_rational.specs.Decimal.{quantised}
use Rattle.fx_calm.proofs.code.start_floor.Goals as goal

pub returns : goal.returns
unfolding quantised
returns c =
    let fits : to_z w128 (of_z w128 c.quantise.result) ≡ c.quantise.result =
    to_z-of_z w128 c.quantise.result (search rules) in
    let point : to_z w32 (of_z w32 c.shift.result) ≡ c.shift.result = to_z-of_z w32 c.shift.result (search rules) in
    fits ∙ c.quantise.ensures ∙ (λ i. floor (scaled (c.start_at.ensures i) ((point ∙ c.shift.ensures) i)))
