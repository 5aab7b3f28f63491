use Rattle.std.proofs.Common.{rules, ap, ◌∙◌}
use Rattle.std.specs.Int.{w32, w128}
use Rattle.std.proofs.lemmas.Int.{to_z-of_z}
use Rattle.fx_rational.specs.Decimal.{quantised}
use Rattle.fx_c.proofs.lookup.word_of.Goals as goal

pub returns : goal.returns
unfolding quantised
returns c =
    to_z-of_z w128 c.quantise.result (search rules) ∙ c.quantise.ensures
    ∙ ap (quantised c.args.value) (to_z-of_z w32 c.args.f c.ranges.f)
