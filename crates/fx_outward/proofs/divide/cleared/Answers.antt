use Rattle.std.proofs.Common.{◌≡◌, ◌∙◌, [], ◌∷◌, to_z, of_z, sym}
use Rattle.std.specs.Int.{w32}
use Rattle.std.proofs.lemmas.Int.{to_z-of_z}
use Rattle.fx_inequalities.specs.Formula.{span}
use Rattle.fx_inequalities.specs.Claim.{Clear}
use Rattle.fx_outward.specs.Dividing.{unit_quotient}
use Rattle.fx_outward.proofs.Dividing.{holds_both, fails_both, beyond_fits, cleared_holds, cleared_fails, cleared_beyond}
use Rattle.fx_outward.proofs.divide.cleared.Goals as goal

pub returns-in-Holds : goal.returns-in-Holds
returns-in-Holds c = λ s t fa fb short.
    let f = c.args.point in let f32 : to_z w32 (of_z w32 f) ≡ f = to_z-of_z w32 f c.ranges.point in
    let g = span c.args.g in
    let h = holds_both (Clear g t ∷ []) (sym c.in-Holds.is ∙ c.clear.ensures g t c.interval.ensures fb) in
    c.unit_quotient.ensures s t fa fb short ∙ (λ i. unit_quotient (f32 i) s t) ∙ cleared_holds f g s t h.0 h.1

pub returns-in-Fails : goal.returns-in-Fails
returns-in-Fails c = λ s t fa fb short.
    let g = span c.args.g in
    let h = fails_both (Clear g t ∷ []) (sym c.in-Fails.is ∙ c.clear.ensures g t c.interval.ensures fb) in
    cleared_fails c.args.point g s t h.0 h.1

pub returns-in-Beyond : goal.returns-in-Beyond
returns-in-Beyond c = λ s t fa fb short.
    let g = span c.args.g in
    cleared_beyond c.args.point g s t
    (beyond_fits (Clear g t ∷ []) (sym c.in-Beyond.is ∙ c.clear.ensures g t c.interval.ensures fb))
