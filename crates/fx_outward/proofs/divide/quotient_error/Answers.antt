use Rattle.std.proofs.Common.{◌≡◌, ◌∙◌, [], ◌∷◌, inr, to_z, of_z, subst}
use Rattle.std.specs.Int.{w32}
use Rattle.std.proofs.lemmas.Int.{to_z-of_z}
use Rattle.fx_inequalities.specs.Formula.{span, span_product}
use Rattle.fx_inequalities.specs.Claim.{Clear}
use Rattle.fx_inequalities.specs.OperationSpans.{machine_range, quotient_error}
use Rattle.fx_formulas.specs.Judging.{FormsSpan}
use Rattle.fx_formulas.proofs.Judged.{clear_none}
use Rattle.fx_formulas.proofs.Shorts.{short_span_sum}
use Rattle.fx_outward.specs.Dividing.{cleared_quotient}
use Rattle.fx_outward.proofs.Dividing.{beyond_fits, cleared_beyond}
use Rattle.fx_outward.proofs.Shorts.{few_short}
use Rattle.fx_outward.proofs.divide.quotient_error.Goals as goal

pub returns-in-None : goal.returns-in-None
returns-in-None c =
    let g = span c.args.g in let gb = span c.args.gb in let ha = span c.args.ha in let hb = span c.args.hb in
    let t = machine_range gb hb in
    let h = subst (λ o. FormsSpan o t) c.in-None.is (c.plus.ensures gb hb c.interval.ensures c.interval-2.ensures) in
    cleared_beyond c.args.point gb (quotient_error g ha hb) t (beyond_fits (Clear gb t ∷ []) (clear_none gb t (inr h)))

pub returns-in-Some : goal.returns-in-Some
returns-in-Some c =
    let f = c.args.point in let f32 : to_z w32 (of_z w32 f) ≡ f = to_z-of_z w32 f c.ranges.point in
    let g = span c.args.g in let gb = span c.args.gb in let ha = span c.args.ha in let hb = span c.args.hb in
    let t = machine_range gb hb in let s = quotient_error g ha hb in
    let h = subst (λ o. FormsSpan o t) c.in-Some.is (c.plus.ensures gb hb c.interval.ensures c.interval-2.ensures) in
    let b = few_short c.args.hb c.requires.hb in
    let a =
    c.minus-a.ensures ha (span_product g hb) c.interval-in-Some.ensures
    (c.times.ensures g hb (few_short c.args.g c.requires.g) b c.interval-in-Some-2.ensures
    c.interval-in-Some-3.ensures) in
    c.cleared.ensures s t a h (short_span_sum (few_short c.args.gb c.requires.gb) b)
    ∙ (λ i. cleared_quotient (f32 i) gb s t)
