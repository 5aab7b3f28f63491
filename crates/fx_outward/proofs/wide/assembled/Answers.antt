use Rattle.std.proofs.Common.{◌≡◌, ◌∙◌, ◌-◌, ◌^◌, ℤ, pos, ◌*ℤ◌, ◌+ℤ◌, FitsSigned, to_z, of_z, arith, rules, ap, ap₂}
use Rattle.std.specs.Int.{w128}
use Rattle.fx_rational.specs.Dyadic.{dyadic, fits_128}
use Rattle.fx_outward.specs.Grid.{lowest_dyadic}
use Rattle.fx_outward.proofs.Casts.{back}
use Rattle.fx_outward.proofs.Shortened.{few_left, shortened, too_long, whole_too_long}
use Rattle.fx_outward.proofs.Trimmed.{no_places}
use Rattle.fx_fraction.proofs.Halvings.{Parts, halved, parts}
use Rattle.fx_outward.proofs.wide.assembled.Goals.{After-left_fits, After-add_fits}
use Rattle.fx_outward.proofs.wide.assembled.Goals as goal

pub returns-then-t-s : goal.returns-then-t-s
returns-then-t-s c =
    let s = c.args.s in let e = c.args.e in let least = c.min-t.ensures in let same = c.if-t-s.true in
    let h = halved 128 c.args.f s (omega (arith, least, same)) in
    c.trim.ensures ∙ ap (λ (z : ℤ). lowest_dyadic z (e - s)) (back c.ranges.w)
    ∙ no_places c.args.w c.args.f h.rest s e c.requires.places c.requires.grid h.is

-- the places without the zeros at their end
split : (c : After-left_fits) → Parts c.args.f c.args.s c.min-t.result
split c =
    parts 128 c.args.f c.args.s c.min-t.result c.requires.places (omega (arith, c.requires.few)) c.min-t.ensures
    c.if-t-s.false

pub signed-requires : goal.signed-requires
signed-requires c =
    let few = few_left (split (goal.at.signed-requires c).After-left_fits) c.requires.few in omega (arith, few)

pub returns-in-None : goal.returns-in-None
returns-in-None c =
    let s = c.args.s in let t = c.min-t.result in
    whole_too_long c.args.w c.args.f t s c.args.e (split (goal.at.returns-in-None c).After-left_fits) c.requires.grid
    c.requires.few
    (λ h. c.in-None.ensures (ap (λ (w : ℤ). fits_128 (w *ℤ pos (2 ^ (s - t)))) (back c.ranges.w) ∙ h))

-- what is added is the whole part and these places
sum_is : (c : After-add_fits) (p : Parts c.args.f c.args.s c.min-t.result) →
    to_z w128 (of_z w128 c.in-Some.m) +ℤ to_z w128 (of_z w128 c.signed.result)
    ≡ c.args.w *ℤ pos (2 ^ (c.args.s - c.min-t.result)) +ℤ pos p.rest
sum_is c p =
    let m : FitsSigned w128 c.in-Some.m = search rules in
    let f : FitsSigned w128 c.signed.result = search rules in
    ap₂ (λ (x y : ℤ). x +ℤ y)
    (back m ∙ c.in-Some.ensures.1 ∙ ap (λ (w : ℤ). w *ℤ pos (2 ^ (c.args.s - c.min-t.result))) (back c.ranges.w))
    (back f ∙ c.signed.ensures ∙ ap pos p.shifted)

pub returns-in-None-add_fits : goal.returns-in-None-add_fits
returns-in-None-add_fits c =
    let here = goal.at.returns-in-None-add_fits c in let p = split here.After-left_fits in
    too_long c.args.w c.args.f c.min-t.result c.args.s c.args.e p c.requires.grid
    (λ h. c.in-None-add_fits.ensures (ap fits_128 (sum_is here.After-add_fits p) ∙ h))

pub returns-in-Some-add_fits : goal.returns-in-Some-add_fits
returns-in-Some-add_fits c =
    let here = goal.at.returns-in-Some-add_fits c in let p = split here.After-left_fits in
    let n : FitsSigned w128 c.in-Some-add_fits.n = search rules in
    c.new.ensures ∙ ap (λ (z : ℤ). dyadic z (c.args.e - c.min-t.result)) (back n ∙ c.in-Some-add_fits.ensures.1
    ∙ sum_is here.After-add_fits p)
    ∙ shortened c.args.w c.args.f c.min-t.result c.args.s c.args.e p c.requires.grid
