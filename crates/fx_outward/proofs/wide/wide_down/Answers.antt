use Rattle.std.proofs.Common.{◌≡◌, ◌∙◌, ◌^◌, ℕ, ℤ, pos, ◌*ℤ◌, ◌+ℤ◌, ◌-ℤ◌, FitsSigned, rules, sym, subst, ap, ap₂}
use Rattle.std.specs.Int.{w128}
use Rattle.fx_rational.specs.Rational.{floor_div}
use Rattle.fx_outward.specs.Grid.{lowest_dyadic}
use Rattle.fx_outward.specs.Wide.{IsEnd}
use Rattle.fx_outward.proofs.Casts.{back}
use Rattle.fx_outward.proofs.Ends.{whole_places, rest_sum}
use Rattle.fx_outward.proofs.wide.wide_down.Goals as goal

pub returns : goal.returns
returns c =
    let n = c.args.n in let d = c.args.d in let e = c.args.e in let r = c.rest-r.result in
    let fw : FitsSigned w128 c.whole-w.result = search rules in
    let w = back fw ∙ c.whole-w.ensures ∙ ap (λ (z : ℤ). floor_div z d) (back c.ranges.n) in
    let left : pos r ≡ n -ℤ floor_div n d *ℤ pos d =
    subst (λ (z : ℤ). pos r ≡ z -ℤ floor_div z d *ℤ pos d) (back c.ranges.n) c.rest-r.ensures in
    subst (IsEnd c.assembled.result)
    (ap (λ (z : ℤ). lowest_dyadic z e) (ap₂ (λ (x : ℤ) (k : ℕ). x *ℤ pos (2 ^ e) +ℤ pos k) w c.places-f.ensures.value
    ∙ sym (whole_places n (floor_div n d) d r (2 ^ e) (rest_sum n d r left) c.requires.some)))
    c.assembled.ensures
