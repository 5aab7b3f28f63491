use Rattle.std.proofs.Common.{pos, ◌-ℤ◌, sym, ap, ◌∙◌}
use Rattle.fx_fraction.specs.DecimalOf.{within_limits, fewest_places}
use Rattle.fx_fraction.proofs.Reading.{no_digit, no_power, read_is, exponent_near, rest_of, places_is, places_near}
use Rattle.fx_fraction.proofs.read.read_any.Goals as goal

pub returns-in_default : goal.returns-in_default
returns-in_default c = no_digit c.args.text.now _ c.behind_sign-body.ensures c.in_default.ensures.none

pub returns-in_default-read_exponent : goal.returns-in_default-read_exponent
returns-in_default-read_exponent c =
    no_power c.args.text.now _ _ _ _ c.behind_sign-body.ensures c.in-Some.ensures.some (sym c.read_exponent.ensures
    ∙ c.in_default-read_exponent.is)

pub placed-requires-clause-low : goal.placed-requires-clause-low
placed-requires-clause-low c =
    (places_near _ _ c.in-Some.ensures.some.short
    (exponent_near (rest_of c.behind_sign-body.result.now c.in-Some.mantissa.end) c.in-Some-read_exponent.exponent
    (sym c.read_exponent.ensures ∙ c.in-Some-read_exponent.is))).0

pub placed-requires-clause-high : goal.placed-requires-clause-high
placed-requires-clause-high c =
    (places_near _ _ c.in-Some.ensures.some.short
    (exponent_near (rest_of c.behind_sign-body.result.now c.in-Some.mantissa.end) c.in-Some-read_exponent.exponent
    (sym c.read_exponent.ensures ∙ c.in-Some-read_exponent.is))).1

pub returns : goal.returns
returns c =
    let z = c.in-Some-read_exponent.exponent in
    let m = c.in-Some.ensures.some in
    let e =
    places_is c.in-Some.mantissa.places z m.short
    (exponent_near (rest_of c.behind_sign-body.result.now c.in-Some.mantissa.end) z (sym c.read_exponent.ensures
    ∙ c.in-Some-read_exponent.is)) in
    read_is c.args.text.now _ _ _ _ z _ c.behind_sign-body.ensures m (sym c.read_exponent.ensures
    ∙ c.in-Some-read_exponent.is)
    (λ n h. c.placed.ensures n h
    ∙ ap (λ k. within_limits c.is_negative.result (fewest_places n k)) e
    ∙ ap (λ b. within_limits b (fewest_places n (pos c.in-Some.mantissa.places -ℤ z))) c.is_negative.ensures)
