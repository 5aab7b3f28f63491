use Rattle.std.proofs.Common.{◌^◌, ◌-◌, ap, ap₂, ◌∙◌, ℤ, int_le, rules, FitsSigned, arith}
use Rattle.std.specs.Int.{w128}
use Rattle.std.proofs.lemmas.Int.{to_z-of_z}
use Rattle.fx_rational.specs.Rational.{floor_div, ceil_div}
use Rattle.fx_rational.specs.Dyadic.{is_dyadic_at_most}
use Rattle.fx_rational.proofs.Dyadics.{as_written, at_most_by_ceiling, at_most_by_floor}
use Rattle.fx_num.proofs.dyadic.dle.Goals as goal

pub returns-then-b-a : goal.returns-then-b-a
returns-then-b-a c =
    let a = c.a.inside in let b = c.b.inside in let r = c.ceil_shift.result in
    let f : FitsSigned w128 a.m = search rules in let g : FitsSigned w128 b.m = search rules in
    let h : FitsSigned w128 r = search rules in
    ap₂ int_le (to_z-of_z w128 r h ∙ c.ceil_shift.ensures
    ∙ ap (λ (z : ℤ). ceil_div z (2 ^ (a.e - b.e))) (to_z-of_z w128 a.m f)) (to_z-of_z w128 b.m g)
    ∙ at_most_by_ceiling (as_written a.m a.e) (as_written b.m b.e) (omega arith)
    ∙ ap₂ is_dyadic_at_most c.a.view_is c.b.view_is

pub returns-else-b-a : goal.returns-else-b-a
returns-else-b-a c =
    let a = c.a.inside in let b = c.b.inside in let r = c.floor_shift.result in
    let f : FitsSigned w128 a.m = search rules in let g : FitsSigned w128 b.m = search rules in
    let h : FitsSigned w128 r = search rules in
    ap₂ int_le (to_z-of_z w128 a.m f) (to_z-of_z w128 r h ∙ c.floor_shift.ensures
    ∙ ap (λ (z : ℤ). floor_div z (2 ^ (b.e - a.e))) (to_z-of_z w128 b.m g))
    ∙ at_most_by_floor (as_written a.m a.e) (as_written b.m b.e) (omega arith)
    ∙ ap₂ is_dyadic_at_most c.a.view_is c.b.view_is
