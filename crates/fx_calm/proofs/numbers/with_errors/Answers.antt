use Rattle.std.proofs.Common.{◌∙◌, ◌&&◌, int_le, pos, sym, ap, arith}
use Rattle.std.specs.List.{list_all}
use Rattle.fx_plan_laws.specs.Demands.{allows}
use Rattle.fx_plan_laws.specs.Calm.{Numbers}
use Rattle.fx_calm.specs.NumbersOf.{numbers_view}
use Rattle.fx_calm.proofs.Found.{none_is, some_is, not_both, no_errors, numbers_are, calm_is}
use Rattle.fx_calm.proofs.numbers.with_errors.Goals as goal

pub returns-then-d-gt60 : goal.returns-then-d-gt60
returns-then-d-gt60 c =
    let t = c.if-d-gt60.true in
    none_is c.args.width c.args.function.now
    (no_errors c.args.width c.args.function.now c.requires.width c.keeps.ensures c.args.q c.args.a c.args.m
    c.requires.exponents c.point-f.result c.in_ok-d.d c.point-f.ensures c.in_ok-d.ensures (omega (arith, t)))

pub returns-then-has_room : goal.returns-then-has_room
returns-then-has_room c =
    let few = c.if-d-gt60.false in let room = c.if-p-f.false in
    some_is c.args.width c.args.function.now (numbers_view c.numbers_at-c.result)
    (numbers_are c.args.width c.args.function.now c.requires.width c.keeps.ensures c.args.q c.args.a c.args.m
    c.requires.exponents c.point-f.result c.max-p.result c.in_ok-d.d c.point-f.ensures c.max-p.ensures
    c.in_ok-d.ensures (omega (arith, few)) ∙ sym c.numbers_at-c.ensures)
    (calm_is c.args.width c.args.function.now c.requires.width c.keeps.ensures c.args.q c.args.a c.args.m
    c.requires.exponents c.point-f.result c.max-p.result c.in_ok-d.d c.point-f.ensures c.max-p.ensures
    c.in_ok-d.ensures (omega (arith, few)) (omega (arith, room))
    ∙ sym (ap (λ (x : Numbers). int_le x.z (pos x.m) &&
    list_all (λ d. allows d x.z) c.args.function.now.demands) c.numbers_at-c.ensures) ∙ sym c.has_room.ensures
    ∙ c.if-has_room.true)

pub returns-else-has_room : goal.returns-else-has_room
returns-else-has_room c =
    let few = c.if-d-gt60.false in let room = c.if-p-f.false in
    none_is c.args.width c.args.function.now (λ calm. not_both calm
    (calm_is c.args.width c.args.function.now c.requires.width c.keeps.ensures c.args.q c.args.a c.args.m
    c.requires.exponents c.point-f.result c.max-p.result c.in_ok-d.d c.point-f.ensures c.max-p.ensures
    c.in_ok-d.ensures (omega (arith, few)) (omega (arith, room))
    ∙ sym (ap (λ (x : Numbers). int_le x.z (pos x.m) &&
    list_all (λ d. allows d x.z) c.args.function.now.demands) c.numbers_at-c.ensures) ∙ sym c.has_room.ensures
    ∙ c.if-has_room.false))
