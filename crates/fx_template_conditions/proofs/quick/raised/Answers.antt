use Rattle.std.proofs.Common.{◌≤◌, ◌*◌, ◌^◌, unsigned_abs, FitsSigned, arith, rules}
use Rattle.std.specs.Int.{w64}
use Rattle.fx_template_conditions.proofs.Raised.{room_left, raised_is, raised_near}
use Rattle.fx_template_conditions.proofs.quick.raised.Goals as goal

-- there is room for the power
near : (c : goal.After-struct_told-1) → unsigned_abs c.args.times.mantissa * 2 ^ c.args.places ≤ 2 ^ 62
near c =
    room_left (unsigned_abs c.args.times.mantissa) c.args.places c.args.times.room c.if-times-places.false
    c.requires.near

few : (c : goal.After-struct_told-1) → c.args.places ≤ 62
few c = let r = c.requires.few in omega (arith, r, c.if-times-places.false)

fits : (c : goal.After-struct_told-1) → FitsSigned w64 c.args.times.mantissa
fits c = search rules

pub overflow_mul-result : goal.overflow_mul-result
overflow_mul-result c =
    (raised_is c.args.times.mantissa c.short_two_to.result c.args.places (fits c) (few c) c.short_two_to.ensures.value
    (near c)).0

pub returns-clause-is : goal.returns-clause-is
returns-clause-is c =
    (raised_is c.args.times.mantissa c.short_two_to.result c.args.places (fits c) (few c) c.short_two_to.ensures.value
    (near c)).1

pub returns-clause-near : goal.returns-clause-near
returns-clause-near c =
    raised_near c.args.times.mantissa _ c.args.places
    (raised_is c.args.times.mantissa c.short_two_to.result c.args.places (fits c) (few c) c.short_two_to.ensures.value
    (near c)).1 (near c)
