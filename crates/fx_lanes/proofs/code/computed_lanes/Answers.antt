use Rattle.std.proofs.Common.{ap, rules}
use Rattle.fx_program.specs.CodeView.{code_of}
use Rattle.fx_machine.proofs.Alone.{one_shift}
use Rattle.fx_machine.proofs.Codes.{shifts_added, shifts_subtracted}
use Rattle.fx_lanes.proofs.Arms.{differences, opposites, passed, sums}
use Rattle.fx_lanes.proofs.code.computed_lanes.Goals as goal

pub neg-requires : goal.neg-requires
neg-requires g c =
    let r = opposites c.requires.goes (ap code_of c.in-Neg.is) c.lanes_at.ensures in
    record { room = c.requires.room; fits = r.fits }

pub returns-in-Neg : goal.returns-in-Neg
returns-in-Neg g c = (opposites c.requires.goes (ap code_of c.in-Neg.is) c.lanes_at.ensures).are c.neg.ensures

pub add_shifted-requires : goal.add_shifted-requires
add_shifted-requires g c =
    let is = ap code_of c.in-Add.is in
    let es = passed c.in-Add.sa (search rules) in let et = passed c.in-Add.sb (search rules) in
    let shifts = shifts_added c.requires.lawful is es et in
    let r = sums c.requires.goes is c.lanes_at-in-Add.ensures c.lanes_at-in-Add-2.ensures es et in
    record { room = c.requires.room; left = shifts.left; right = shifts.right; fits = r.fits }

pub returns-in-Add : goal.returns-in-Add
returns-in-Add g c =
    let is = ap code_of c.in-Add.is in
    let es = passed c.in-Add.sa (search rules) in let et = passed c.in-Add.sb (search rules) in
    let r = sums c.requires.goes is c.lanes_at-in-Add.ensures c.lanes_at-in-Add-2.ensures es et in
    r.are c.add_shifted.ensures

pub sub_shifted-requires : goal.sub_shifted-requires
sub_shifted-requires g c =
    let is = ap code_of c.in-Sub.is in
    let es = passed c.in-Sub.sa (search rules) in let et = passed c.in-Sub.sb (search rules) in
    let shifts = shifts_subtracted c.requires.lawful is es et in
    let r = differences c.requires.goes is c.lanes_at-in-Sub.ensures c.lanes_at-in-Sub-2.ensures es et in
    record { room = c.requires.room; left = shifts.left; right = shifts.right; fits = r.fits }

pub returns-in-Sub : goal.returns-in-Sub
returns-in-Sub g c =
    let is = ap code_of c.in-Sub.is in
    let es = passed c.in-Sub.sa (search rules) in let et = passed c.in-Sub.sb (search rules) in
    let r = differences c.requires.goes is c.lanes_at-in-Sub.ensures c.lanes_at-in-Sub-2.ensures es et in
    r.are c.sub_shifted.ensures

pub scaled_lanes-requires-clause-one_shift : goal.scaled_lanes-requires-clause-one_shift
scaled_lanes-requires-clause-one_shift g c =
    one_shift c.args.code.now c.requires.computes c.in_default.not-Neg c.in_default.not-Add c.in_default.not-Sub
