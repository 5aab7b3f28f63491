use Rattle.std.proofs.Common.{ap, refl, rules}
use Rattle.fx_program.specs.CodeView.{code_of}
use Rattle.fx_machine.proofs.Codes.{lawful_as, shift_copied, shift_near}
use Rattle.fx_lanes.proofs.Arms.{copies, passed, products, quotients}
use Rattle.fx_lanes.proofs.code.scaled_lanes.Goals as goal

pub mul_shift-requires : goal.mul_shift-requires
mul_shift-requires g c =
    let is = ap code_of c.in-Mul.is in let l = lawful_as c.requires.lawful is in
    let r = products c.requires.goes is c.lanes_at.ensures c.lanes_at-in-Mul.ensures in
    record { room = c.requires.room; shift = l.lawful.2; fits = r.fits }

pub returns-in-Mul : goal.returns-in-Mul
returns-in-Mul g c =
    let r = products c.requires.goes (ap code_of c.in-Mul.is) c.lanes_at.ensures c.lanes_at-in-Mul.ensures in
    r.are c.mul_shift.ensures

pub mul_near-requires : goal.mul_near-requires
mul_near-requires g c =
    let is = ap code_of c.in-MulNear.is in let l = lawful_as c.requires.lawful is in
    let r = products c.requires.goes is c.lanes_at-in-MulNear.ensures c.lanes_at-in-MulNear-2.ensures in
    record { room = c.requires.room; some = l.lawful.3; shift = l.lawful.2; fits = r.fits }

pub returns-in-MulNear : goal.returns-in-MulNear
returns-in-MulNear g c =
    let is = ap code_of c.in-MulNear.is in
    (products c.requires.goes is c.lanes_at-in-MulNear.ensures c.lanes_at-in-MulNear-2.ensures).are c.mul_near.ensures

pub div_shift-requires : goal.div_shift-requires
div_shift-requires g c =
    let is = ap code_of c.in-Div.is in let l = lawful_as c.requires.lawful is in
    let r = quotients c.requires.goes is c.lanes_at-in-Div.ensures c.lanes_at-in-Div-2.ensures in
    record { room = c.requires.room; shift = l.lawful.2; fits = r.fits }

pub returns-in-Div : goal.returns-in-Div
returns-in-Div g c =
    let is = ap code_of c.in-Div.is in
    (quotients c.requires.goes is c.lanes_at-in-Div.ensures c.lanes_at-in-Div-2.ensures).are c.div_shift.ensures

pub copy_shift-requires : goal.copy_shift-requires
copy_shift-requires g c =
    let is = ap code_of c.in-Copy.is in let et = passed c.in-Copy.s (search rules) in
    let r = copies c.requires.goes is c.lanes_at-in-Copy.ensures et in
    record { room = c.requires.room; shift = shift_copied c.requires.lawful c.requires.width.most is et; fits = r.fits }

pub returns-in-Copy : goal.returns-in-Copy
returns-in-Copy g c =
    let et = passed c.in-Copy.s (search rules) in
    (copies c.requires.goes (ap code_of c.in-Copy.is) c.lanes_at-in-Copy.ensures et).are c.copy_shift.ensures

pub copy_near-requires : goal.copy_near-requires
copy_near-requires g c =
    let is = ap code_of c.in-CopyNear.is in let shift = shift_near c.requires.lawful is in
    let r = copies c.requires.goes is c.lanes_at-in-CopyNear.ensures refl in
    record { room = c.requires.room; some = shift.0; shift = shift.1; fits = r.fits }

pub returns-in-CopyNear : goal.returns-in-CopyNear
returns-in-CopyNear g c =
    (copies c.requires.goes (ap code_of c.in-CopyNear.is) c.lanes_at-in-CopyNear.ensures refl).are c.copy_near.ensures
