use Rattle.std.proofs.Common.{lit<, ap, refl, rules}
use Rattle.std.specs.Int.{w32}
use Rattle.std.proofs.lemmas.Int.{to_z-of_z}
use Rattle.fx_program.specs.CodeView.{code_of}
use Rattle.fx_machine.proofs.Codes.{runs_mul, runs_div, runs_copy, lawful_as, shift_copied, shift_near}
use Rattle.fx_machine.proofs.code.scaled.Goals as goal

pub mul_shift-requires : goal.mul_shift-requires
mul_shift-requires g c =
    let is = ap code_of c.in-Mul.is in let l = lawful_as c.requires.lawful is in
    let r = runs_mul c.requires.goes is c.word.ensures c.word-in-Mul.ensures in
    (lit< tt, (c.requires.width, (l.lawful.2, r.fits)))

pub returns-in-Mul : goal.returns-in-Mul
returns-in-Mul g c =
    (runs_mul c.requires.goes (ap code_of c.in-Mul.is) c.word.ensures c.word-in-Mul.ensures).gives c.mul_shift.ensures

pub mul_near-requires : goal.mul_near-requires
mul_near-requires g c =
    let is = ap code_of c.in-MulNear.is in let l = lawful_as c.requires.lawful is in
    let r = runs_mul c.requires.goes is c.word-in-MulNear.ensures c.word-in-MulNear-2.ensures in
    (lit< tt, (c.requires.width, (l.lawful.3, (l.lawful.2, r.fits))))

pub returns-in-MulNear : goal.returns-in-MulNear
returns-in-MulNear g c =
    let is = ap code_of c.in-MulNear.is in
    (runs_mul c.requires.goes is c.word-in-MulNear.ensures c.word-in-MulNear-2.ensures).gives c.mul_near.ensures

pub div_shift-requires : goal.div_shift-requires
div_shift-requires g c =
    let is = ap code_of c.in-Div.is in let l = lawful_as c.requires.lawful is in
    let r = runs_div c.requires.goes is c.word-in-Div.ensures c.word-in-Div-2.ensures in
    (lit< tt, (c.requires.width, (l.lawful.2, r.fits)))

pub returns-in-Div : goal.returns-in-Div
returns-in-Div g c =
    let r = runs_div c.requires.goes (ap code_of c.in-Div.is) c.word-in-Div.ensures c.word-in-Div-2.ensures in
    r.gives c.div_shift.ensures

pub copy_shift-requires : goal.copy_shift-requires
copy_shift-requires g c =
    let is = ap code_of c.in-Copy.is in let et = to_z-of_z w32 c.in-Copy.s (search rules) in
    let shift = shift_copied c.requires.lawful c.requires.width.most is et in
    let r = runs_copy c.requires.goes is c.word-in-Copy.ensures et in (lit< tt, (c.requires.width, (shift, r.fits)))

pub returns-in-Copy : goal.returns-in-Copy
returns-in-Copy g c =
    let et = to_z-of_z w32 c.in-Copy.s (search rules) in
    (runs_copy c.requires.goes (ap code_of c.in-Copy.is) c.word-in-Copy.ensures et).gives c.copy_shift.ensures

pub copy_near-requires : goal.copy_near-requires
copy_near-requires g c =
    let is = ap code_of c.in-CopyNear.is in let shift = shift_near c.requires.lawful is in
    let r = runs_copy c.requires.goes is c.word-in-CopyNear.ensures refl in
    (lit< tt, (c.requires.width, (shift.0, (shift.1, r.fits))))

pub returns-in-CopyNear : goal.returns-in-CopyNear
returns-in-CopyNear g c =
    (runs_copy c.requires.goes (ap code_of c.in-CopyNear.is) c.word-in-CopyNear.ensures refl).gives c.copy_near.ensures
