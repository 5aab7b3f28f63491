use Rattle.std.proofs.Common.{lit<, ap, rules}
use Rattle.std.specs.Int.{w32}
use Rattle.std.proofs.lemmas.Int.{to_z-of_z}
use Rattle.fx_program.specs.CodeView.{code_of}
use Rattle.fx_machine.proofs.Alone.{one_shift}
use Rattle.fx_machine.proofs.Codes.{runs_neg, runs_add, runs_sub, shifts_added, shifts_subtracted}
use Rattle.fx_machine.proofs.code.computed.Goals as goal

pub neg-requires : goal.neg-requires
neg-requires g c =
    let r = runs_neg c.requires.goes (ap code_of c.in-Neg.is) c.word.ensures in
    (lit< tt, (c.requires.width, r.fits))

pub returns-in-Neg : goal.returns-in-Neg
returns-in-Neg g c =
    let r = runs_neg c.requires.goes (ap code_of c.in-Neg.is) c.word.ensures in r.gives c.neg.ensures

pub add_shifted-requires : goal.add_shifted-requires
add_shifted-requires g c =
    let is = ap code_of c.in-Add.is in
    let es = to_z-of_z w32 c.in-Add.sa (search rules) in let et = to_z-of_z w32 c.in-Add.sb (search rules) in
    let shifts = shifts_added c.requires.lawful is es et in
    let r = runs_add c.requires.goes is c.word-in-Add.ensures c.word-in-Add-2.ensures es et in
    (lit< tt, (c.requires.width, (shifts.left, (shifts.right, r.fits))))

pub returns-in-Add : goal.returns-in-Add
returns-in-Add g c =
    let is = ap code_of c.in-Add.is in
    let es = to_z-of_z w32 c.in-Add.sa (search rules) in let et = to_z-of_z w32 c.in-Add.sb (search rules) in
    let r = runs_add c.requires.goes is c.word-in-Add.ensures c.word-in-Add-2.ensures es et in
    r.gives c.add_shifted.ensures

pub sub_shifted-requires : goal.sub_shifted-requires
sub_shifted-requires g c =
    let is = ap code_of c.in-Sub.is in
    let es = to_z-of_z w32 c.in-Sub.sa (search rules) in let et = to_z-of_z w32 c.in-Sub.sb (search rules) in
    let shifts = shifts_subtracted c.requires.lawful is es et in
    let r = runs_sub c.requires.goes is c.word-in-Sub.ensures c.word-in-Sub-2.ensures es et in
    (lit< tt, (c.requires.width, (shifts.left, (shifts.right, r.fits))))

pub returns-in-Sub : goal.returns-in-Sub
returns-in-Sub g c =
    let is = ap code_of c.in-Sub.is in
    let es = to_z-of_z w32 c.in-Sub.sa (search rules) in let et = to_z-of_z w32 c.in-Sub.sb (search rules) in
    let r = runs_sub c.requires.goes is c.word-in-Sub.ensures c.word-in-Sub-2.ensures es et in
    r.gives c.sub_shifted.ensures

pub scaled-requires : goal.scaled-requires
scaled-requires g c =
    let not = c.in_default in
    let one = one_shift c.args.code.now c.requires.computes not.not-Neg not.not-Add not.not-Sub in
    (lit< tt, (c.requires.width, (one, (c.requires.lawful, (c.requires.words, c.requires.goes)))))
