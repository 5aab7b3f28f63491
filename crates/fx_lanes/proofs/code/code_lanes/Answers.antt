use Rattle.std.proofs.Common.{sym, ap, subst, rules}
use Rattle.std.specs.Int.{w64}
use Rattle.std.proofs.lemmas.Int.{to_z-of_z}
use Rattle.fx_model.specs.LawfulProgram.{IsPoint}
use Rattle.fx_program.specs.CodeView.{code_of}
use Rattle.fx_machine.proofs.Alone.{computes, lawful_alone}
use Rattle.fx_machine.proofs.Codes.{lawful_as}
use Rattle.fx_lanes.proofs.Arms.{constant, inputs, lanes_alone, passed, words_alone}
use Rattle.fx_lanes.proofs.code.code_lanes.Goals as goal

pub input_lanes-requires : goal.input_lanes-requires
input_lanes-requires g c =
    let is = ap code_of c.in-Input.is in let l = lawful_as c.requires.lawful is in
    let et = passed c.in-Input.f (search rules) in
    let r = inputs (record { some = c.requires.runs }) is c.requires.many l.placed.1 et in record {
      width = c.requires.width;
      room = c.requires.room;
      many = c.requires.many;
      few = c.requires.few;
      within = l.placed.1;
      point = subst IsPoint (sym et) l.point;
      words = r.fits;
    }

pub returns-in-Input : goal.returns-in-Input
returns-in-Input g c =
    let is = ap code_of c.in-Input.is in let l = lawful_as c.requires.lawful is in
    let et = passed c.in-Input.f (search rules) in
    let r = inputs (record { some = c.requires.runs }) is c.requires.many l.placed.1 et in
    r.are (g.L.SideBySide.words c.input_lanes.result) c.input_lanes.ensures

pub splat-requires : goal.splat-requires
splat-requires g c =
    let ev = to_z-of_z w64 c.in-Const.w (search rules) in
    let r = constant (record { some = c.requires.runs }) (ap code_of c.in-Const.is) ev in
    record { room = c.requires.room; word = r.fits }

pub returns-in-Const : goal.returns-in-Const
returns-in-Const g c =
    let ev = to_z-of_z w64 c.in-Const.w (search rules) in
    let r = constant (record { some = c.requires.runs }) (ap code_of c.in-Const.is) ev in r.are c.splat.ensures

pub computed_lanes-requires : goal.computed_lanes-requires
computed_lanes-requires g c =
    let q = computes c.args.code.now c.in_default.not-Input c.in_default.not-State c.in_default.not-Const in
    record {
      width = c.requires.width;
      room = c.requires.room;
      computes = q;
      lawful = lawful_alone c.requires.lawful q;
      goes = lanes_alone (record { some = c.requires.runs }) q;
    }

pub returns-in_default : goal.returns-in_default
returns-in_default g c =
    let q = computes c.args.code.now c.in_default.not-Input c.in_default.not-State c.in_default.not-Const in
    words_alone (record { some = c.requires.runs }) q c.computed_lanes.ensures
