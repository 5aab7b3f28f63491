use Rattle.std.proofs.Common.{refl, arith}
use Rattle.fx_calm.proofs.Turned.{ready_next, turned_more, turned_all}
use Rattle.fx_calm.proofs.long_division.turn.Goals as goal

pub loop-i-init : goal.loop-i-init
loop-i-init c = ((refl, refl), omega arith)

pub digit_of-s-requires : goal.digit_of-s-requires
digit_of-s-requires c = record {
  ready = ready_next c.args.c c.loop-i.i c.args.summands.now c.loop-i.summands c.loop-i.s c.requires.ready
      c.loop-i-test.true
      c.loop-i.invariant.0;
}

pub overflow_add-s : goal.overflow_add-s
overflow_add-s c =
    let b = c.loop-i.invariant.1 in let m = c.digit_of-s.ensures.small in let t = c.loop-i-test.true in
    let f = c.requires.few in
    record { fits = omega (arith, b, m, t, f) }

pub rest_of-requires : goal.rest_of-requires
rest_of-requires c = record {
  ready = ready_next c.args.c c.loop-i.i c.args.summands.now c.loop-i.summands c.loop-i.s c.requires.ready
      c.loop-i-test.true
      c.loop-i.invariant.0;
}

pub loop-i-preserved : goal.loop-i-preserved
loop-i-preserved c =
    let b = c.loop-i.invariant.1 in let m = c.digit_of-s.ensures.small in (
      turned_more c.args.c c.loop-i.i c.args.summands.now c.loop-i.summands c.loop-i.s c.digit_of-s.result
          c.rest_of.result
          c.loop-i-test.true c.loop-i.invariant.0 c.digit_of-s.ensures.value c.rest_of.ensures,
      omega (arith, b, m),
    )

pub returns-clause-rests : goal.returns-clause-rests
returns-clause-rests c =
    let past = c.loop-i-test.false in let ends = c.loop-i.auto.i-end in
    (turned_all c.args.c c.loop-i.i c.args.summands.now c.loop-i.summands c.loop-i.s
    (omega (arith, past, ends)) c.loop-i.invariant.0).0

pub returns-clause-digits : goal.returns-clause-digits
returns-clause-digits c =
    let past = c.loop-i-test.false in let ends = c.loop-i.auto.i-end in
    (turned_all c.args.c c.loop-i.i c.args.summands.now c.loop-i.summands c.loop-i.s
    (omega (arith, past, ends)) c.loop-i.invariant.0).1

pub returns-clause-small : goal.returns-clause-small
returns-clause-small c =
    let past = c.loop-i-test.false in let ends = c.loop-i.auto.i-end in let b = c.loop-i.invariant.1 in
    let f = c.requires.few in
    omega (arith, past, ends, b, f)
