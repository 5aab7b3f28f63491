use Rattle.std.proofs.Common.{sym, refl}
use Rattle.fx_fraction.proofs.Numbers.{digits_stop, digits_go_on, digits_end}
use Rattle.fx_fraction.proofs.read.read_natural.Goals as goal

pub returns-then-not-is_ascii_digit : goal.returns-then-not-is_ascii_digit
returns-then-not-is_ascii_digit c =
    rw (digits_stop c.args.text.now c.loop-byte.byte-index c.loop-byte-test.true
    (sym c.if-not-is_ascii_digit.ensures.value)) refl

pub loop-byte-preserved : goal.loop-byte-preserved
loop-byte-preserved c =
    let h =
    digits_go_on c.args.text.now c.loop-byte.byte-index c.loop-byte.value c.loop-byte-test.true
    (sym c.if-not-is_ascii_digit.ensures.value) c.loop-byte.invariant.0 c.loop-byte.invariant.1 in
    (h.0, rw (c.saturating_add-value.ensures, c.saturating_mul.ensures, c.from.ensures) h.1)

pub returns : goal.returns
returns c =
    digits_end c.args.text.now c.loop-byte.byte-index c.loop-byte.value c.loop-byte-test.false c.loop-byte.invariant.0
    c.loop-byte.invariant.1
