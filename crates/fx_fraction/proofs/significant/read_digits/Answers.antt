use Rattle.std.proofs.Common.{◌≡◌, ℕ, take, length, get_or, sym, subst, ◌∙◌, arith, below_more}
use Rattle.std.specs.Str.Parse.{digits_value_after}
use Rattle.fx_fraction.specs.Kept.{Keeps}
use Rattle.fx_fraction.specs.Numeral.{digit_count}
use Rattle.fx_fraction.proofs.Digits.{digit_is, after_more, digit_count_is}
use Rattle.fx_fraction.proofs.significant.read_digits.Goals as goal

pub loop-i-preserved : goal.loop-i-preserved
loop-i-preserved c =
    let one = sym c.if-not-is_ascii_digit.ensures.value in
    let d = digit_is (get_or c.args.text.now c.loop-i.i 0) one in
    record {
      digits = below_more _ _ c.loop-i.invariant.digits one;
      value = λ n h.
          let k =
          c.pushed-now.ensures.value (digits_value_after 10 n (take c.loop-i.i c.args.text.now))
          (c.loop-i.invariant.value n h) in
          rw (after_more n c.args.text.now c.loop-i.i c.loop-i-test.true, d.0) (rw c.from.ensures at k);
      zeros = omega (arith, c.pushed-now.ensures.zeros, c.loop-i.invariant.zeros);
      fits = c.pushed-now.ensures.fits;
    }

pub returns-then-not-is_ascii_digit : goal.returns-then-not-is_ascii_digit
returns-then-not-is_ascii_digit c =
    let e : digit_count c.args.text.now ≡ c.loop-i.i =
    digit_count_is c.args.text.now c.loop-i.i (omega arith) c.loop-i.invariant.digits
    (λ _. sym c.if-not-is_ascii_digit.ensures.value) in
    record {
      count = sym e;
      within = omega arith;
      value =
          λ n h. subst (λ (i : ℕ). Keeps (digits_value_after 10 n (take i c.args.text.now)) c.loop-i.now) (sym e)
          (c.loop-i.invariant.value n h);
      zeros = c.loop-i.invariant.zeros;
      fits = c.loop-i.invariant.fits;
    }

pub returns : goal.returns
returns c =
    let at_end : c.loop-i.i ≡ length c.args.text.now = omega arith in
    let e : digit_count c.args.text.now ≡ c.loop-i.i =
    digit_count_is c.args.text.now c.loop-i.i (omega arith) c.loop-i.invariant.digits
    (λ lt. absurd (omega arith)) in
    record {
      count = sym at_end ∙ sym e;
      within = omega arith;
      value =
          λ n h. subst (λ (i : ℕ). Keeps (digits_value_after 10 n (take i c.args.text.now)) c.loop-i.now) (sym e)
          (c.loop-i.invariant.value n h);
      zeros = omega (arith, c.loop-i.invariant.zeros);
      fits = c.loop-i.invariant.fits;
    }
