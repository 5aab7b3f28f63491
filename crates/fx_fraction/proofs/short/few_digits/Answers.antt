use Rattle.std.proofs.Common.{◌≡◌, ℕ, suc, ◌+◌, ◌*◌, ◌-◌, length, take, get_or, ap, sym, subst, ◌∙◌, arith, below_more}
use Rattle.std.specs.Str.Parse.{digits_value_after}
use Rattle.fx_fraction.specs.Numeral.{digit_count}
use Rattle.fx_fraction.specs.ReadParts.{IsBelowTens}
use Rattle.fx_fraction.proofs.Digits.{digit_is, after_more, digit_count_is, below_tens_room, below_tens_more}
use Rattle.fx_fraction.proofs.short.few_digits.Goals as goal

pub overflow_mul-now : goal.overflow_mul-now
overflow_mul-now c = let r = below_tens_room _ _ (omega arith) c.loop-i.invariant.few in omega (arith, r)

pub overflow_add-now : goal.overflow_add-now
overflow_add-now c =
    let r = below_tens_room _ _ (omega arith) c.loop-i.invariant.few in
    let d = digit_is (get_or c.args.text.now c.loop-i.i 0) (sym c.if-not-is_ascii_digit.ensures.value) in
    let digit = c.from.ensures in
    omega (arith, r, d.1, digit)

pub returns-then-not-is_ascii_digit-clause-count : goal.returns-then-not-is_ascii_digit-clause-count
returns-then-not-is_ascii_digit-clause-count c =
    sym (digit_count_is c.args.text.now c.loop-i.i (omega arith) c.loop-i.invariant.digits
    (λ _. sym c.if-not-is_ascii_digit.ensures.value))

pub returns-then-not-is_ascii_digit-clause-value : goal.returns-then-not-is_ascii_digit-clause-value
returns-then-not-is_ascii_digit-clause-value c =
    let e : digit_count c.args.text.now ≡ c.loop-i.i =
    digit_count_is c.args.text.now c.loop-i.i (omega arith) c.loop-i.invariant.digits
    (λ _. sym c.if-not-is_ascii_digit.ensures.value) in
    c.loop-i.invariant.value ∙ ap (λ (i : ℕ). digits_value_after 10 c.args.start (take i c.args.text.now)) (sym e)

pub loop-i-preserved : goal.loop-i-preserved
loop-i-preserved c =
    let one = sym c.if-not-is_ascii_digit.ensures.value in
    let d = digit_is (get_or c.args.text.now c.loop-i.i 0) one in
    let digit = c.from.ensures in
    let left : length c.args.text.now - c.loop-i.i ≡ suc (length c.args.text.now - (c.loop-i.i + 1)) = omega arith in
    record {
      digits = below_more _ _ c.loop-i.invariant.digits one;
      value =
          rw (
            after_more c.args.start c.args.text.now c.loop-i.i c.loop-i-test.true,
            d.0,
          ) (rw c.from.ensures
          (ap (λ (n : ℕ). n * 10 + (get_or c.args.text.now c.loop-i.i 0 - 48)) c.loop-i.invariant.value));
      few =
          below_tens_more _ _ _ (omega (arith, d.1, digit))
          (subst (IsBelowTens c.loop-i.now) left c.loop-i.invariant.few);
    }

pub returns-clause-count : goal.returns-clause-count
returns-clause-count c =
    let at_end : c.loop-i.i ≡ length c.args.text.now = omega arith in
    sym at_end ∙ sym (digit_count_is c.args.text.now c.loop-i.i (omega arith) c.loop-i.invariant.digits
    (λ lt. absurd (omega arith)))

pub returns-clause-value : goal.returns-clause-value
returns-clause-value c =
    let e : digit_count c.args.text.now ≡ c.loop-i.i =
    digit_count_is c.args.text.now c.loop-i.i (omega arith) c.loop-i.invariant.digits
    (λ lt. absurd (omega arith)) in
    c.loop-i.invariant.value ∙ ap (λ (i : ℕ). digits_value_after 10 c.args.start (take i c.args.text.now)) (sym e)
