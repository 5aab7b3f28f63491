use Rattle.std.proofs.Common.{◌≡◌, ◌-◌, ℕ, List, length, drop, get_or, subst, length-drop, arith, rules}
use Rattle.std.specs.Str.Parse.{digits_value_after}
use Rattle.std.proofs.lemmas.List.{take_all}
use Rattle.fx_fraction.specs.Kept.{Keeps}
use Rattle.fx_fraction.specs.Numeral.{first_digits}
use Rattle.fx_fraction.proofs.read.read_part.Goals as goal

pub overflow_add-result : goal.overflow_add-result
overflow_add-result c = let e = length-drop 1 c.args.text.now in omega (arith, c.read_digits-digits.ensures.within, e)

pub returns-in-46-clause-zeros : goal.returns-in-46-clause-zeros
returns-in-46-clause-zeros c =
    let e = length-drop 1 c.args.text.now in
    omega (arith, c.read_digits-digits.ensures.within, c.read_digits-digits.ensures.zeros, e)

pub returns-in-46-clause-within : goal.returns-in-46-clause-within
returns-in-46-clause-within c =
    let e = length-drop 1 c.args.text.now in omega (arith, c.read_digits-digits.ensures.within, e)

pub returns-in-46-clause-value : goal.returns-in-46-clause-value
returns-in-46-clause-value c = λ n h.
    let point : get_or c.args.text.now 0 0 ≡ 46 = search rules in
    let whole =
    take_all (length c.args.text.now - 1) (drop 1 c.args.text.now) (omega (arith, length-drop 1 c.args.text.now)) in
    rw point (subst (λ (xs : List ℕ). Keeps
    (digits_value_after 10 n (first_digits xs)) c.read_digits-digits.result.0) whole
    (c.read_digits-digits.ensures.value n h))
