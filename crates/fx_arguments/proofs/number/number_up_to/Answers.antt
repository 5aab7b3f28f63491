use Rattle.std.proofs.Common.{◌≡◌, ◌<◌, ◌^◌, true, rules}
use Rattle.fx_arguments.specs.Numbers.{is_numeral}
use Rattle.fx_arguments.proofs.Digits.{above-each-limit}
use Rattle.fx_arguments.proofs.number.number_up_to.Goals as goal

pub returns-in-Err-clause-number : goal.returns-in-Err-clause-number
returns-in-Err-clause-number c =
    let small : c.args.limit < 2 ^ 64 = search rules in
    let numeral : is_numeral c.args.text.now ≡ true = search rules in
    above-each-limit c.args.limit c.args.text.now small numeral c.in-Err.ensures.value.0
