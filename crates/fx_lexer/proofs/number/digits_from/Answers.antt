use Rattle.std.proofs.Common.{◌≡◌, drop, arith, length-drop}
use Rattle.std.proofs.lemmas.Grind.{common_steps}
use Rattle.std.specs.Char.{is_ascii_digit}
use Rattle.std.specs.List.{prefix_len}
use Rattle.std.proofs.lemmas.List.Sums.{prefix_len-le-length}
use Rattle.fx_lexer.proofs.number.digits_from.Goals as goal

pub returns-clause-within : goal.returns-clause-within
returns-clause-within c =
    let v : c.digits_len.result ≡ prefix_len is_ascii_digit (drop c.args.i c.args.bytes.now) =
    grind (arith, common_steps) in
    omega (
      arith,
      prefix_len-le-length is_ascii_digit (drop c.args.i c.args.bytes.now),
      length-drop c.args.i c.args.bytes.now,
    )
