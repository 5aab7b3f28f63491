use Rattle.std.proofs.Common.{◌≡◌, ◌+◌, ◌*◌, ◌^◌, refl, arith}
use Rattle.fx_fraction.proofs.Fronts.{with_digit, some_digit, is_long, is_longer}
use Rattle.fx_fraction.proofs.significant.joined.Goals as goal

pub returns-then-zeros-gt17-clause-value : goal.returns-then-zeros-gt17-clause-value
returns-then-zeros-gt17-clause-value c =
    λ n h. is_longer n c.args.front c.args.zeros c.args.digit c.requires.digit.0 c.requires.digit.1 h.0
    c.if-zeros-gt17.true

pub returns-then-next-clause-value : goal.returns-then-next-clause-value
returns-then-next-clause-value c = λ n h.
    let e : c.from.result * c.from-2.result + c.from-3.result ≡ c.args.front * 10 ^ (c.args.zeros + 1) + c.args.digit =
    rw (c.from.ensures, c.from-2.ensures, c.from-3.ensures, c.ten_to-scale.ensures.value) refl in (
      rw e (with_digit n c.args.front c.args.zeros c.args.digit c.requires.digit.0 c.requires.digit.1 h.0.value),
      c.if-next.true,
    )

pub returns-then-next-clause-fits : goal.returns-then-next-clause-fits
returns-then-next-clause-fits c =
    let e : c.from.result * c.from-2.result + c.from-3.result ≡ c.args.front * 10 ^ (c.args.zeros + 1) + c.args.digit =
    rw (c.from.ensures, c.from-2.ensures, c.from-3.ensures, c.ten_to-scale.ensures.value) refl in
    (rw e (some_digit c.args.front c.args.zeros c.args.digit c.requires.digit.0 c.requires.digit.1), omega arith)

pub returns-else-next-clause-value : goal.returns-else-next-clause-value
returns-else-next-clause-value c = λ n h.
    let e : c.from.result * c.from-2.result + c.from-3.result ≡ c.args.front * 10 ^ (c.args.zeros + 1) + c.args.digit =
    rw (c.from.ensures, c.from-2.ensures, c.from-3.ensures, c.ten_to-scale.ensures.value) refl in
    is_long n c.args.front c.args.zeros c.args.digit c.requires.digit.0 c.requires.digit.1 h.0 (rw e at c.if-next.false)
