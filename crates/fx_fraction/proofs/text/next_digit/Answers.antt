use Rattle.std.proofs.Common.{◌*◌, ◌^◌, ◌≤◌, ◌+◌, refl, ◌∙◌, arith}
use Rattle.fx_fraction.proofs.Quanta.{two_up}
use Rattle.fx_fraction.proofs.Tails.{mask_is, rest_is}
use Rattle.fx_fraction.proofs.text.next_digit.Goals as goal

pub overflow_mul-next : goal.overflow_mul-next
overflow_mul-next c = let p : 2 ^ (c.args.left + 1) ≤ 2 ^ 61 = two_up (c.args.left + 1) 61 (omega arith) in omega arith

pub returns-then-left-lt61-clause-rest : goal.returns-then-left-lt61-clause-rest
returns-then-left-lt61-clause-rest c = mask_is (5 * c.args.rest) c.args.left (omega arith)

pub returns-else-left-lt61-clause-rest : goal.returns-else-left-lt61-clause-rest
returns-else-left-lt61-clause-rest c =
    rest_is (5 * c.from-next.result) c.args.left (omega arith) ∙ rw c.from-next.ensures refl
