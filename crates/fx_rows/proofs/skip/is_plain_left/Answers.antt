use Rattle.std.proofs.Common.{ap, ◌∙◌, arith}
use Rattle.fx_rows.specs.Passing.{special_left}
use Rattle.fx_rows.proofs.Passed.{plain_text}
use Rattle.fx_rows.proofs.skip.is_plain_left.Goals as goal

pub returns : goal.returns
returns c = λ _. ap special_left c.in-Some.is
    ∙ plain_text c.in-Some.text.now (λ k lt. c.loop-byte.invariant k (omega (arith, lt, c.loop-byte-test.false)))
