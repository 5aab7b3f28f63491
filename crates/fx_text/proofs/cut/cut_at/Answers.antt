use Rattle.std.proofs.Common.{◌∙◌, eqb, length, arith, rules, tests}
use Rattle.std.proofs.lemmas.List.Sums.{position_or_len_is}
use Rattle.std.proofs.lemmas.Grind.{common_steps}
use Rattle.fx_text.proofs.Cuts.{cut_at-found, cut_at-missing}
use Rattle.fx_text.proofs.cut.cut_at.Goals as goal

pub returns-then-byte-at : goal.returns-then-byte-at
returns-then-byte-at c =
    let e =
    position_or_len_is (λ b. eqb b c.args.at) c.args.bytes.now c.loop-i.i 0 (omega arith) c.loop-i.invariant
    (λ _. search (rules, tests)) in
    cut_at-found c.args.at c.args.bytes.now c.loop-i.i e c.loop-i-test.true ∙ grind (arith, common_steps)

pub returns : goal.returns
returns c =
    cut_at-missing c.args.at c.args.bytes.now
    (position_or_len_is (λ b. eqb b c.args.at) c.args.bytes.now (length c.args.bytes.now) 0 (omega arith)
    (λ k lt. c.loop-i.invariant k (omega arith)) (λ lt. absurd (omega arith)))
