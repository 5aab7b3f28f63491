use Rattle.std.proofs.Common.{length, sym, arith, rules, tests}
use Rattle.std.proofs.lemmas.List.Sums.{position_or_len_is}
use Rattle.fx_lexer.specs.Characters.{is_line_feed}
use Rattle.fx_lexer.proofs.comment.line_len.Goals as goal

pub returns-then-byte-eq10 : goal.returns-then-byte-eq10
returns-then-byte-eq10 c =
    sym (position_or_len_is is_line_feed c.args.bytes.now c.loop-i.i 0 (omega arith) c.loop-i.invariant
    (λ _. search (rules, tests)))

pub returns : goal.returns
returns c =
    sym (position_or_len_is is_line_feed c.args.bytes.now (length c.args.bytes.now) 0 (omega arith)
    (λ k lt. c.loop-i.invariant k (omega arith)) (λ lt. absurd (omega arith)))
