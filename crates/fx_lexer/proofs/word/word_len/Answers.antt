use Rattle.std.proofs.Common.{length, sym, arith}
use Rattle.std.proofs.lemmas.List.Sums.{prefix_len_is}
use Rattle.fx_model.specs.Names.{is_word_byte}
use Rattle.fx_lexer.proofs.word.word_len.Goals as goal

pub returns-then-not-is_word_byte : goal.returns-then-not-is_word_byte
returns-then-not-is_word_byte c =
    sym (prefix_len_is is_word_byte c.args.bytes.now c.loop-i.i 0 (omega arith) c.loop-i.invariant
    (λ _. sym c.if-not-is_word_byte.ensures))

pub returns : goal.returns
returns c =
    sym (prefix_len_is is_word_byte c.args.bytes.now (length c.args.bytes.now) 0 (omega arith)
    (λ k lt. c.loop-i.invariant k (omega arith)) (λ lt. absurd (omega arith)))
