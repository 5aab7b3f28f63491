use Rattle.std.proofs.Common.{◌<◌, length, ◌+◌, ◌*◌}
use Rattle.fx_grammar.specs.Expressions.{goes_on_product, goes_on_sum, one_more, factor_of, term_of, sum_from, inner_at}
use Rattle.fx_cursor.specs.Views.{lexemes}
use Rattle.fx_expressions.specs.Views.{known_in, operand_of}
use Rattle.fx_cursor.proofs.Turns.{IsOn}
use Rattle.fx_expressions.proofs.expr.+parser.Given as goal

abbrev pub decreases-opened : goal.decreases-opened
decreases-opened l = 6 * l.room

abbrev pub decreases-atom : goal.decreases-atom
decreases-atom l = 6 * l.room + 1

abbrev pub decreases-negated : goal.decreases-negated
decreases-negated l = 6 * l.room + 2

abbrev pub decreases-factor : goal.decreases-factor
decreases-factor l = 6 * l.room + 3

abbrev pub decreases-term : goal.decreases-term
decreases-term l = 6 * l.room + 4

abbrev pub decreases-sum : goal.decreases-sum
decreases-sum l = 6 * l.room + 5

abbrev pub invariant-term-loop-op : goal.invariant-term-loop-op
invariant-term-loop-op l = let known = known_in l.context in let inner = inner_at known l.room in
    record {
      shorter : length l.rest < length l.tokens;
      on : IsOn goes_on_product (one_more (factor_of known inner)) (operand_of l.left) (lexemes l.rest)
          (term_of known inner (lexemes l.tokens));
    }

abbrev pub decreases-term-loop-op : goal.decreases-term-loop-op
decreases-term-loop-op l = length l.rest

abbrev pub invariant-sum-loop-op : goal.invariant-sum-loop-op
invariant-sum-loop-op l = let known = known_in l.context in let inner = inner_at known l.room in
    record {
      shorter : length l.rest < length l.tokens;
      on : IsOn (goes_on_sum l.outside) (one_more (term_of known inner)) (operand_of l.left) (lexemes l.rest)
          (sum_from known l.outside inner (lexemes l.tokens));
    }

abbrev pub decreases-sum-loop-op : goal.decreases-sum-loop-op
decreases-sum-loop-op l = length l.rest
