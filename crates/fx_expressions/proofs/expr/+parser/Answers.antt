use Rattle.std.proofs.Common.{sym, ◌∙◌, arith}
use Rattle.std.proofs.lemmas.Result.{err_from_is_err_and}
use Rattle.fx_grammar.specs.Expressions.{inner_at, factor_of, term_of}
use Rattle.fx_expressions.specs.Views.{known_in, operand_of}
use Rattle.fx_cursor.proofs.Turns.{lengths}
use Rattle.fx_expressions.proofs.Operands.{breaks, combines, ends}
use Rattle.fx_expressions.proofs.expr.+parser.Goals as goal

pub term-returns-in_err-right-clause-value : goal.term-returns-in_err-right-clause-value
term-returns-in_err-right-clause-value t c =
    let known = known_in c.args.context.now in let left = operand_of c.loop-op.left in
    let fault = err_from_is_err_and c.from_residual-in_err-right.result c.from_residual-in_err-right.ensures.1 in
    rw (fault.1, fault.2) (breaks (factor_of known (inner_at known c.args.room)) c.loop-op.invariant.on
    (sym (c.goes_on_product.ensures left) ∙ c.loop-op-test.true)
    (rw c.behind.ensures.value at c.in_err-right.ensures.value))

pub term-loop-op-preserved : goal.term-loop-op-preserved
term-loop-op-preserved t c =
    let known = known_in c.args.context.now in let left = operand_of c.loop-op.left in
    record {
      shorter = omega (arith, c.in_ok-right.ensures.shorter, c.behind.ensures.shorter);
      on = combines (factor_of known (inner_at known c.args.room)) c.loop-op.invariant.on
          (sym (c.goes_on_product.ensures left) ∙ c.loop-op-test.true)
          (rw c.behind.ensures.value at c.in_ok-right.ensures.value)
          (lengths _ _ (omega (arith, c.in_ok-right.ensures.shorter, c.behind.ensures.shorter)))
          (cc (c.in_ok-left-2.ensures, c.peek-op.ensures));
    }

pub term-returns-clause-value : goal.term-returns-clause-value
term-returns-clause-value t c =
    let known = known_in c.args.context.now in let left = operand_of c.loop-op.left in
    ends (factor_of known (inner_at known c.args.room)) c.loop-op.invariant.on
    (sym (c.goes_on_product.ensures left) ∙ c.loop-op-test.false)

pub sum-returns-in_err-right-clause-value : goal.sum-returns-in_err-right-clause-value
sum-returns-in_err-right-clause-value t c =
    let known = known_in c.args.context.now in let left = operand_of c.loop-op.left in
    let fault = err_from_is_err_and c.from_residual-in_err-right.result c.from_residual-in_err-right.ensures.1 in
    rw (fault.1, fault.2) (breaks (term_of known (inner_at known c.args.room)) c.loop-op.invariant.on
    (sym (c.goes_on_sum.ensures left) ∙ c.loop-op-test.true)
    (rw c.behind.ensures.value at c.in_err-right.ensures.value))

pub sum-loop-op-preserved : goal.sum-loop-op-preserved
sum-loop-op-preserved t c =
    let known = known_in c.args.context.now in let left = operand_of c.loop-op.left in
    record {
      shorter = omega (arith, c.in_ok-right.ensures.shorter, c.behind.ensures.shorter);
      on = combines (term_of known (inner_at known c.args.room)) c.loop-op.invariant.on
          (sym (c.goes_on_sum.ensures left) ∙ c.loop-op-test.true)
          (rw c.behind.ensures.value at c.in_ok-right.ensures.value)
          (lengths _ _ (omega (arith, c.in_ok-right.ensures.shorter, c.behind.ensures.shorter)))
          (cc (c.in_ok-left-2.ensures, c.peek-op.ensures));
    }

pub sum-returns-clause-value : goal.sum-returns-clause-value
sum-returns-clause-value t c =
    let known = known_in c.args.context.now in let left = operand_of c.loop-op.left in
    ends (term_of known (inner_at known c.args.room)) c.loop-op.invariant.on
    (sym (c.goes_on_sum.ensures left) ∙ c.loop-op-test.false)
