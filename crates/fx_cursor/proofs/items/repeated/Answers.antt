use Rattle.std.proofs.Common.{◌≡◌, true, false, sym, ◌∙◌, arith}
use Rattle.std.proofs.lemmas.Result.{err_from_is_err_and}
use Rattle.fx_grammar.specs.Steps.{repeated, stands_next, behind}
use Rattle.fx_cursor.specs.Views.{lexemes}
use Rattle.fx_cursor.proofs.Turns.{goes_further, fails, is_over, lengths}
use Rattle.fx_cursor.proofs.items.repeated.Goals as goal

pub returns-in_err-more-clause-value : goal.returns-in_err-more-clause-value
returns-in_err-more-clause-value g c =
    let item = g.R.Rule.item_at c.args.rule.now in let kept = g.R.Rule.value_of c.items.now in
    let ts = lexemes c.items.rest.now in
    let p = err_from_is_err_and c.from_residual-in_err-more.result c.from_residual-in_err-more.ensures.1 in
    let on : stands_next c.args.sign kept ts ≡ true = sym c.next_is.ensures ∙ c.items-test.true in
    rw (p.1, p.2) (fails (stands_next c.args.sign) (behind item) kept ts
    (repeated (stands_next c.args.sign) (behind item) (g.R.Rule.value_of c.args.kept)
    (lexemes c.args.tokens.now)) c.in_err-more.field-0.0 on
    (rw c.behind.ensures.value at c.in_err-more.ensures.value) c.items.invariant.on)

pub items-preserved : goal.items-preserved
items-preserved g c =
    let item = g.R.Rule.item_at c.args.rule.now in let kept = g.R.Rule.value_of c.items.now in
    let ts = lexemes c.items.rest.now in
    let on : stands_next c.args.sign kept ts ≡ true = sym c.next_is.ensures ∙ c.items-test.true in
    record {
      shorter = omega (arith, c.in_ok-more.ensures.shorter, c.behind.ensures.shorter);
      ready = c.in_ok-more.ensures.on;
      on =
          goes_further (stands_next c.args.sign) (behind item) kept ts
          (repeated (stands_next c.args.sign) (behind item) (g.R.Rule.value_of c.args.kept)
          (lexemes c.args.tokens.now)) (
            g.R.Rule.value_of c.in_ok-more.more,
            lexemes c.in_ok-more.after.now,
          ) on (rw c.behind.ensures.value at c.in_ok-more.ensures.value) (lengths _ _
          (omega (arith, c.in_ok-more.ensures.shorter, c.behind.ensures.shorter))) c.items.invariant.on;
    }

pub returns-clause-value : goal.returns-clause-value
returns-clause-value g c =
    let item = g.R.Rule.item_at c.args.rule.now in let kept = g.R.Rule.value_of c.items.now in
    let off : stands_next c.args.sign kept (lexemes c.items.rest.now) ≡ false = sym c.next_is.ensures
    ∙ c.items-test.false in
    is_over (stands_next c.args.sign) (behind item) kept (lexemes c.items.rest.now)
    (repeated (stands_next c.args.sign) (behind item) (g.R.Rule.value_of c.args.kept)
    (lexemes c.args.tokens.now)) off c.items.invariant.on
