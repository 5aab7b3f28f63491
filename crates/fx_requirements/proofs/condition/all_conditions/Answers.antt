use Rattle.std.proofs.Common.{◌≡◌, true, false, arith, rules, tests}
use Rattle.std.proofs.lemmas.Result.{err_from_is_err_and}
use Rattle.fx_grammar.specs.Ranges.{are_open, conditions_step, conditions_at}
use Rattle.fx_cursor.specs.Views.{lexemes}
use Rattle.fx_requirements.specs.Views.{conditions_in}
use Rattle.fx_cursor.proofs.Turns.{goes_further, fails, is_over, lengths}
use Rattle.fx_requirements.proofs.condition.all_conditions.Goals as goal

pub returns-in_err-more-clause-value : goal.returns-in_err-more-clause-value
returns-in_err-more-clause-value c =
    let p = err_from_is_err_and c.from_residual-in_err-more.result c.from_residual-in_err-more.ensures.1 in
    let on : are_open (conditions_in c.conditions.now) (lexemes c.conditions.rest.now) ≡ true = search (rules, tests) in
    rw (p.1, p.2) (fails are_open (conditions_step c.args.end) (conditions_in c.conditions.now)
    (lexemes c.conditions.rest.now)
    (conditions_at c.args.end (conditions_in c.args.conditions)
    (lexemes c.args.tokens.now)) c.in_err-more.field-0.0 on c.in_err-more.ensures.value c.conditions.invariant.on)

pub conditions-preserved : goal.conditions-preserved
conditions-preserved c =
    let on : are_open (conditions_in c.conditions.now) (lexemes c.conditions.rest.now) ≡ true = search (rules, tests) in
    record {
      room = omega (arith, c.in_ok-more.ensures.room);
      shorter = omega (arith, c.in_ok-more.ensures.room);
      on =
          goes_further are_open (conditions_step c.args.end) (conditions_in c.conditions.now)
          (lexemes c.conditions.rest.now)
          (conditions_at c.args.end (conditions_in c.args.conditions) (lexemes c.args.tokens.now))
          (conditions_in c.in_ok-more.more, lexemes c.in_ok-more.after.now) on c.in_ok-more.ensures.value
          (lengths _ _ (omega (arith, c.in_ok-more.ensures.room))) c.conditions.invariant.on;
    }

pub returns-clause-value : goal.returns-clause-value
returns-clause-value c =
    let off : are_open (conditions_in c.conditions.now) (lexemes c.conditions.rest.now) ≡ false =
    search (rules, tests) in
    is_over are_open (conditions_step c.args.end) (conditions_in c.conditions.now) (lexemes c.conditions.rest.now)
    (conditions_at c.args.end (conditions_in c.args.conditions)
    (lexemes c.args.tokens.now)) off c.conditions.invariant.on
