use Rattle.std.proofs.Common.{◌≡◌, true, false, sym, ◌∙◌, arith}
use Rattle.std.proofs.lemmas.Result.{err_from_is_err_and}
use Rattle.fx_grammar.specs.declared.head.Head.TheVariants as heads
use Rattle.fx_grammar.specs.Steps.{stands_next}
use Rattle.fx_cursor.specs.Views.{lexemes}
use Rattle.fx_grammar.specs.Sources.{one_def, defs_at}
use Rattle.fx_parser.specs.Views.{source_functions_of}
use Rattle.fx_cursor.proofs.Turns.{goes_further, fails, is_over, lengths}
use Rattle.fx_parser.proofs.source.defs.Goals as goal

pub returns-in_err-more-clause-value : goal.returns-in_err-more-clause-value
returns-in_err-more-clause-value c =
    let p = err_from_is_err_and c.from_residual-in_err-more.result c.from_residual-in_err-more.ensures.1 in
    let on : stands_next heads.Def (source_functions_of c.items.source_functions) (lexemes c.items.rest.now) ≡ true =
    sym c.next_is.ensures ∙ c.items-test.true in
    rw (p.1, p.2) (fails (stands_next heads.Def) (one_def c.args.end) (source_functions_of c.items.source_functions)
    (lexemes c.items.rest.now) (defs_at c.args.end (lexemes c.args.tokens.now)) c.in_err-more.field-0.0 on
    c.in_err-more.ensures.value c.items.invariant.on)

pub items-preserved : goal.items-preserved
items-preserved c =
    let on : stands_next heads.Def (source_functions_of c.items.source_functions) (lexemes c.items.rest.now) ≡ true =
    sym c.next_is.ensures ∙ c.items-test.true in
    record {
      shorter = omega (arith, c.in_ok-more.ensures.shorter);
      total = c.items.invariant.total;
      same = c.in_ok-more.ensures.same;
      on =
          goes_further (stands_next heads.Def) (one_def c.args.end) (source_functions_of c.items.source_functions)
          (lexemes c.items.rest.now) (defs_at c.args.end (lexemes c.args.tokens.now)) (
            source_functions_of c.in_ok-more.more,
            lexemes c.in_ok-more.after.now,
          ) on c.in_ok-more.ensures.value (lengths _ _
          (omega (arith, c.in_ok-more.ensures.shorter))) c.items.invariant.on;
    }

pub returns-clause-value : goal.returns-clause-value
returns-clause-value c =
    let off : stands_next heads.Def (source_functions_of c.items.source_functions) (lexemes c.items.rest.now) ≡ false =
    sym c.next_is.ensures ∙ c.items-test.false in
    is_over (stands_next heads.Def) (one_def c.args.end) (source_functions_of c.items.source_functions)
    (lexemes c.items.rest.now) (defs_at c.args.end (lexemes c.args.tokens.now)) off c.items.invariant.on
