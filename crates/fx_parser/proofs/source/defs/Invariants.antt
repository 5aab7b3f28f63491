use Rattle.std.proofs.Common.{◌<◌, ◌≤◌, ◌^◌, length}
use Rattle.fx_grammar.specs.declared.head.Head.TheVariants as heads
use Rattle.fx_grammar.specs.Steps.{stands_next}
use Rattle.fx_cursor.specs.Views.{lexemes}
use Rattle.fx_grammar.specs.Sources.{one_def, defs_at}
use Rattle.fx_parser.specs.Views.{source_functions_of, AreNamed}
use Rattle.fx_cursor.proofs.Turns.{IsOn}
use Rattle.fx_parser.proofs.source.defs.Given as goal

abbrev pub invariant-items : goal.invariant-items
invariant-items l = record {
  shorter : length l.rest ≤ length l.tokens;
  total : length l.tokens < 2 ^ 32;
  same : AreNamed l.source_functions;
  on : IsOn (stands_next heads.Def) (one_def l.end) (source_functions_of l.source_functions) (lexemes l.rest)
      (defs_at l.end (lexemes l.tokens));
}

abbrev pub decreases-items : goal.decreases-items
decreases-items l = length l.rest
