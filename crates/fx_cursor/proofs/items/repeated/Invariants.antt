use Rattle.std.proofs.Common.{◌≤◌, length}
use Rattle.fx_grammar.specs.Steps.{repeated, stands_next, behind}
use Rattle.fx_cursor.specs.Views.{lexemes}
use Rattle.fx_cursor.proofs.Turns.{IsOn}
use Rattle.fx_cursor.proofs.items.repeated.Given as goal

abbrev pub invariant-items : goal.invariant-items
invariant-items g l = record {
  shorter : length l.rest ≤ length l.tokens;
  ready : g.R.Rule.can_go_on l.rule l.now;
  on : IsOn (stands_next l.sign) (behind (g.R.Rule.item_at l.rule)) (g.R.Rule.value_of l.now) (lexemes l.rest)
      (repeated (stands_next l.sign) (behind (g.R.Rule.item_at l.rule)) (g.R.Rule.value_of l.fn.kept)
      (lexemes l.tokens));
}

abbrev pub decreases-items : goal.decreases-items
decreases-items g l = length l.rest
