use Rattle.std.proofs.Common.{◌<◌, ◌+◌, ◌^◌, length}
use Rattle.fx_grammar.specs.Ranges.{are_open, conditions_step, conditions_at}
use Rattle.fx_cursor.specs.Views.{lexemes}
use Rattle.fx_requirements.specs.Views.{conditions_in}
use Rattle.fx_cursor.proofs.Turns.{IsOn}
use Rattle.fx_requirements.proofs.condition.all_conditions.Given as goal

abbrev pub invariant-conditions : goal.invariant-conditions
invariant-conditions l = record {
  room : l.now.depth + length l.rest < 2 ^ 63;
  shorter : length l.rest < length l.tokens;
  on : IsOn are_open (conditions_step l.end) (conditions_in l.now) (lexemes l.rest)
      (conditions_at l.end (conditions_in l.fn.conditions) (lexemes l.tokens));
}

abbrev pub decreases-conditions : goal.decreases-conditions
decreases-conditions l = length l.rest
