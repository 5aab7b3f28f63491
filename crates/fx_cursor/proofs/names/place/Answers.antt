use Rattle.std.proofs.Common.{ap, ◌∙◌}
use Rattle.fx_grammar.specs.Steps.{name_place}
use Rattle.fx_cursor.proofs.Keys.{place_is}
use Rattle.fx_cursor.proofs.names.place.Goals as goal

pub returns-clause-value : goal.returns-clause-value
returns-clause-value c =
    c.get_index_of.ensures.index ∙ place_is c.names.inside.set.keys c.args.text.now
    ∙ ap (λ names. name_place names c.args.text.now) c.names.view_is
