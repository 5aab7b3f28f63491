use Rattle.std.proofs.Common.{sym, ap, ◌∙◌}
use Rattle.fx_grammar.specs.Steps.{name_place}
use Rattle.fx_parser.specs.Views.{source_functions_of}
use Rattle.fx_parser.proofs.Choices.{of_name, no_name}
use Rattle.fx_parser.proofs.wanted.by_name.Goals as goal

pub returns-in-Some-clause-value : goal.returns-in-Some-clause-value
returns-in-Some-clause-value c =
    λ d. of_name c.args.name.now (source_functions_of c.args.source_functions.now) c.in-Some.k d
    (ap (λ names. name_place names c.args.name.now) (sym c.requires) ∙ sym c.place.ensures.value ∙ c.in-Some.is)

pub returns-in-None-clause-value : goal.returns-in-None-clause-value
returns-in-None-clause-value c = no_name c.args.name.now (source_functions_of c.args.source_functions.now)
    (ap (λ names. name_place names c.args.name.now) (sym c.requires) ∙ sym c.place.ensures.value ∙ c.in-None.is)
