use Rattle.std.proofs.Common.{sym, ap, ◌∙◌}
use Rattle.std.proofs.lemmas.List.{get_or-map}
use Rattle.fx_model.specs.Function.{Function}
use Rattle.fx_parser.specs.Views.{source_function_of}
use Rattle.fx_parser.proofs.Reading.{fine}
use Rattle.fx_parser.proofs.wanted.chosen.Goals as goal

pub returns-in-Ok : goal.returns-in-Ok
returns-in-Ok c =
    c.in-Ok.ensures.value (source_function_of c.swap_remove.result)
    ∙ ap (λ (f : Function). fine f)
    (get_or-map source_function_of c.args.source_functions.list.items c.in-Ok.k c.swap_remove.result _
    c.in-Ok.ensures.within ∙ ap source_function_of (sym c.swap_remove.ensures.value))
