use Rattle.std.specs.Option.{option_map}
use Rattle.fx_parser.specs.Views.{source_function_of, source_functions_of}
use Rattle.fx_parser.proofs.Choices.{is_whole}
use Rattle.fx_parser.proofs.wanted.function_in.Goals as goal

pub owned-requires : goal.owned-requires
owned-requires c =
    is_whole c.args.text.now (option_map (λ n. n.now) c.args.name)
    (source_functions_of c.in_ok-source_functions.source_functions)
    (source_function_of c.in_ok-source_function.source_function) c.in_ok-source_functions.ensures.value
    c.in_ok-source_function.ensures
