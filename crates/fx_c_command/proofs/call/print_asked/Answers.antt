use Rattle.std.proofs.Common.{◌∙◌, ap, sym}
use Rattle.std.specs.Prelude.{option_map}
use Rattle.fx_c_command.specs.WordsView.{request_view}
use Rattle.fx_c_command.proofs.Behaving.{no_printing, printing_as}
use Rattle.fx_c_command.proofs.call.print_asked.Goals as goal

pub returns-in-Some : goal.returns-in-Some
returns-in-Some g c =
    printing_as (sym (ap (option_map request_view) c.in-Some.is) ∙ c.request_of.ensures) c.print_request.ensures

pub returns-in-None : goal.returns-in-None
returns-in-None g c =
    printing_as (sym (ap (option_map request_view) c.in-None.is) ∙ c.request_of.ensures) (no_printing _)
