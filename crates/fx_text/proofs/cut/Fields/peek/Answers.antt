use Rattle.std.proofs.Common.{ap, sym, ◌∙◌}
use Rattle.std.specs.Prelude.{slice_get}
use Rattle.fx_text.specs.Cutting.{left_of}
use Rattle.fx_text.proofs.Cuts.{fields_of-more, fields_of-last}
use Rattle.fx_text.proofs.cut.Fields.peek.Goals as goal

pub returns-in-Some : goal.returns-in-Some
returns-in-Some c = ap (λ line. slice_get line 0) (sym c.self.view_is ∙ ap left_of c.in_ok-rest.was
    ∙ fields_of-more c.in_ok-rest.rest.now c.in-Some.field.now _ c.in-Some.ensures)

pub returns-in-None : goal.returns-in-None
returns-in-None c = ap (λ line. slice_get line 0) (sym c.self.view_is ∙ ap left_of c.in_ok-rest.was
    ∙ fields_of-last c.in_ok-rest.rest.now c.in-None.ensures)
