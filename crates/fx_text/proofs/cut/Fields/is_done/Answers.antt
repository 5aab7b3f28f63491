use Rattle.std.proofs.Common.{◌∙◌, ap, eqb, length}
use Rattle.fx_text.proofs.Cuts.{none_left}
use Rattle.fx_text.proofs.cut.Fields.is_done.Goals as goal

pub returns : goal.returns
returns c =
    none_left c.self.inside.rest c.is_none.result c.is_none.ensures ∙ ap (λ line. eqb (length line) 0) c.self.view_is
