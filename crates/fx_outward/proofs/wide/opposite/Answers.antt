use Rattle.std.proofs.Common.{◌∙◌, sym, ap, subst}
use Rattle.fx_outward.specs.Grid.{is_small}
use Rattle.fx_outward.specs.Wide.{IsEnd}
use Rattle.fx_outward.proofs.Ends.{turned, turned_short}
use Rattle.fx_outward.proofs.wide.opposite.Goals as goal

pub returns-in-None : goal.returns-in-None
returns-in-None c = λ d h. turned_short d ∙ subst (λ o. IsEnd o d) c.in-None.is h

pub returns-then-is_small : goal.returns-then-is_small
returns-then-is_small c = λ d h. c.negated.ensures ∙ ap turned (subst (λ o. IsEnd o d) c.in-Some.is h)

pub returns-else-is_small : goal.returns-else-is_small
returns-else-is_small c =
    λ d h. turned_short d ∙ ap is_small (sym (subst (λ o. IsEnd o d) c.in-Some.is h)) ∙ sym c.if-is_small.ensures
