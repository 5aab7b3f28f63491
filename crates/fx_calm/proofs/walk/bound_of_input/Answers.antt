use Rattle.std.proofs.Common.{pos, ap, sym, subst}
use Rattle.fx_rational.specs.Rational.{Rational, whole, AtMost}
use Rattle.fx_model.specs.Function as function
use Rattle.fx_inequalities.specs.NodeConditions.{no_input}
use Rattle.fx_plan_laws.proofs.Inputs.{error_nonnegative}
use Rattle.fx_calm.proofs.walk.bound_of_input.Goals as goal

pub input_of-requires-clause-error : goal.input_of-requires-clause-error
input_of-requires-clause-error c =
    subst (λ (e : Rational). AtMost (whole (pos 0)) e) (sym (ap (λ (i : function.Input). i.err) c.input_at.ensures))
    (error_nonnegative c.args.function.now.inputs c.args.k no_input c.keeps.ensures.inputs c.requires.within)
