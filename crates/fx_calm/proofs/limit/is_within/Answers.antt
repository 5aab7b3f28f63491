use Rattle.std.proofs.Common.{◌<◌, pos, ap, sym, subst}
use Rattle.fx_rational.specs.Rational.{Rational, whole, AtMost}
use Rattle.fx_model.specs.Function as function
use Rattle.fx_inequalities.specs.NodeConditions.{no_input}
use Rattle.fx_plan_laws.proofs.Inputs.{error_nonnegative}
use Rattle.fx_calm.specs.LimitOf.{count_of}
use Rattle.fx_calm.proofs.limit.is_within.Goals as goal

pub is_input_below-requires-clause-error : goal.is_input_below-requires-clause-error
is_input_below-requires-clause-error c =
    subst (λ (e : Rational). AtMost (whole (pos 0)) e) (sym (ap (λ (i : function.Input). i.err) c.input_at.ensures))
    (error_nonnegative c.args.function.now.inputs c.args.i no_input c.keeps.ensures.inputs
    (subst (λ l. c.args.i < count_of c.args.function.now l) c.in-Inputs.is c.requires.within))

pub is_error_below-requires-clause-error : goal.is_error_below-requires-clause-error
is_error_below-requires-clause-error c =
    subst (λ (e : Rational). AtMost (whole (pos 0)) e)
    (sym (ap (λ (i : function.Input). i.err) c.input_at-in-Errors.ensures))
    (error_nonnegative c.args.function.now.inputs c.args.i no_input c.keeps.ensures.inputs
    (subst (λ l. c.args.i < count_of c.args.function.now l) c.in-Errors.is c.requires.within))
