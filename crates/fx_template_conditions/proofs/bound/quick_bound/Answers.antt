use Rattle.std.proofs.Common.{subst}
use Rattle.fx_formulas.specs.Judging.{FormsSpan}
use Rattle.fx_template_conditions.proofs.Quickly.{times_are}
use Rattle.fx_template_conditions.proofs.bound.quick_bound.Goals as goal

pub returns : goal.returns
returns c =
    λ s h. times_are c.times_ends.result c.args.times c.in-Some.ends s c.keeps.ensures
    (subst (λ o. FormsSpan o s) c.in-Some.is h) c.times_ends.ensures.fits c.times_ends.ensures.is
