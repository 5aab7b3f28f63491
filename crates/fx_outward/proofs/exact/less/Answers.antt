use Rattle.std.proofs.Common.{subst, inl}
use Rattle.fx_inequalities.specs.Formula.{Num}
use Rattle.fx_formulas.specs.Judging.{Forms}
use Rattle.fx_formulas.proofs.Judged.{difference_none}
use Rattle.fx_outward.proofs.exact.less.Goals as goal

pub returns-in-Some : goal.returns-in-Some
returns-in-Some c =
    λ f h. c.difference.ensures f (Num c.args.d) (subst (λ v. Forms v f) c.in-Some.is h) c.number.ensures

pub returns-in-None : goal.returns-in-None
returns-in-None c = λ f h. difference_none f (Num c.args.d) (inl (subst (λ v. Forms v f) c.in-None.is h))
