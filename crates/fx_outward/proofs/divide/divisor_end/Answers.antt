use Rattle.std.proofs.Common.{◌∙◌, ap₂, subst, sym}
use Rattle.fx_rational.specs.Dyadic.{least, greatest}
use Rattle.fx_outward.proofs.Dividing.{IsAboveZero, least_above, greatest_above}
use Rattle.fx_outward.proofs.divide.divisor_end.Goals as goal

pub returns-then-is_least-clause-above : goal.returns-then-is_least-clause-above
returns-then-is_least-clause-above c =
    subst IsAboveZero (sym (c.least.ensures ∙ ap₂ least c.low.ensures c.high.ensures))
    (least_above c.args.b.lo c.args.b.hi c.requires.lo c.requires.hi)

pub returns-else-is_least-clause-above : goal.returns-else-is_least-clause-above
returns-else-is_least-clause-above c =
    subst IsAboveZero (sym (c.greatest.ensures ∙ ap₂ greatest c.low-else-is_least.ensures c.high-else-is_least.ensures))
    (greatest_above c.args.b.lo c.args.b.hi c.requires.lo c.requires.hi)
