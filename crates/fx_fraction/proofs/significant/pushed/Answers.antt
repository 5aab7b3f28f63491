use Rattle.std.proofs.Common.{subst}
use Rattle.fx_fraction.specs.Kept.{Keeps}
use Rattle.fx_fraction.proofs.Fronts.{with_zero, long_goes_on}
use Rattle.fx_fraction.proofs.significant.pushed.Goals as goal

pub returns-then-digit-eq0-2-clause-value : goal.returns-then-digit-eq0-2-clause-value
returns-then-digit-eq0-2-clause-value c = λ n h.
    let k = subst (Keeps n) c.in-Front.is h in
    rw c.if-digit-eq0-2.true (with_zero n c.in-Front.front c.in-Front.zeros k.0.last k.0.value, k.1)

pub returns-in-Long-clause-value : goal.returns-in-Long-clause-value
returns-in-Long-clause-value c = λ n h. long_goes_on n c.args.digit c.requires.digit (subst (Keeps n) c.in-Long.is h)
