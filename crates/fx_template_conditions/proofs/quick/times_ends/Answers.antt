use Rattle.std.proofs.Common.{◌≡◌, IsTrue, ap₂, subst, ◌∙◌}
use Rattle.fx_rational.specs.Dyadic.{Dyadic, least, greatest}
use Rattle.fx_rational.specs.Interval.{Interval, interval_product, interval_product_fits}
use Rattle.fx_template_conditions.proofs.Taken.{ends_fit, ends_are}
use Rattle.fx_template_conditions.proofs.quick.times_ends.Goals as goal

pub returns-clause-fits : goal.returns-clause-fits
returns-clause-fits c =
    subst (λ (v : Interval). IsTrue (interval_product_fits (record { lo = c.args.a; hi = c.args.a }) v)) c.ends.view_is
    (ends_fit c.args.a (record {
      lo = c.ends.inside.lo;
      hi = c.ends.inside.hi;
    }) c.in_ok-low.ensures.fits c.in_ok-high.ensures.fits)

pub returns-clause-is : goal.returns-clause-is
returns-clause-is c =
    ap₂ (λ (l h : Dyadic). record { lo = l; hi = h }) c.least.ensures c.greatest.ensures
    ∙ subst (λ (v : Interval). record {
      lo = least c.in_ok-low.low c.in_ok-high.high;
      hi = greatest c.in_ok-low.low c.in_ok-high.high;
    } ≡ interval_product (record {
      lo = c.args.a;
      hi = c.args.a;
    }) v) c.ends.view_is
    (ends_are c.args.a c.in_ok-low.low c.in_ok-high.high
    (record { lo = c.ends.inside.lo; hi = c.ends.inside.hi }) c.in_ok-low.ensures.is c.in_ok-high.ensures.is)
