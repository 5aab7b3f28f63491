use Rattle.fx_inequalities.specs.Formula.{Num, point, span}
use Rattle.fx_template.proofs.product.scaled.Goals as goal

pub returns : goal.returns
returns c =
    c.times.ensures (point (Num c.args.m)) (span c.args.rest) c.requires
    (c.point.ensures (Num c.args.m) c.number.ensures) c.interval.ensures
