use Rattle.fx_inequalities.specs.Formula.{Num, point, span}
use Rattle.fx_template.proofs.product.centred.Goals as goal

pub returns : goal.returns
returns c =
    c.minus.ensures (span c.args.range) (point (Num c.args.centre)) c.interval.ensures
    (c.point.ensures (Num c.args.centre) c.number.ensures)
