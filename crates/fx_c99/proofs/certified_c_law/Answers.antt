use Rattle.fx_widths.specs.LeastWidths.{least_widths}
use Rattle.fx_c99.proofs.certified_c_law.Goals as goal

pub returns : goal.returns
returns c rewrite fn p cert gs ts run s certified true_rows states e =
    c.run_law.ensures p (least_widths p cert) gs run s certified.program
    (c.least_law.ensures rewrite fn p cert certified).0 states e
    (c.own_width_law.ensures.rows rewrite fn p cert gs ts certified true_rows)
