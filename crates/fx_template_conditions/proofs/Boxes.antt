-- Short boxes, as products ask for them.
use Rattle.std.proofs.Common.{ℕ, List, arith}
use Rattle.fx_inequalities.specs.Certificate.{StartBox}
use Rattle.fx_formulas.specs.Places.{IsShortSpan}
use Rattle.fx_formulas.proofs.Shorts.{shorter_span}
use Rattle.fx_conditions.specs.Limits.{AreShortBoxes}
use Rattle.fx_cert.specs.declared.side.Side.{Side}
use Rattle.fx_cert.specs.declared.side.Side.TheVariants.{Value, Error}
use Rattle.fx_template_conditions.specs.Boxes.{box_at}

pub box_short : (side : Side) (bs : List StartBox) → AreShortBoxes bs → (k : ℕ) → IsShortSpan 512 (box_at side bs k)
box_short Value bs h k = shorter_span 512 (omega arith) (h k).range
box_short Error bs h k = shorter_span 512 (omega arith) (h k).error
