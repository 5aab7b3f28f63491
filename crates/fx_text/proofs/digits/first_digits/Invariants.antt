use Rattle.std.proofs.Common.{◌-◌, length}
use Rattle.core.proofs.dec2flt.DigitsLemmas.{HasRead}
use Rattle.fx_text.proofs.digits.first_digits.Given as goal

abbrev pub invariant-loop-at : goal.invariant-loop-at
invariant-loop-at l = HasRead l.text l.from 0 l.at l.value

abbrev pub decreases-loop-at : goal.decreases-loop-at
decreases-loop-at l = length l.text - l.at
