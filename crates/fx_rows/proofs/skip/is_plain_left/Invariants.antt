use Rattle.std.proofs.Common.{◌≡◌, ℕ, ◌<◌, false, get_or}
use Rattle.fx_rows.specs.Line.{is_special}
use Rattle.fx_rows.proofs.skip.is_plain_left.Given as goal

abbrev pub invariant-loop-byte : goal.invariant-loop-byte
invariant-loop-byte l = (k : ℕ) → k < l.byte-index → is_special (get_or l.text k 0) ≡ false
