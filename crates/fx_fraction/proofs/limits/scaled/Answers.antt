use Rattle.std.proofs.Common.{◌≡◌, sym, arith}
use Rattle.std.specs.Prelude.{unsigned_abs}
use Rattle.std.proofs.lemmas.Int.{to_z-of_z}
use Rattle.fx_fraction.proofs.Shifts.{beyond, too_far}
use Rattle.fx_fraction.proofs.limits.scaled.Goals as goal

pub returns-then-unsigned_abs-gt-MOST_PLACES : goal.returns-then-unsigned_abs-gt-MOST_PLACES
returns-then-unsigned_abs-gt-MOST_PLACES c =
    let fs = c.ranges.shift in
    let k : c.unsigned_abs.result ≡ unsigned_abs c.args.shift = simp to_z-of_z at c.unsigned_abs.ensures.value in
    sym (too_far c.args.is_negative c.args.front c.args.shift (omega (arith, c.requires.last))
    (beyond c.args.shift c.unsigned_abs.result k (omega arith)))
