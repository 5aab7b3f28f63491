use Rattle.std.proofs.Common.{◌≡◌, ◌+◌, ◌<◌, ◌≤◌, ◌^◌, ◌++◌, take, drop, length}
use Rattle.fx_model.specs.WordText.{digits_after}
use Rattle.fx_fraction.proofs.Tails.{glyphs}
use Rattle.fx_fraction.proofs.text.put_digits.Given as goal

abbrev pub invariant-loop-now : goal.invariant-loop-now
invariant-loop-now l = record {
  few : l.left ≤ l.fn.point;
  below : l.now < 2 ^ l.left;
  room : l.end + l.left ≤ l.fn.at + l.fn.point;
  behind : drop l.end l.out ≡ drop l.end l.initial.out;
  above : l.fn.at ≤ l.end;
  length_is : length l.out ≡ length l.initial.out;
  written : take l.end l.out ++ glyphs (digits_after l.left l.now) ≡ take l.fn.at l.initial.out
      ++ glyphs (digits_after l.fn.point l.fn.rest);
}

abbrev pub decreases-loop-now : goal.decreases-loop-now
decreases-loop-now l = l.left
