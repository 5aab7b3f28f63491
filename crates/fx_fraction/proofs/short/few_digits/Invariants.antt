use Rattle.std.proofs.Common.{◌≡◌, ℕ, ◌<◌, ◌-◌, length, take, get_or, true}
use Rattle.std.specs.Char.{is_ascii_digit}
use Rattle.std.specs.Str.Parse.{digits_value_after}
use Rattle.fx_fraction.specs.ReadParts.{IsBelowTens}
use Rattle.fx_fraction.proofs.short.few_digits.Given as goal

abbrev pub invariant-loop-i : goal.invariant-loop-i
invariant-loop-i l = record {
  digits : (k : ℕ) → k < l.i → is_ascii_digit (get_or l.text k 0) ≡ true;
  value : l.now ≡ digits_value_after 10 l.start (take l.i l.text);
  few : IsBelowTens l.now (length l.text - l.i);
}
