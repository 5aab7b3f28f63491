use Rattle.std.proofs.Common.{◌≡◌, ℕ, ◌+◌, ◌<◌, ◌≤◌, take, get_or, true}
use Rattle.std.specs.Char.{is_ascii_digit}
use Rattle.std.specs.Str.Parse.{digits_value_after}
use Rattle.fx_fraction.specs.Kept.{Keeps, FitsFront, zeros_of}
use Rattle.fx_fraction.proofs.significant.read_digits.Given as goal

abbrev pub invariant-loop-i : goal.invariant-loop-i
invariant-loop-i l = record {
  digits : (k : ℕ) → k < l.i → is_ascii_digit (get_or l.text k 0) ≡ true;
  value : (n : ℕ) → Keeps n l.fn.kept → Keeps (digits_value_after 10 n (take l.i l.text)) l.now;
  zeros : zeros_of l.now ≤ zeros_of l.fn.kept + l.i;
  fits : FitsFront l.now;
}
