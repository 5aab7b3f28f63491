use Rattle.std.proofs.Common.{◌≡◌, take}
use Rattle.std.specs.Str.Parse.{AllDigits, digits_value}
use Rattle.fx_fraction.specs.Digits.{saturated}
use Rattle.fx_fraction.proofs.read.read_natural.Given as goal

abbrev pub invariant-loop-byte : goal.invariant-loop-byte
invariant-loop-byte l =
    AllDigits 10 (take l.byte-index l.text) × (l.value ≡ saturated (digits_value 10 (take l.byte-index l.text)))
