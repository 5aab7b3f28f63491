-- Ranges in units of 10^-18.
use Rattle.std.specs.Prelude.{◌≡◌, ◌-◌, ◌^◌, ◌≤◌, ℤ, pos, ◌*ℤ◌, Bool, ◌&&◌, int_le}
use Rattle.fx_rational.specs.Decimal.{Decimal, is_within}
use Rattle.fx_fraction.specs.declared.range.Range.{Range}

-- d in units of 10^-18
abbrev pub smallest_units : Decimal → ℤ
smallest_units d = d.a *ℤ pos (10 ^ (18 - d.b))

-- whether d lies in a range
abbrev pub holds : Range → Decimal → Bool
holds r d = int_le r.least (smallest_units d) && int_le (smallest_units d) r.most

-- r holds just the decimals from lo - err to hi + err
abbrev pub IsRangeOf : Decimal → Decimal → Decimal → Range → Type 0
IsRangeOf lo hi err r = (d : Decimal) → d.b ≤ 18 → holds r d ≡ is_within d lo hi err
