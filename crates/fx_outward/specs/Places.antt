-- A point by its size. No clause of a public call rests on this.
use Rattle.std.specs.Prelude.{◌≡◌, ◌≤◌, ℤ, pos, negsuc}
use Rattle.fx_outward.specs.declared.place.Place.{Place}
use Rattle.fx_outward.specs.declared.place.Place.TheVariants.{High, Low}

-- the point is so many places, or one more below zero
abbrev pub IsPlace : Place → ℤ → Type 0
IsPlace (High k) f = (f ≡ pos k) × (k ≤ 62)
IsPlace (Low k) f = (f ≡ negsuc k) × (k ≤ 63)
