-- When sums and products of intervals need no test of what leaves 128 bits. No clause of a public call rests on this.
use Rattle.std.specs.Prelude.{◌+◌, nat_le, Bool, ◌&&◌}
use Rattle.fx_rational.specs.Dyadic.{Dyadic}
use Rattle.fx_rational.specs.Interval.{Interval}
use Rattle.fx_outward.specs.Grid.{is_small}

-- mantissas of 62 bits at both ends
abbrev pub has_short_ends : Interval → Bool
has_short_ends x = is_small x.lo && is_small x.hi

-- exponents at most 64 apart
abbrev pub is_near : Dyadic → Dyadic → Bool
is_near a b = nat_le a.e (b.e + 64) && nat_le b.e (a.e + 64)

-- where a sum needs no test
abbrev pub has_short_sum : Interval → Interval → Bool
has_short_sum x y = has_short_ends x && has_short_ends y && is_near x.lo y.lo && is_near x.hi y.hi

-- at most 512 binary places at both
abbrev pub has_few_places : Interval → Bool
has_few_places x = nat_le x.lo.e 512 && nat_le x.hi.e 512

-- and where a product needs none
abbrev pub has_short_product : Interval → Interval → Bool
has_short_product x y = has_short_ends x && has_short_ends y && has_few_places x && has_few_places y
