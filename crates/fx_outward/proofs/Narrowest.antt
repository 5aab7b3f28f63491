-- What the narrowest interval of claims meets, where bounds say when the claims hold.
use Rattle.std.proofs.Common.{◌≡◌, ℕ, ◌%◌, ◌<◌, ◌≤◌, Bool, true, false, ◌&&◌, if◌then◌else◌, List, Result, Ok, Err, ◌↔◌, refl, subst, arith}
use Rattle.std.specs.Prelude.{unsigned_abs}
use Rattle.std.specs.List.{list_all}
use Rattle.fx_rational.specs.Dyadic.{Dyadic, IsWritten}
use Rattle.fx_rational.specs.Interval.{Interval}
use Rattle.fx_inequalities.specs.Formula.{formula_value, span}
use Rattle.fx_inequalities.specs.Claim.{Claim, fits, holds}
use Rattle.fx_bounds.proofs.Claims.{both_left, both_right}
use Rattle.fx_outward.specs.Narrow.{Bounds, narrow, narrowest}
use Rattle.fx_outward.specs.Grid.{is_small}
use Rattle.fx_outward.specs.declared.fault.Why.{Why}
use Rattle.fx_outward.specs.declared.fault.Why.TheVariants.{Beyond}
use Rattle.fx_outward.specs.Laws.{Covers, IsNarrowestOf, NarrowLaw}
use Rattle.fx_outward.proofs.Grids.{grid_down_is, grid_up_is}
use Rattle.fx_outward.proofs.Quotients.{Around}
use Rattle.fx_outward.proofs.Shorts.{short_small}

pub narrow_is : NarrowLaw
narrow_is e b = let lo = grid_down_is e b.lo in let hi = grid_up_is e b.hi in record {
  covers = record { low = lo.below; high = hi.above };
  grid = record { lo = lo.places; hi = hi.places };
  lo_lowest = lo.lowest;
  hi_lowest = hi.lowest;
  inside = λ j g c. (lo.greatest j.lo g.lo c.low, hi.least j.hi g.hi c.high);
}

around_covers : (g : Interval) (b : Bounds) → Around (span g) b ↔ Covers g b
unfolding formula_value
around_covers g b = (λ h. record { low = h.low; high = h.high }, λ h. record { low = h.low; high = h.high })

same_interval : (i j : Interval) → Path (Result Interval Why) (Ok i) (Ok j) → i ≡ j
same_interval i j e = cc

-- a short end in lowest terms, on a grid of at most 96 places
end_written : (e : ℕ) (d : Dyadic) → e ≤ 96 → is_small d ≡ true → d.e ≤ e →
    (0 < d.e → unsigned_abs d.m % 2 ≡ 1) → IsWritten d
end_written e d few small places lowest =
    record { small = short_small d small; places = omega (arith, few, places); one_spelling = lowest }

pub narrowest_is : (e : ℕ) (b : Bounds) (claims : Interval → List Claim) (g : Interval) → e ≤ 96 →
    ((j : Interval) → Around (span j) b ↔ (list_all holds (claims j) ≡ true)) → narrowest e b claims ≡ Ok g →
    IsNarrowestOf e claims g
narrowest_is e b claims g few meets made =
    by (is_small (narrow e b).lo && is_small (narrow e b).hi && list_all fits (claims (narrow e b))) refl made
  where
    by : (t : Bool) → (is_small (narrow e b).lo && is_small (narrow e b).hi && list_all fits (claims (narrow e b)))
        ≡ t → (if t then Ok (narrow e b) else Err Beyond) ≡ Ok g → IsNarrowestOf e claims g
    by false t made = absurd cc
    by true t made = subst (IsNarrowestOf e claims) (same_interval (narrow e b) g made) (let n = narrow_is e b in
        let grid = n.grid in let gl = grid.lo in let gh = grid.hi in record {
          fit = both_right (is_small (narrow e b).lo && is_small (narrow e b).hi) _ t;
          hold = (meets (narrow e b)).0 ((around_covers (narrow e b) b).1 n.covers);
          written = (
            end_written e (narrow e b).lo few (both_left (is_small (narrow e b).lo) _ (both_left _ _ t)) gl n.lo_lowest,
            end_written e (narrow e b).hi few (both_right (is_small (narrow e b).lo) _ (both_left _ _ t)) gh n.hi_lowest,
          );
          grid = n.grid;
          inside = λ j on h. n.inside j on ((around_covers j b).0 ((meets j).1 h));
        })
