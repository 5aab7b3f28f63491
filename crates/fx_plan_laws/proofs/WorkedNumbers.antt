-- Worked numbers of a filter, by evaluation: a wrong number here is refused.
use Rattle.std.specs.Prelude.{◌≡◌, true, false, [], ◌∷◌, Some, None, pos, negsuc, refl, codes}
use Rattle.fx_rational.specs.Rational.{Rational, whole, over, plus, times, is_at_most}
use Rattle.fx_rational.specs.Dyadic.{dyadic_value}
use Rattle.fx_model.specs.Tree as tree
use Rattle.fx_model.specs.Function.{Function, Demand, free}
use Rattle.fx_plan_laws.specs.Powers.{power_value}
use Rattle.fx_plan_laws.specs.Calm.{first_from, numbers_of, is_calm}

-- c x + u / 2 is the output and the next state, for u from -1 to 1
abbrev filter : Rational → Demand → Function
filter c d =
    let t =
    tree.Sum (tree.Product (tree.Literal c) (tree.State 0))
    (tree.Product (tree.Literal (over (pos 1) 2)) (tree.Input 0)) in
    record {
      name = codes "c";
      inputs = record { name = codes "u"; lo = whole (negsuc 0); hi = whole (pos 1); err = whole (pos 0) } ∷ [];
      states = record { name = codes "x"; start = whole (pos 0) } ∷ [];
      temps = [];
      results = t ∷ t ∷ [];
      demands = d ∷ [];
    }

-- the averaging filter, at width 32
averager_numbers : numbers_of 32 (filter (over (pos 1) 2) free) ≡ record {
  q = 0;
  a = 0;
  m = 3;
  f = 26;
  p = 9;
  v = negsuc 24;
  z = negsuc 10;
}
unfolding first_from power_value dyadic_value over plus times is_at_most
averager_numbers = refl

averager_calm : is_calm 32 (filter (over (pos 1) 2) free) ≡ true
unfolding first_from power_value dyadic_value over plus times is_at_most
averager_calm = refl

-- at width 16 there is no room
narrow_words : is_calm 16 (filter (over (pos 1) 2) free) ≡ false
unfolding first_from power_value dyadic_value over plus times is_at_most
narrow_words = refl

-- above a half no width has
above_half : is_calm 64 (filter (over (pos 6) 10) free) ≡ false
unfolding first_from power_value dyadic_value over plus times is_at_most
above_half = refl

-- ---- demands
-- 2^-11 is what the plan keeps
demanded_error : is_calm 32 (filter (over (pos 1) 2) (record { err = Some (over (pos 1) 2048); lo = None; hi = None }))
    ≡ true
unfolding first_from power_value dyadic_value over plus times is_at_most
demanded_error = refl

less_demanded : is_calm 32 (filter (over (pos 1) 2) (record { err = Some (over (pos 1) 2049); lo = None; hi = None }))
    ≡ false
unfolding first_from power_value dyadic_value over plus times is_at_most
less_demanded = refl

-- no end is served
demanded_end : is_calm 32 (filter (over (pos 1) 2) (record { err = None; lo = None; hi = Some (whole (pos 100)) }))
    ≡ false
unfolding first_from power_value dyadic_value over plus times is_at_most
demanded_end = refl
