-- The calm program of a worked filter, by evaluation.
use Rattle.std.specs.Prelude.{◌≡◌, [], ◌∷◌, pos, negsuc, refl, codes}
use Rattle.fx_rational.specs.Rational.{whole, over, plus, times, is_at_most, scaled, floor}
use Rattle.fx_rational.specs.Dyadic.{dyadic_value}
use Rattle.fx_model.specs.Tree as tree
use Rattle.fx_model.specs.Function.{Function, free}
use Rattle.fx_model.specs.Machine.{Round, Floor, Nearest, Input, State, Const, Mul, Add, Copy}
use Rattle.fx_plan_laws.specs.Powers.{power_value}
use Rattle.fx_plan_laws.specs.Calm.{first_from}
use Rattle.fx_plan_laws.specs.CalmPlan.{calm_program}

-- the state is the output, and x / 2 + u the next state, for u from -1 to 1
abbrev halving : Function
halving = record {
  name = codes "h";
  inputs = record { name = codes "u"; lo = whole (negsuc 0); hi = whole (pos 1); err = whole (pos 0) } ∷ [];
  states = record { name = codes "x"; start = whole (pos 0) } ∷ [];
  temps = [];
  results = tree.State 0 ∷ tree.Sum (tree.Product (tree.Literal (over (pos 1) 2)) (tree.State 0)) (tree.Input 0) ∷ [];
  demands = free ∷ [];
}

-- the product alone rounds so
halving_codes : (r : Round) → (calm_program 32 r halving).codes
    ≡ Input 0 (pos 26) ∷ State 0 (pos 26) (pos 0) ∷ Const (pos 33554432) (pos 26) ∷ Mul r 2 1 26
    ∷ Add 3 0 (pos 0) (pos 0) ∷ Copy Floor 1 (pos 0) ∷ Copy Floor 4 (pos 0) ∷ []
unfolding first_from power_value dyadic_value over plus times is_at_most scaled floor
halving_codes r = refl

down_version : (calm_program 32 Floor halving).version ≡ 1
down_version = refl

nearest_version : (calm_program 32 Nearest halving).version ≡ 2
nearest_version = refl
