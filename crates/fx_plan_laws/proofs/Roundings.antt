-- How the codes of the calm program round: products so as is wanted, and copies, which drop nothing, down.
use Rattle.std.proofs.Common.{◌≡◌, ℕ, ◌≤◌, get_or, refl, sym, arith}
use Rattle.std.proofs.lemmas.List.Elements.{All-map}
use Rattle.fx_model.specs.Function.{Function}
use Rattle.fx_model.specs.LawfulProgram.{least_shift}
use Rattle.fx_model.specs.Machine.{Round, Floor, Nearest}
use Rattle.fx_model.specs.Nodes.{Node, Input, State, Const, Neg, Add, Sub, Mul, Div, Copy, nodes_of}
use Rattle.fx_program.specs.Rounding.{product_round, RoundsBy, IsRoundedBy}
use Rattle.fx_program.proofs.Rounded.{product_rounds, unshifted_copy}
use Rattle.fx_plan_laws.specs.Calm.{numbers_of}
use Rattle.fx_plan_laws.specs.CalmPlan.{calm_code, calm_program}

-- a shift of one and more may round either way
pub shift_rounds : (r : Round) (f : ℕ) → 1 ≤ f → least_shift r ≤ f
shift_rounds Floor f some = omega arith
shift_rounds Nearest f some = some

pub product_so : (r : Round) (f : ℕ) → 1 ≤ f → product_round r f ≡ r
product_so r f some = product_rounds r f (shift_rounds r f some)

code_rounds : (n : ℕ) (r : Round) (fn : Function) (f : ℕ) → 1 ≤ f → (node : Node) → RoundsBy r n (calm_code r fn f node)
code_rounds n r fn f some (Input j) = tt
code_rounds n r fn f some (State j) = tt
code_rounds n r fn f some (Const x) = tt
code_rounds n r fn f some (Neg a) = tt
code_rounds n r fn f some (Add a b) = tt
code_rounds n r fn f some (Sub a b) = tt
code_rounds n r fn f some (Mul a b) = sym (product_so r f some)
code_rounds n r fn f some (Div a b) = tt
code_rounds n r fn f some (Copy a) = sym (unshifted_copy r n)

pub program_rounds : (n : ℕ) (r : Round) (fn : Function) → 1 ≤ (numbers_of n fn).f → IsRoundedBy r (calm_program n r fn)
program_rounds n r fn some =
    let f = (numbers_of n fn).f in let nodes = nodes_of fn in record {
      version = refl;
      codes = All-map (RoundsBy r n) (calm_code r fn f) nodes (λ k d lt. code_rounds n r fn f some (get_or nodes k d));
    }
