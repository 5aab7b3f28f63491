-- The single steps of a function: all that are there, in their order.
use Rattle.std.specs.Prelude.{ℕ, zero, suc, ◌+◌, List, [], ◌∷◌, ◌++◌, map, is_some, Bool}
use Rattle.std.specs.List.{filter}
use Rattle.fx_model.specs.Rules.{rule_count}
use Rattle.fx_model.specs.Tree.{Tree, Literal, Input, State, Temp, Negation, Sum, Difference, Product, Quotient}
use Rattle.fx_model.specs.Function.{Function}
use Rattle.fx_inequalities.specs.Rewriting.{Rewriting}
use Rattle.fx_rules.specs.Steps.{rewrite}

-- the paths into both operands, those into the first before those into the second
abbrev pub paths_into : List (List ℕ) → List (List ℕ) → List (List ℕ)
paths_into first second = map (λ p. 0 ∷ p) first ++ map (λ p. 1 ∷ p) second

-- the paths in a tree: each before those that it is a prefix of, and 0 before 1
abbrev pub paths : Tree → List (List ℕ)
paths (Literal c) = [] ∷ []
paths (Input k) = [] ∷ []
paths (State k) = [] ∷ []
paths (Temp k) = [] ∷ []
paths (Negation a) = [] ∷ map (λ p. 0 ∷ p) (paths a)
paths (Sum a b) = [] ∷ paths_into (paths a) (paths b)
paths (Difference a b) = [] ∷ paths_into (paths a) (paths b)
paths (Product a b) = [] ∷ paths_into (paths a) (paths b)
paths (Quotient a b) = [] ∷ paths_into (paths a) (paths b)

-- so many numbers, from n on
abbrev pub numbers_from : ℕ → ℕ → List ℕ
numbers_from n zero = []
numbers_from n (suc more) = n ∷ numbers_from (n + 1) more

-- the steps at a place and a path by these rules, whether they are there or not
abbrev pub steps_by : ℕ → List ℕ → List ℕ → List Rewriting
steps_by place path numbers = map (λ r. record { place = place; path = path; rule = r }) numbers

-- those by each rule at these paths
abbrev pub steps_along : ℕ → List (List ℕ) → List Rewriting
steps_along place [] = []
steps_along place (p ∷ ps) = steps_by place p (numbers_from 1 rule_count) ++ steps_along place ps

-- those in these trees, the first of which stands at this place
abbrev pub steps_in : ℕ → List Tree → List Rewriting
steps_in place [] = []
steps_in place (e ∷ es) = steps_along place (paths e) ++ steps_in (place + 1) es

-- the trees by place: the temps' and then the results'
abbrev pub trees_of : Function → List Tree
trees_of f = map (λ t. t.tree) f.temps ++ f.results

-- the step is there
abbrev pub is_there : Function → Rewriting → Bool
is_there f s = is_some (rewrite f s)

-- by place, then by path, then by rule
abbrev pub single_steps : Function → List Rewriting
single_steps f = filter (is_there f) (steps_in 0 (trees_of f))
