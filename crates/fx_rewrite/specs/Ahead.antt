-- What is left of the steps behind a place, a path and a rule.
use Rattle.std.specs.Prelude.{ℕ, zero, suc, ◌+◌, ◌-◌, List, [], ◌∷◌, ◌++◌, map, drop}
use Rattle.std.specs.List.{filter}
use Rattle.fx_model.specs.Rules.{rule_count}
use Rattle.fx_model.specs.Tree.{Tree, Negation, Sum, Difference, Product, Quotient}
use Rattle.fx_model.specs.Function.{Function}
use Rattle.fx_inequalities.specs.Rewriting.{Rewriting}
use Rattle.fx_rules.specs.SingleSteps.{paths, numbers_from, steps_by, steps_along, steps_in, trees_of, is_there}

-- the rules from this number on
abbrev pub rules_from : ℕ → List ℕ
rules_from r = numbers_from r (rule_count + 1 - r)

-- the paths behind one in a tree that has two operands
abbrev pub after_into : ℕ → List (List ℕ) → List (List ℕ) → List (List ℕ) → List (List ℕ)
after_into zero first all second = map (λ p. 0 ∷ p) first ++ map (λ p. 1 ∷ p) all
after_into (suc zero) first all second = map (λ p. 1 ∷ p) second
after_into _ first all second = []

-- the paths behind one in a tree
abbrev pub paths_after : List ℕ → Tree → List (List ℕ)
paths_after [] e = drop 1 (paths e)
paths_after (zero ∷ p) (Negation a) = map (λ p. 0 ∷ p) (paths_after p a)
paths_after (d ∷ p) (Sum a b) = after_into d (paths_after p a) (paths b) (paths_after p b)
paths_after (d ∷ p) (Difference a b) = after_into d (paths_after p a) (paths b) (paths_after p b)
paths_after (d ∷ p) (Product a b) = after_into d (paths_after p a) (paths b) (paths_after p b)
paths_after (d ∷ p) (Quotient a b) = after_into d (paths_after p a) (paths b) (paths_after p b)
paths_after _ _ = []

-- the steps from a place on: at a path, by a rule and those after it, and then at the paths and places behind
abbrev pub ahead_in : List Tree → ℕ → List ℕ → ℕ → List Rewriting
ahead_in [] k path r = []
ahead_in (e ∷ es) k path r =
    steps_by k path (rules_from r) ++ (steps_along k (paths_after path e) ++ steps_in (k + 1) es)

-- the same in a function, whether they are there or not
abbrev pub ahead : Function → ℕ → List ℕ → ℕ → List Rewriting
ahead f k path r = ahead_in (drop k (trees_of f)) k path r

-- those behind a path in the tree e at a place
abbrev pub steps_behind : Function → ℕ → List ℕ → Tree → List Rewriting
steps_behind f k path e = steps_along k (paths_after path e) ++ steps_in (k + 1) (drop (suc k) (trees_of f))

-- those that are there
abbrev pub there : Function → List Rewriting → List Rewriting
there f steps = filter (is_there f) steps
