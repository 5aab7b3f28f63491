-- The path behind one.
use Rattle.std.specs.Prelude.{ℕ, zero, Bool, true, List, [], ◌∷◌, Option, Some, None, is_some}
use Rattle.std.specs.Option.{option_map}
use Rattle.fx_model.specs.Tree.{Tree}
use Rattle.fx_model.specs.Paths.{child}

-- further down where operand d has a next path; else into the second operand, if operand d is the first of two
abbrev pub next_at : ℕ → Bool → Option (Option (List ℕ)) → Option (List ℕ)
next_at d second None = None
next_at d second (Some (Some q)) = Some (d ∷ q)
next_at zero true (Some None) = Some (1 ∷ [])
next_at _ _ (Some None) = None

-- in a tree: into its first operand where the path ends there
abbrev pub next_path : List ℕ → Tree → Option (List ℕ)
next_path [] e = option_map (λ a. 0 ∷ []) (child 0 e)
next_path (d ∷ p) e = next_at d (is_some (child 1 e)) (option_map (next_path p) (child d e))
