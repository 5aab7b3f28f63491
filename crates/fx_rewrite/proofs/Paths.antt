-- The paths behind one are the next one and those behind it.
use Rattle.std.proofs.Common.{◌≡◌, ℕ, zero, suc, List, [], ◌∷◌, ◌++◌, map, Option, Some, None, refl, sym, ap, ◌∙◌}
use Rattle.std.specs.Prelude.{true, false}
use Rattle.fx_model.specs.Tree.{Tree, Literal, Input, State, Temp, Negation, Sum, Difference, Product, Quotient}
use Rattle.fx_rules.specs.SingleSteps.{paths, paths_into}
use Rattle.fx_rewrite.specs.Ahead.{paths_after}
use Rattle.fx_rewrite.specs.NextPath.{next_at, next_path}

-- the root stands first
pub root_first : (e : Tree) → paths e ≡ [] ∷ paths_after [] e
root_first (Literal c) = refl
root_first (Input k) = refl
root_first (State k) = refl
root_first (Temp k) = refl
root_first (Negation a) = refl
root_first (Sum a b) = refl
root_first (Difference a b) = refl
root_first (Product a b) = refl
root_first (Quotient a b) = refl

-- the next one, and those behind it
abbrev pub Follows : Tree → Option (List ℕ) → List (List ℕ) → Type 0
Follows e None behind = behind ≡ []
Follows e (Some q) behind = behind ≡ q ∷ paths_after q e

deeper : (d : ℕ) (e a : Tree) (q : List ℕ) (behind : List (List ℕ)) →
    paths_after (d ∷ q) e ≡ map (λ p. d ∷ p) (paths_after q a) → behind ≡ q ∷ paths_after q a →
    map (λ p. d ∷ p) behind ≡ (d ∷ q) ∷ paths_after (d ∷ q) e
deeper d e a q behind same h = ap (map (λ p. d ∷ p)) h ∙ ap (λ (ps : List (List ℕ)). (d ∷ q) ∷ ps) (sym same)

only : (e a : Tree) (o : Option (List ℕ)) (behind : List (List ℕ)) →
    ((q : List ℕ) → paths_after (0 ∷ q) e ≡ map (λ p. 0 ∷ p) (paths_after q a)) → Follows a o behind →
    Follows e (next_at 0 false (Some o)) (map (λ p. 0 ∷ p) behind)
only e a None behind same h = ap (map (λ p. 0 ∷ p)) h
only e a (Some q) behind same h = deeper 0 e a q behind (same q) h

second : (e a : Tree) (o : Option (List ℕ)) (behind : List (List ℕ)) →
    ((q : List ℕ) → paths_after (1 ∷ q) e ≡ map (λ p. 1 ∷ p) (paths_after q a)) → Follows a o behind →
    Follows e (next_at 1 true (Some o)) (map (λ p. 1 ∷ p) behind)
second e a None behind same h = ap (map (λ p. 1 ∷ p)) h
second e a (Some q) behind same h = deeper 1 e a q behind (same q) h

first : (e a b : Tree) (o : Option (List ℕ)) (behind : List (List ℕ)) →
    ((q : List ℕ) → paths_after (0 ∷ q) e ≡ map (λ p. 0 ∷ p) (paths_after q a) ++ map (λ p. 1 ∷ p) (paths b)) →
    paths_after (1 ∷ []) e ≡ map (λ p. 1 ∷ p) (paths_after [] b) → Follows a o behind →
    Follows e (next_at 0 true (Some o)) (map (λ p. 0 ∷ p) behind ++ map (λ p. 1 ∷ p) (paths b))
first e a b None behind left right h =
    ap (λ (ps : List (List ℕ)). map (λ p. 0 ∷ p) ps ++ map (λ p. 1 ∷ p) (paths b)) h
    ∙ ap (map (λ p. 1 ∷ p)) (root_first b) ∙ ap (λ (ps : List (List ℕ)). (1 ∷ []) ∷ ps) (sym right)
first e a b (Some q) behind left right h =
    ap (λ (ps : List (List ℕ)). map (λ p. 0 ∷ p) ps ++ map (λ p. 1 ∷ p) (paths b)) h
    ∙ ap (λ (ps : List (List ℕ)). (0 ∷ q) ∷ ps) (sym (left q))

root_two : (e a b : Tree) → paths_after (0 ∷ []) e ≡ map (λ p. 0 ∷ p) (paths_after [] a) ++ map (λ p. 1 ∷ p) (paths b) →
    paths_after [] e ≡ paths_into (paths a) (paths b) → Follows e (Some (0 ∷ [])) (paths_after [] e)
root_two e a b down is = is
    ∙ ap (λ (ps : List (List ℕ)). map (λ p. 0 ∷ p) ps ++ map (λ p. 1 ∷ p) (paths b)) (root_first a)
    ∙ ap (λ (ps : List (List ℕ)). (0 ∷ []) ∷ ps) (sym down)

pub next_follows : (p : List ℕ) (e : Tree) → Follows e (next_path p e) (paths_after p e)
next_follows [] (Literal c) = refl
next_follows [] (Input k) = refl
next_follows [] (State k) = refl
next_follows [] (Temp k) = refl
next_follows [] (Negation a) = ap (map (λ p. 0 ∷ p)) (root_first a)
next_follows [] (Sum a b) = root_two (Sum a b) a b refl refl
next_follows [] (Difference a b) = root_two (Difference a b) a b refl refl
next_follows [] (Product a b) = root_two (Product a b) a b refl refl
next_follows [] (Quotient a b) = root_two (Quotient a b) a b refl refl
next_follows (zero ∷ p) (Literal c) = refl
next_follows (suc zero ∷ p) (Literal c) = refl
next_follows (suc (suc d) ∷ p) (Literal c) = refl
next_follows (zero ∷ p) (Input k) = refl
next_follows (suc zero ∷ p) (Input k) = refl
next_follows (suc (suc d) ∷ p) (Input k) = refl
next_follows (zero ∷ p) (State k) = refl
next_follows (suc zero ∷ p) (State k) = refl
next_follows (suc (suc d) ∷ p) (State k) = refl
next_follows (zero ∷ p) (Temp k) = refl
next_follows (suc zero ∷ p) (Temp k) = refl
next_follows (suc (suc d) ∷ p) (Temp k) = refl
next_follows (zero ∷ p) (Negation a) =
    only (Negation a) a (next_path p a) (paths_after p a) (λ q. refl) (next_follows p a)
next_follows (suc zero ∷ p) (Negation a) = refl
next_follows (suc (suc d) ∷ p) (Negation a) = refl
next_follows (zero ∷ p) (Sum a b) =
    first (Sum a b) a b (next_path p a) (paths_after p a) (λ q. refl) refl (next_follows p a)
next_follows (suc zero ∷ p) (Sum a b) =
    second (Sum a b) b (next_path p b) (paths_after p b) (λ q. refl) (next_follows p b)
next_follows (suc (suc d) ∷ p) (Sum a b) = refl
next_follows (zero ∷ p) (Difference a b) =
    first (Difference a b) a b (next_path p a) (paths_after p a) (λ q. refl) refl (next_follows p a)
next_follows (suc zero ∷ p) (Difference a b) =
    second (Difference a b) b (next_path p b) (paths_after p b) (λ q. refl) (next_follows p b)
next_follows (suc (suc d) ∷ p) (Difference a b) = refl
next_follows (zero ∷ p) (Product a b) =
    first (Product a b) a b (next_path p a) (paths_after p a) (λ q. refl) refl (next_follows p a)
next_follows (suc zero ∷ p) (Product a b) =
    second (Product a b) b (next_path p b) (paths_after p b) (λ q. refl) (next_follows p b)
next_follows (suc (suc d) ∷ p) (Product a b) = refl
next_follows (zero ∷ p) (Quotient a b) =
    first (Quotient a b) a b (next_path p a) (paths_after p a) (λ q. refl) refl (next_follows p a)
next_follows (suc zero ∷ p) (Quotient a b) =
    second (Quotient a b) b (next_path p b) (paths_after p b) (λ q. refl) (next_follows p b)
next_follows (suc (suc d) ∷ p) (Quotient a b) = refl
