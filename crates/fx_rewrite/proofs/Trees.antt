-- What is ahead of a place, and how a cursor moves on.
use Rattle.std.proofs.Common.{◌≡◌, ℕ, zero, suc, ◌+◌, ◌<◌, List, [], ◌∷◌, ◌++◌, map, drop, length, Option, Some, None, refl, sym, ap, subst, ◌∙◌, arith, append_assoc}
use Rattle.std.specs.Prelude.{slice_get}
use Rattle.std.specs.Option.{option_map}
use Rattle.std.proofs.lemmas.List.Elements.{filter-append}
use Rattle.fx_model.specs.Tree.{Tree}
use Rattle.fx_model.specs.Function as function
use Rattle.fx_model.specs.Function.{Function}
use Rattle.fx_model.specs.Paths.{tree_in, tree_at}
use Rattle.fx_inequalities.specs.Rewriting.{Rewriting}
use Rattle.fx_expr.specs.LawfulFunction.{IsLawfulFunction}
use Rattle.fx_rules.specs.SingleSteps.{steps_by, steps_along, steps_in, trees_of, is_there, single_steps}
use Rattle.fx_rewrite.specs.Ahead.{rules_from, paths_after, ahead_in, ahead, steps_behind, there}
use Rattle.fx_rewrite.specs.NextPath.{next_path}
use Rattle.fx_rewrite.specs.FirstOf.{Begins}
use Rattle.fx_rewrite.proofs.Paths.{root_first, Follows, next_follows}

-- ---- the trees from a place on
list_from : (es : List Tree) (k : ℕ) (e : Tree) → slice_get es k ≡ Some e → drop k es ≡ e ∷ drop (suc k) es
list_from [] k e h = absurd cc
list_from (a ∷ es) zero e h = let same : a ≡ e = cc in ap (λ (x : Tree). x ∷ es) same
list_from (a ∷ es) (suc k) e h = list_from es k e h

list_none : (es : List Tree) (k : ℕ) → slice_get es k ≡ None → drop k es ≡ []
list_none [] zero h = refl
list_none [] (suc k) h = refl
list_none (a ∷ es) zero h = absurd cc
list_none (a ∷ es) (suc k) h = list_none es k h

in_from : (ts : List function.Temp) (es : List Tree) (k : ℕ) (e : Tree) → tree_in ts es k ≡ Some e →
    drop k (map (λ t. t.tree) ts ++ es) ≡ e ∷ drop (suc k) (map (λ t. t.tree) ts ++ es)
in_from [] es k e h = list_from es k e h
in_from (t ∷ ts) es zero e h = let same : t.tree ≡ e = cc in ap (λ (x : Tree). x ∷ (map (λ t. t.tree) ts ++ es)) same
in_from (t ∷ ts) es (suc k) e h = in_from ts es k e h

in_none : (ts : List function.Temp) (es : List Tree) (k : ℕ) → tree_in ts es k ≡ None →
    drop k (map (λ t. t.tree) ts ++ es) ≡ []
in_none [] es k h = list_none es k h
in_none (t ∷ ts) es zero h = absurd cc
in_none (t ∷ ts) es (suc k) h = in_none ts es k h

-- ---- what is ahead
-- at a tree: what is left at the path, and what is behind it
pub ahead_is : (f : Function) (k : ℕ) (path : List ℕ) (r : ℕ) (e : Tree) → tree_at f k ≡ Some e →
    ahead f k path r ≡ steps_by k path (rules_from r) ++ steps_behind f k path e
ahead_is f k path r e h = ap (λ (es : List Tree). ahead_in es k path r) (in_from f.temps f.results k e h)

pub ahead_none : (f : Function) (k : ℕ) (path : List ℕ) (r : ℕ) → tree_at f k ≡ None → ahead f k path r ≡ []
ahead_none f k path r h = ap (λ (es : List Tree). ahead_in es k path r) (in_none f.temps f.results k h)

-- from the root of a tree on
from_root : (k : ℕ) (es : List Tree) → steps_in k es ≡ ahead_in es k [] 1
from_root k [] = refl
from_root k (e ∷ es) = ap (λ (ps : List (List ℕ)). steps_along k ps ++ steps_in (k + 1) es) (root_first e)
    ∙ append_assoc (steps_by k [] (rules_from 1)) (steps_along k (paths_after [] e)) (steps_in (k + 1) es)

pub all_ahead : (f : Function) → there f (ahead f 0 [] 1) ≡ single_steps f
all_ahead f = ap (there f) (sym (from_root 0 (trees_of f)))

-- on to the next path
pub on_path : (f : Function) (k : ℕ) (path q : List ℕ) (e : Tree) → tree_at f k ≡ Some e → next_path path e ≡ Some q →
    steps_behind f k path e ≡ ahead f k q 1
on_path f k path q e h n =
    let b : paths_after path e ≡ q ∷ paths_after q e =
    subst (λ (o : Option (List ℕ)). Follows e o (paths_after path e)) n (next_follows path e) in
    ap (λ (ps : List (List ℕ)). steps_along k ps ++ steps_in (k + 1) (drop (suc k) (trees_of f))) b
    ∙ append_assoc (steps_by k q (rules_from 1)) (steps_along k (paths_after q e))
    (steps_in (k + 1) (drop (suc k) (trees_of f)))
    ∙ sym (ahead_is f k q 1 e h)

-- on to the next place
pub on_place : (f : Function) (k : ℕ) (path : List ℕ) (e : Tree) → next_path path e ≡ None →
    steps_behind f k path e ≡ ahead f (k + 1) [] 1
on_place f k path e n =
    let b : paths_after path e ≡ [] =
    subst (λ (o : Option (List ℕ)). Follows e o (paths_after path e)) n (next_follows path e) in
    let one : suc k ≡ k + 1 = omega arith in
    ap (λ (ps : List (List ℕ)). steps_along k ps ++ steps_in (k + 1) (drop (suc k) (trees_of f))) b
    ∙ ap (λ n. steps_in (k + 1) (drop n (trees_of f))) one ∙ from_root (k + 1) (drop (k + 1) (trees_of f))

-- a step that is there at the path
pub begins_some : (f : Function) (k : ℕ) (path : List ℕ) (r n : ℕ) (e : Tree) → tree_at f k ≡ Some e →
    Begins f k path r (Some n) →
    there f (ahead f k path r) ≡ record { place = k; path = path; rule = n } ∷ there f (ahead f k path (n + 1))
begins_some f k path r n e h b =
    ap (there f) (ahead_is f k path r e h)
    ∙ filter-append (is_there f) (steps_by k path (rules_from r)) (steps_behind f k path e)
    ∙ ap (λ (ss : List Rewriting). ss ++ there f (steps_behind f k path e)) b.1
    ∙ ap (λ (ss : List Rewriting). record { place = k; path = path; rule = n } ∷ ss)
    (sym (filter-append (is_there f) (steps_by k path (rules_from (n + 1))) (steps_behind f k path e))
    ∙ ap (there f) (sym (ahead_is f k path (n + 1) e h)))

-- none is
pub begins_none : (f : Function) (k : ℕ) (path : List ℕ) (r : ℕ) (e : Tree) → tree_at f k ≡ Some e →
    Begins f k path r None → there f (ahead f k path r) ≡ there f (steps_behind f k path e)
begins_none f k path r e h b =
    ap (there f) (ahead_is f k path r e h)
    ∙ filter-append (is_there f) (steps_by k path (rules_from r)) (steps_behind f k path e)
    ∙ ap (λ (ss : List Rewriting). ss ++ there f (steps_behind f k path e)) b

-- ---- the measure: fewer are ahead behind the rules of a path
thirty : (k : ℕ) (path : List ℕ) (xs : List Rewriting) → length xs < length (steps_by k path (rules_from 1) ++ xs)
thirty k path xs = omega arith

pub fewer : (f : Function) (k : ℕ) (path : List ℕ) (e : Tree) (xs : List Rewriting) → tree_at f k ≡ Some e →
    steps_behind f k path e ≡ xs → length xs < length (ahead f k path 1)
fewer f k path e xs h b =
    subst (λ (ys : List Rewriting). length ys < length (ahead f k path 1)) b
    (subst (λ (ys : List Rewriting). length (steps_behind f k path e) < length ys) (sym (ahead_is f k path 1 e h))
    (thirty k path (steps_behind f k path e)))

-- ---- places are small
list_place : (es : List Tree) (k : ℕ) (e : Tree) → slice_get es k ≡ Some e → k < length es
list_place [] k e h = absurd cc
list_place (a ∷ es) zero e h = omega arith
list_place (a ∷ es) (suc k) e h = let q = list_place es k e h in omega arith

in_place : (ts : List function.Temp) (es : List Tree) (k : ℕ) (e : Tree) → tree_in ts es k ≡ Some e →
    k < length ts + length es
in_place [] es k e h = let q = list_place es k e h in omega arith
in_place (t ∷ ts) es zero e h = omega arith
in_place (t ∷ ts) es (suc k) e h = let q = in_place ts es k e h in omega arith

pub place_small : (f : Function) (k : ℕ) (e : Tree) → IsLawfulFunction f → tree_at f k ≡ Some e → k < 2000
place_small f k e is h =
    let q = in_place f.temps f.results k e h in
    let a = is.sizes.temps in
    let b = is.sizes.states in
    let c = is.sizes.outputs in
    let d = is.valid.all_results in
    omega arith

-- ---- as the code sees it
pub seen : {A B : Type 0} (f : A → B) (o : Option A) (n : Option B) (x : A) → option_map f o ≡ n → o ≡ Some x →
    n ≡ Some (f x)
seen f o n x e i = sym e ∙ ap (option_map f) i

pub unseen : {A B : Type 0} (f : A → B) (o : Option A) (n : Option B) → option_map f o ≡ n → o ≡ None → n ≡ None
unseen f o n e i = sym e ∙ ap (option_map f) i

-- a path that is held elsewhere
pub begins_held : (f : Function) (k : ℕ) (path held : List ℕ) (r : ℕ) (o : Option ℕ) → held ≡ path →
    Begins f k held r o → Begins f k path r o
begins_held f k path held r o e b = subst (λ (p : List ℕ). Begins f k p r o) e b
