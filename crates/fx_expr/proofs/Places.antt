-- Trees by place, found and exchanged in lists of temps and results.
use Rattle.std.proofs.Common.{◌≡◌, ℕ, zero, suc, ◌+◌, ◌-◌, ◌<◌, ◌≤◌, List, [], ◌∷◌, Option, Some, None, IsSome, refl, sym, ap, subst, ◌∙◌, arith, length, map}
use Rattle.std.specs.Option.{option_and_then}
use Rattle.std.specs.Prelude.{slice_get, slice_index_or, slice_set}
use Rattle.std.proofs.lemmas.Option.{same_Some}
use Rattle.fx_model.specs.Tree.{Tree}
use Rattle.fx_model.specs.Function as function
use Rattle.fx_model.specs.Paths.{subtree, tree_in, temps_changed, results_changed, results_after}
use Rattle.fx_model.proofs.Options.{some_first}
use Rattle.fx_expr.specs.TreeOf.{tree}
use Rattle.fx_expr.specs.Parts.{temp_of}
use Rattle.fx_expr.specs.declared.expr.Expr.{Expr}
use Rattle.fx_expr.specs.declared.parts.Temp.{Temp}

pub temp_at : (ts : List Temp) (es : List Expr) (k : ℕ) (x : Temp) → k < length ts →
    tree_in (map temp_of ts) (map tree es) k ≡ Some (tree (slice_index_or ts k x).expr)
temp_at [] es k x h = absurd (omega arith)
temp_at (t ∷ ts) es zero x h = refl
temp_at (t ∷ ts) es (suc k) x h = temp_at ts es k x (omega arith)

list_at : (es : List Expr) (j : ℕ) (x : Expr) → j < length es →
    slice_get (map tree es) j ≡ Some (tree (slice_index_or es j x))
list_at [] j x h = absurd (omega arith)
list_at (t ∷ es) zero x h = refl
list_at (t ∷ es) (suc j) x h = list_at es j x (omega arith)

list_past : (es : List Expr) (j : ℕ) → length es ≤ j → slice_get (map tree es) j ≡ None
list_past [] j h = refl
list_past (t ∷ es) zero h = absurd (omega arith)
list_past (t ∷ es) (suc j) h = list_past es j (omega arith)

-- past the temps
pub past_temps : (ts : List Temp) (es : List Tree) (k j : ℕ) → k ≡ length ts + j →
    tree_in (map temp_of ts) es k ≡ slice_get es j
past_temps [] es k j e = let p : k ≡ j = omega arith in ap (λ n. slice_get es n) p
past_temps (t ∷ ts) es zero j e = absurd (omega arith)
past_temps (t ∷ ts) es (suc k) j e = past_temps ts es k j (omega arith)

pub result_at : (ts : List Temp) (es : List Expr) (k : ℕ) (x : Expr) → length ts ≤ k → k - length ts < length es →
    x ≡ slice_index_or es (k - length ts) x → tree_in (map temp_of ts) (map tree es) k ≡ Some (tree x)
result_at ts es k x h l e = past_temps ts (map tree es) k (k - length ts) (omega arith) ∙ list_at es (k - length ts) x l
    ∙ ap (λ (y : Expr). Some (tree y)) (sym e)

pub nothing_at : (ts : List Temp) (es : List Expr) (k : ℕ) → length ts ≤ k → length es ≤ k - length ts →
    tree_in (map temp_of ts) (map tree es) k ≡ None
nothing_at ts es k h l = past_temps ts (map tree es) k (k - length ts) (omega arith) ∙ list_past es (k - length ts) l

-- a temp with an exchanged subtree, set into the list
temps_set : (ts : List Temp) (k : ℕ) (x : Temp) (y : Expr) (g : Tree → Tree) → k < length ts →
    x ≡ slice_index_or ts k x → tree y ≡ g (tree x.expr) →
    map temp_of (slice_set ts k (record { name = x.name; expr = y })) ≡ temps_changed (map temp_of ts) k g
temps_set [] k x y g h e t = absurd (omega arith)
temps_set (a ∷ ts) zero x y g h e t =
    let same : x ≡ a = e in
    let r : tree y ≡ g (tree a.expr) = t ∙ ap (λ (z : Temp). g (tree z.expr)) same in
    λ i. record { name = (same i).name; tree = r i } ∷ map temp_of ts
temps_set (a ∷ ts) (suc k) x y g h e t =
    ap (λ (r : List function.Temp). temp_of a ∷ r) (temps_set ts k x y g (omega arith) e t)

pub temps_exchanged : (inside now : List Temp) (k : ℕ) (x : Temp) (y : Expr) (g : Tree → Tree) → inside ≡ now →
    k < length now → x ≡ slice_index_or inside k x → tree y ≡ g (tree x.expr) →
    map temp_of (slice_set inside k (record { name = x.name; expr = y })) ≡ temps_changed (map temp_of now) k g
temps_exchanged inside now k x y g same h e t =
    ap (λ (ts : List Temp). map temp_of (slice_set ts k (record { name = x.name; expr = y }))) same
    ∙ temps_set now k x y g h (e ∙ ap (λ (ts : List Temp). slice_index_or ts k x) same) t

temp_found : (ts : List Temp) (k : ℕ) (x : Temp) (t : function.Temp) → k < length ts → x ≡ slice_index_or ts k x →
    slice_get (map temp_of ts) k ≡ Some t → t ≡ temp_of x
temp_found [] k x t h e g = absurd (omega arith)
temp_found (a ∷ ts) zero x t h e g = sym (same_Some _ _ g) ∙ ap temp_of (sym e)
temp_found (a ∷ ts) (suc k) x t h e g = temp_found ts k x t (omega arith) e g

pub temp_is : (inside now : List Temp) (k : ℕ) (x : Temp) (t : function.Temp) → inside ≡ now → k < length now →
    x ≡ slice_index_or inside k x → slice_get (map temp_of now) k ≡ Some t → t ≡ temp_of x
temp_is inside now k x t same h e g = temp_found now k x t h (e ∙ ap (λ (ts : List Temp). slice_index_or ts k x) same) g

-- the same of results
list_set : (es : List Expr) (j : ℕ) (x y : Expr) (g : Tree → Tree) → j < length es → x ≡ slice_index_or es j x →
    tree y ≡ g (tree x) → map tree (slice_set es j y) ≡ results_changed (map tree es) j g
list_set [] j x y g h e t = absurd (omega arith)
list_set (a ∷ es) zero x y g h e t = ap (λ (r : Tree). r ∷ map tree es) (t ∙ ap (λ (z : Expr). g (tree z)) e)
list_set (a ∷ es) (suc j) x y g h e t = ap (λ (r : List Tree). tree a ∷ r) (list_set es j x y g (omega arith) e t)

pub results_exchanged : (inside now : List Expr) (j : ℕ) (x y : Expr) (g : Tree → Tree) → inside ≡ now →
    j < length now → x ≡ slice_index_or inside j x → tree y ≡ g (tree x) →
    map tree (slice_set inside j y) ≡ results_changed (map tree now) j g
results_exchanged inside now j x y g same h e t = ap (λ (es : List Expr). map tree (slice_set es j y)) same
    ∙ list_set now j x y g h (e ∙ ap (λ (es : List Expr). slice_index_or es j x) same) t

pub result_is : (inside now : List Expr) (j : ℕ) (x : Expr) (t : Tree) → inside ≡ now → j < length now →
    x ≡ slice_index_or inside j x → slice_get (map tree now) j ≡ Some t → t ≡ tree x
result_is inside now j x t same h e g = same_Some _ _ (sym g ∙ list_at now j x h)
    ∙ ap tree (ap (λ (es : List Expr). slice_index_or es j x) (sym same) ∙ sym e)

-- ---- an exchange at a place
pub temp_there : (ts : List Temp) (es : List Tree) (k : ℕ) → k < length ts →
    (t : function.Temp) × (slice_get (map temp_of ts) k ≡ Some t) × (tree_in (map temp_of ts) es k ≡ Some t.tree)
temp_there [] es k h = absurd (omega arith)
temp_there (t ∷ ts) es zero h = (temp_of t, refl, refl)
temp_there (t ∷ ts) es (suc k) h = temp_there ts es k (omega arith)

pub results_kept : (ts : List Temp) (es : List Tree) (k : ℕ) (g : Tree → Tree) → k < length ts →
    results_after (map temp_of ts) es k g ≡ es
results_kept [] es k g h = absurd (omega arith)
results_kept (t ∷ ts) es zero g h = refl
results_kept (t ∷ ts) es (suc k) g h = results_kept ts es k g (omega arith)

pub temps_kept : (ts : List Temp) (k j : ℕ) (g : Tree → Tree) → k ≡ length ts + j →
    temps_changed (map temp_of ts) k g ≡ map temp_of ts
temps_kept [] k j g e = refl
temps_kept (t ∷ ts) zero j g e = absurd (omega arith)
temps_kept (t ∷ ts) (suc k) j g e = ap (λ (q : List function.Temp). temp_of t ∷ q) (temps_kept ts k j g (omega arith))

pub results_past : (ts : List Temp) (es : List Tree) (k j : ℕ) (g : Tree → Tree) → k ≡ length ts + j →
    results_after (map temp_of ts) es k g ≡ results_changed es j g
results_past [] es k j g e = let p : k ≡ j = omega arith in ap (λ n. results_changed es n g) p
results_past (t ∷ ts) es zero j g e = absurd (omega arith)
results_past (t ∷ ts) es (suc k) j g e = results_past ts es k j g (omega arith)

pub result_there : (path : List ℕ) (ts : List Temp) (es : List Expr) (k j : ℕ) → k ≡ length ts + j →
    IsSome (option_and_then (subtree path) (tree_in (map temp_of ts) (map tree es) k)) →
    (j < length es) × (slice_get (map tree es) j ≡ tree_in (map temp_of ts) (map tree es) k)
result_there path ts es k j e h =
    let p = past_temps ts (map tree es) k j e in (
      in_list es j (subst (λ (o : Option Tree). IsSome o) p
          (some_first (subtree path) (tree_in (map temp_of ts) (map tree es) k) h)),
      sym p,
    )
  where
    in_list : (es : List Expr) (j : ℕ) → IsSome (slice_get (map tree es) j) → j < length es
    in_list [] j h = absurd cc
    in_list (a ∷ es) zero h = omega arith
    in_list (a ∷ es) (suc j) h = let q = in_list es j h in omega arith

-- what is said of each tree that stands there
pub old_is : (path : List ℕ) (o : Option Tree) (old : Tree) → IsSome (option_and_then (subtree path) o) →
    ((t : Tree) → o ≡ Some t → IsSome (subtree path t) → subtree path t ≡ Some old) →
    option_and_then (subtree path) o ≡ Some old
old_is path None old h k = absurd cc
old_is path (Some t) old h k = k t refl h
