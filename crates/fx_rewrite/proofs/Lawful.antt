-- A function with an exchanged tree is lawful where the limits are kept.
use Rattle.std.proofs.Common.{◌≡◌, ℕ, zero, suc, ◌+◌, ◌≤◌, List, [], ◌∷◌, Some, sym, subst, arith, length}
use Rattle.std.specs.Prelude.{slice_get}
use Rattle.std.specs.List.{All}
use Rattle.std.proofs.lemmas.List.Elements.{All-head, All-tail, All-cons}
use Rattle.fx_model.specs.Tree.{Tree, Input}
use Rattle.fx_model.specs.Function as function
use Rattle.fx_model.specs.Function.{Function}
use Rattle.fx_model.specs.Nodes.{nodes_of}
use Rattle.fx_model.specs.Paths.{height, subtree, put, tree_in, tree_at, found, temps_changed, results_changed, results_after, with_tree}
use Rattle.fx_model.proofs.Counted.{node_count_is}
use Rattle.fx_model.proofs.Options.{some_then}
use Rattle.fx_expr.specs.LawfulFunction.{IsLow, IsLawfulFunction}
use Rattle.fx_expr.proofs.Nodes.{nodes_after}
use Rattle.fx_rules.proofs.Refers.{KeepsBelow, put_refers, changed_valid, same_temps}
use Rattle.fx_rewrite.proofs.Heights.{low_after}

abbrev IsLowTemp : function.Temp → Type 0
IsLowTemp t = IsLow t.tree

-- each tree is low
pub low_in : (ts : List function.Temp) (es : List Tree) (k : ℕ) (e : Tree) → All IsLowTemp ts → All IsLow es →
    tree_in ts es k ≡ Some e → height e ≤ 200
low_in [] [] k e p q i = absurd cc
low_in [] (a ∷ es) zero e p q i = let same : a ≡ e = cc in subst IsLow same (All-head IsLow a es q)
low_in [] (a ∷ es) (suc k) e p q i = low_in [] es k e p (All-tail IsLow a es q) i
low_in (t ∷ ts) es zero e p q i = let same : t.tree ≡ e = cc in subst IsLow same (All-head IsLowTemp t ts p)
low_in (t ∷ ts) es (suc k) e p q i = low_in ts es k e (All-tail IsLowTemp t ts p) q i

low_temps : (ts : List function.Temp) (es : List Tree) (k : ℕ) (e : Tree) (g : Tree → Tree) → All IsLowTemp ts →
    tree_in ts es k ≡ Some e → height (g e) ≤ 200 → All IsLowTemp (temps_changed ts k g)
low_temps [] es k e g p i h = p
low_temps (t ∷ ts) es zero e g p i h =
    let same : e ≡ t.tree = cc in
    All-cons IsLowTemp (record { name = t.name; tree = g t.tree }) ts (subst (λ u. height (g u) ≤ 200) same h)
    (All-tail IsLowTemp t ts p)
low_temps (t ∷ ts) es (suc k) e g p i h =
    All-cons IsLowTemp t (temps_changed ts k g) (All-head IsLowTemp t ts p)
    (low_temps ts es k e g (All-tail IsLowTemp t ts p) i h)

low_list : (es : List Tree) (k : ℕ) (e : Tree) (g : Tree → Tree) → All IsLow es → slice_get es k ≡ Some e →
    height (g e) ≤ 200 → All IsLow (results_changed es k g)
low_list [] k e g p i h = p
low_list (a ∷ es) zero e g p i h =
    let same : e ≡ a = cc in All-cons IsLow (g a) es (subst (λ u. height (g u) ≤ 200) same h) (All-tail IsLow a es p)
low_list (a ∷ es) (suc k) e g p i h =
    All-cons IsLow a (results_changed es k g) (All-head IsLow a es p) (low_list es k e g (All-tail IsLow a es p) i h)

low_results : (ts : List function.Temp) (es : List Tree) (k : ℕ) (e : Tree) (g : Tree → Tree) → All IsLow es →
    tree_in ts es k ≡ Some e → height (g e) ≤ 200 → All IsLow (results_after ts es k g)
low_results [] es k e g p i h = low_list es k e g p i h
low_results (t ∷ ts) es zero e g p i h = p
low_results (t ∷ ts) es (suc k) e g p i h = low_results ts es k e g p i h

pub lawful_with : (f : Function) (k : ℕ) (path : List ℕ) (old new : Tree) → IsLawfulFunction f →
    found f k path ≡ Some old → KeepsBelow (length f.inputs) old new → length path + height new ≤ 200 →
    length (nodes_of (with_tree f k path new)) ≤ 4000 → IsLawfulFunction (with_tree f k path new)
lawful_with f k path old new is there keeps low few =
    let s = some_then (subtree path) (tree_at f k) old there in
    let high =
    low_after path 200 s.0 old new s.2 (low_in f.temps f.results k s.0 is.low_temps is.low_results s.1) low in
    record {
      valid =
          changed_valid f k s.0 (put path new) s.1 (put_refers (length f.inputs) path s.0 old new s.2 keeps) is.valid;
      name = is.name;
      sizes = record {
        some_input = is.sizes.some_input;
        inputs = is.sizes.inputs;
        states = is.sizes.states;
        some_output = is.sizes.some_output;
        outputs = is.sizes.outputs;
        temps = subst (λ n. n ≤ 1000) (sym (same_temps f.temps k (put path new))) is.sizes.temps;
        nodes = few;
      };
      inputs = is.inputs;
      demands = is.demands;
      low_temps = low_temps f.temps f.results k s.0 (put path new) is.low_temps s.1 high;
      low_results = low_results f.temps f.results k s.0 (put path new) is.low_results s.1 high;
    }

-- with a leaf in place of a tree
pub lawful_leaf : (f : Function) (k : ℕ) (path : List ℕ) (old : Tree) → IsLawfulFunction f → found f k path ≡ Some old →
    length path + 1 ≤ 200 → IsLawfulFunction (with_tree f k path (Input 0))
lawful_leaf f k path old is there low =
    let x = nodes_after f k path old (Input 0) there in
    let c = node_count_is f in let d = node_count_is (with_tree f k path (Input 0)) in
    let few = is.sizes.nodes in
    lawful_with f k path old (Input 0) is there (λ k m h. is.sizes.some_input) low (omega arith)
