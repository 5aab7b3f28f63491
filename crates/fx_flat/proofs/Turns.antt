-- One turn of the loops over temps and results: the next tree fits, and its nodes stand behind those so far.
use Rattle.std.proofs.Common.{◌≡◌, refl, ap, sym, ◌∙◌, ℕ, zero, suc, ◌+◌, ◌<◌, ◌≤◌, List, [], ◌∷◌, ◌++◌, length, map, drop, get_or, arith}
use Rattle.fx_model.specs.Tree.{Tree}
use Rattle.fx_model.specs.Function as model
use Rattle.fx_model.specs.Nodes.{flat, nodes_after, nodes_of}
use Rattle.fx_model.specs.Valid.{RefersBelow, IsValid}
use Rattle.fx_flat.specs.declared.node.Node as code
use Rattle.fx_flat.specs.NodeOf.{nodes_in}
use Rattle.fx_flat.proofs.Growth.{temp_fits, result_fits, temp_refers, result_refers, refers_more, seen_in_front}

same_count : (list : List code.Node) → length (nodes_in list) ≡ length list
same_count [] = refl
same_count (n ∷ list) = ap suc (same_count list)

-- the first of what is left of a list stands at that place
first_of : {X : Type 0} (xs : List X) (i : ℕ) (x : X) (rest : List X) → i < length xs → drop i xs ≡ x ∷ rest →
    get_or xs i x ≡ x
first_of [] i x rest lt h = absurd (omega (arith, lt))
first_of (u ∷ xs) zero x rest lt h = cc
first_of (u ∷ xs) (suc i) x rest lt h = first_of xs i x rest (omega (arith, lt)) h

-- what is left of a list, seen by f, where its items are these
pub front : {X Y : Type 0} (f : X → Y) (inside items : List X) (seen : List Y) (i : ℕ) (item : X) →
    map f inside ≡ seen → items ≡ inside → i < length items → item ≡ get_or items i item →
    drop i seen ≡ f item ∷ drop (i + 1) seen
front f inside items seen i item are same lt is =
    let s : map f items ≡ seen = ap (map f) same ∙ are in
    sym (ap (drop i) s) ∙ (seen_in_front f items i item lt
    ∙ (ap (λ x. f x ∷ drop (i + 1) (map f items)) (sym is) ∙ ap (λ ys. f item ∷ drop (i + 1) ys) s))

pub temp_room : (fn : model.Function) (inputs i : ℕ) (list : List code.Node) (temps : List ℕ) (t : model.Temp) →
    inputs ≡ length fn.inputs →
    drop i fn.temps ≡ t ∷ drop (i + 1) fn.temps →
    nodes_after (length fn.inputs) (drop i fn.temps) fn.results temps [] (nodes_in list) ≡ nodes_of fn →
    length (nodes_of fn) ≤ 4000 →
    length list + length (flat inputs temps (length list) t.tree).list ≤ 4000
temp_room fn inputs i list temps t same left rest few =
    let n : length (nodes_in list) ≡ length list = same_count list in
    let fits =
    temp_fits (length fn.inputs) t (drop (i + 1) fn.temps) fn.results temps [] (nodes_in list) (nodes_of fn)
    (ap (λ ts. nodes_after (length fn.inputs) ts fn.results temps [] (nodes_in list)) (sym left) ∙ rest) few in
    rw (same, sym n) fits

pub temp_turn : (fn : model.Function) (inputs i : ℕ) (list made : List code.Node) (temps : List ℕ) (root : ℕ)
    (t : model.Temp) → inputs ≡ length fn.inputs →
    drop i fn.temps ≡ t ∷ drop (i + 1) fn.temps →
    nodes_after (length fn.inputs) (drop i fn.temps) fn.results temps [] (nodes_in list) ≡ nodes_of fn →
    nodes_in made ≡ nodes_in list ++ (flat inputs temps (length list) t.tree).list →
    root ≡ (flat inputs temps (length list) t.tree).root →
    nodes_after (length fn.inputs) (drop (i + 1) fn.temps) fn.results (temps ++ root ∷ []) [] (nodes_in made)
    ≡ nodes_of fn
temp_turn fn inputs i list made temps root t same left rest nodes is =
    let n : length (nodes_in list) ≡ length list = same_count list in
    let before = ap (λ ts. nodes_after (length fn.inputs) ts fn.results temps [] (nodes_in list)) (sym left) ∙ rest in
    rw (nodes, is, same, sym n) before

pub result_room : (fn : model.Function) (inputs i : ℕ) (list : List code.Node) (temps roots : List ℕ) (e : Tree) →
    inputs ≡ length fn.inputs →
    drop i fn.results ≡ e ∷ drop (i + 1) fn.results →
    nodes_after (length fn.inputs) [] (drop i fn.results) temps roots (nodes_in list) ≡ nodes_of fn →
    length (nodes_of fn) ≤ 4000 →
    length list + length (flat inputs temps (length list) e).list ≤ 4000
result_room fn inputs i list temps roots e same left rest few =
    let n : length (nodes_in list) ≡ length list = same_count list in
    let fits =
    result_fits (length fn.inputs) e (drop (i + 1) fn.results) temps roots (nodes_in list) (nodes_of fn)
    (ap (λ es. nodes_after (length fn.inputs) [] es temps roots (nodes_in list)) (sym left) ∙ rest) few in
    rw (same, sym n) fits

pub result_turn : (fn : model.Function) (inputs i : ℕ) (list made : List code.Node) (temps roots : List ℕ) (root : ℕ)
    (e : Tree) → inputs ≡ length fn.inputs →
    drop i fn.results ≡ e ∷ drop (i + 1) fn.results →
    nodes_after (length fn.inputs) [] (drop i fn.results) temps roots (nodes_in list) ≡ nodes_of fn →
    nodes_in made ≡ nodes_in list ++ (flat inputs temps (length list) e).list →
    root ≡ (flat inputs temps (length list) e).root →
    nodes_after (length fn.inputs) [] (drop (i + 1) fn.results) temps (roots ++ root ∷ []) (nodes_in made) ≡ nodes_of fn
result_turn fn inputs i list made temps roots root e same left rest nodes is =
    let n : length (nodes_in list) ≡ length list = same_count list in
    let before = ap (λ es. nodes_after (length fn.inputs) [] es temps roots (nodes_in list)) (sym left) ∙ rest in
    rw (nodes, is, same, sym n) before

-- what a tree refers to is there
pub temp_known : (fn : model.Function) (inputs i : ℕ) (temps : List ℕ) (t : model.Temp) → IsValid fn →
    length fn.states ≤ 32 → inputs ≡ length fn.inputs →
    i < length fn.temps → drop i fn.temps ≡ t ∷ drop (i + 1) fn.temps → length temps ≡ i →
    RefersBelow inputs 32 (length temps) t.tree
temp_known fn inputs i temps t valid few same lt left count =
    let e : get_or fn.temps i t ≡ t = first_of fn.temps i t (drop (i + 1) fn.temps) lt left in
    let known = temp_refers (length fn.inputs) (length fn.states) 0 i fn.temps t valid.temps lt in
    let z : i + 0 ≡ i = omega arith in
    rw (same, count, sym z) (refers_more (length fn.inputs) (length fn.states) (i + 0) t.tree few (rw (sym e) known))

pub result_known : (fn : model.Function) (inputs i : ℕ) (temps : List ℕ) (e : Tree) → IsValid fn →
    length fn.states ≤ 32 → inputs ≡ length fn.inputs →
    i < length fn.results → drop i fn.results ≡ e ∷ drop (i + 1) fn.results → length temps ≡ length fn.temps →
    RefersBelow inputs 32 (length temps) e
result_known fn inputs i temps e valid few same lt left count =
    let is : get_or fn.results i e ≡ e = first_of fn.results i e (drop (i + 1) fn.results) lt left in
    let known = result_refers (length fn.inputs) (length fn.states) (length fn.temps) i fn.results e valid.results lt in
    rw (same, count) (refers_more (length fn.inputs) (length fn.states) (length fn.temps) e few (rw (sym is) known))

pub seen_length : {X Y : Type 0} (f : X → Y) (inside items : List X) (seen : List Y) (i : ℕ) → map f inside ≡ seen →
    items ≡ inside → i < length items → i < length seen
seen_length f inside items seen i are same lt = rw (sym are, length_seen f inside) (rw (sym same) lt) where
  length_seen : {X Y : Type 0} (f : X → Y) (xs : List X) → length (map f xs) ≡ length xs
  length_seen f [] = refl
  length_seen f (x ∷ xs) = ap suc (length_seen f xs)
