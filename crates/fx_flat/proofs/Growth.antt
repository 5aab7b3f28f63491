-- How the list grows, tree by tree, and that it never grows past the whole.
use Rattle.std.proofs.Common.{◌≡◌, refl, ap, sym, ◌∙◌, ℕ, zero, suc, ◌+◌, ◌<◌, ◌≤◌, List, [], ◌∷◌, ◌++◌, length, map, take, drop, get_or, arith, length-append}
use Rattle.fx_model.specs.Tree as tree
use Rattle.fx_model.specs.Tree.{Tree}
use Rattle.fx_model.specs.Function.{Temp}
use Rattle.fx_model.specs.Nodes.{Node, Input, State, Copy, inputs_from, states_from, copies_of, flat, nodes_after}
use Rattle.fx_model.specs.Valid.{RefersBelow, ReferBack, AllReferBelow}

inputs_shifted : (k m : ℕ) → inputs_from k (suc m) ≡ inputs_from k m ++ Input (m + k) ∷ []
inputs_shifted k zero = let e : 0 + k ≡ k = omega arith in rw e refl
inputs_shifted k (suc m) =
    let e : suc m + k ≡ m + (k + 1) = omega arith in
    rw e (ap (λ (rest : List Node). Input k ∷ rest) (inputs_shifted (k + 1) m))

pub inputs_one_more : (m : ℕ) → inputs_from 0 (m + 1) ≡ inputs_from 0 m ++ Input m ∷ []
inputs_one_more m =
    let e : m + 1 ≡ suc m = omega arith in
    let z : m ≡ m + 0 = omega arith in
    rw e (let shifted = inputs_shifted 0 m in (shifted ∙ ap (λ (j : ℕ). inputs_from 0 m ++ Input j ∷ []) (sym z)))

states_shifted : (k m : ℕ) → states_from k (suc m) ≡ states_from k m ++ State (m + k) ∷ []
states_shifted k zero = let e : 0 + k ≡ k = omega arith in rw e refl
states_shifted k (suc m) =
    let e : suc m + k ≡ m + (k + 1) = omega arith in
    rw e (ap (λ (rest : List Node). State k ∷ rest) (states_shifted (k + 1) m))

pub states_one_more : (m : ℕ) → states_from 0 (m + 1) ≡ states_from 0 m ++ State m ∷ []
states_one_more m =
    let e : m + 1 ≡ suc m = omega arith in
    let z : m ≡ m + 0 = omega arith in
    rw e (let shifted = states_shifted 0 m in (shifted ∙ ap (λ (j : ℕ). states_from 0 m ++ State j ∷ []) (sym z)))

pub copies_one_more : (roots : List ℕ) (i d : ℕ) → i < length roots →
    copies_of (take (i + 1) roots) ≡ copies_of (take i roots) ++ Copy (get_or roots i d) ∷ []
copies_one_more [] i d h = absurd (omega (arith, h))
copies_one_more (a ∷ roots) zero d h = refl
copies_one_more (a ∷ roots) (suc i) d h =
    let e : suc i + 1 ≡ suc (i + 1) = omega arith in
    rw e (ap (λ (rest : List Node). Copy a ∷ rest) (copies_one_more roots i d (omega (arith, h))))

pub longer : (i : ℕ) (ts : List Temp) (es : List Tree) (temps roots : List ℕ) (ns : List Node) →
    length ns ≤ length (nodes_after i ts es temps roots ns)
longer i [] [] temps roots ns = omega (arith, length-append ns (copies_of roots))
longer i [] (e ∷ es) temps roots ns =
    let x = flat i temps (length ns) e in
    let more = longer i [] es temps (roots ++ x.root ∷ []) (ns ++ x.list) in
    omega (arith, more, length-append ns x.list)
longer i (t ∷ ts) es temps roots ns =
    let x = flat i temps (length ns) t.tree in
    let more = longer i ts es (temps ++ x.root ∷ []) roots (ns ++ x.list) in
    omega (arith, more, length-append ns x.list)

-- the nodes of the next tree don't go past the whole
pub temp_fits : (i : ℕ) (t : Temp) (ts : List Temp) (es : List Tree) (temps roots : List ℕ) (ns all : List Node) →
    nodes_after i (t ∷ ts) es temps roots ns ≡ all → length all ≤ 4000 →
    length ns + length (flat i temps (length ns) t.tree).list ≤ 4000
temp_fits i t ts es temps roots ns all is few =
    let x = flat i temps (length ns) t.tree in
    let more = longer i ts es (temps ++ x.root ∷ []) roots (ns ++ x.list) in
    let same = ap length is in omega (arith, more, same, few, length-append ns x.list)

pub result_fits : (i : ℕ) (e : Tree) (es : List Tree) (temps roots : List ℕ) (ns all : List Node) →
    nodes_after i [] (e ∷ es) temps roots ns ≡ all → length all ≤ 4000 →
    length ns + length (flat i temps (length ns) e).list ≤ 4000
result_fits i e es temps roots ns all is few =
    let x = flat i temps (length ns) e in
    let more = longer i [] es temps (roots ++ x.root ∷ []) (ns ++ x.list) in
    let same = ap length is in omega (arith, more, same, few, length-append ns x.list)

-- fewer states than 32
pub refers_more : (i k m : ℕ) (e : Tree) → k ≤ 32 → RefersBelow i k m e → RefersBelow i 32 m e
refers_more i k m (tree.Literal c) few r = tt
refers_more i k m (tree.Input n) few r = r
refers_more i k m (tree.State n) few r = omega (arith, few, r)
refers_more i k m (tree.Temp n) few r = r
refers_more i k m (tree.Negation a) few r = refers_more i k m a few r
refers_more i k m (tree.Sum a b) few r = (refers_more i k m a few r.0, refers_more i k m b few r.1)
refers_more i k m (tree.Difference a b) few r = (refers_more i k m a few r.0, refers_more i k m b few r.1)
refers_more i k m (tree.Product a b) few r = (refers_more i k m a few r.0, refers_more i k m b few r.1)
refers_more i k m (tree.Quotient a b) few r = (refers_more i k m a few r.0, refers_more i k m b few r.1)

-- temp j refers to temps before it
pub temp_refers : (i k m j : ℕ) (ts : List Temp) (t : Temp) → ReferBack i k m ts → j < length ts →
    RefersBelow i k (j + m) (get_or ts j t).tree
temp_refers i k m j [] t r h = absurd (omega (arith, h))
temp_refers i k m zero (u ∷ ts) t r h = let e : 0 + m ≡ m = omega arith in rw e r.0
temp_refers i k m (suc j) (u ∷ ts) t r h =
    let e : suc j + m ≡ j + (m + 1) = omega arith in rw e (temp_refers i k (m + 1) j ts t r.1 (omega (arith, h)))

pub result_refers : (i k m j : ℕ) (es : List Tree) (e : Tree) → AllReferBelow i k m es → j < length es →
    RefersBelow i k m (get_or es j e)
result_refers i k m j [] e r h = absurd (omega (arith, h))
result_refers i k m zero (u ∷ es) e r h = r.0
result_refers i k m (suc j) (u ∷ es) e r h = result_refers i k m j es e r.1 (omega (arith, h))

-- what is left of a list seen through f, with its first value in front
pub seen_in_front : {X Y : Type 0} (f : X → Y) (xs : List X) (i : ℕ) (d : X) → i < length xs →
    drop i (map f xs) ≡ f (get_or xs i d) ∷ drop (i + 1) (map f xs)
seen_in_front f [] i d h = absurd (omega (arith, h))
seen_in_front f (x ∷ xs) zero d h = refl
seen_in_front f (x ∷ xs) (suc i) d h =
    let e : suc i + 1 ≡ suc (i + 1) = omega arith in rw e (seen_in_front f xs i d (omega (arith, h)))

seen_at : {X Y : Type 0} (f : X → Y) (xs : List X) (i : ℕ) (d : X) → i < length xs →
    get_or (map f xs) i (f d) ≡ f (get_or xs i d)
seen_at f [] i d h = absurd (omega (arith, h))
seen_at f (x ∷ xs) zero d h = refl
seen_at f (x ∷ xs) (suc i) d h = seen_at f xs i d (omega (arith, h))
