-- Lists of codes that are made node by node.
use Rattle.std.proofs.Common.{◌≡◌, ℕ, zero, suc, ◌+◌, ◌<◌, List, [], ◌∷◌, ◌++◌, length, map, take, get_or, refl, sym, ap, ◌∙◌, arith}
use Rattle.std.specs.Prelude.{All}
use Rattle.std.proofs.lemmas.List.{map_push}
use Rattle.std.proofs.lemmas.List.Elements.{All-nil, All-cons}
use Rattle.fx_model.specs.Machine.{Code}
use Rattle.fx_model.specs.Nodes as model
use Rattle.fx_model.proofs.Lists.{seen_at}
use Rattle.fx_flat.specs.NodeOf.{node_of, nodes_in}
use Rattle.fx_flat.specs.declared.node.Node.{Node}
use Rattle.fx_flat.proofs.Pairs.{ArePairs}
use Rattle.fx_program.specs.CodeView.{code_of}
use Rattle.fx_program.specs.declared.code.Code as code
use Rattle.fx_lowering.specs.OfFunction.{codes_by}

-- what holds of each code that is made holds of all
pub all_by : {X : Type 0} (P : Code → Type 0) (make : model.Node → X → Code) →
    ((node : model.Node) (x : X) → P (make node x)) → (nodes : List model.Node) (xs : List X) →
    All P (codes_by make nodes xs)
all_by P make h [] xs = All-nil P
all_by P make h (node ∷ nodes) [] = All-nil P
all_by P make h (node ∷ nodes) (x ∷ xs) =
    All-cons P (make node x) (codes_by make nodes xs) (h node x) (all_by P make h nodes xs)

pub by_length : {X : Type 0} (make : model.Node → X → Code) (nodes : List model.Node) (xs : List X) →
    length nodes ≡ length xs → length (codes_by make nodes xs) ≡ length nodes
by_length make [] xs e = refl
by_length make (node ∷ nodes) [] e = absurd (omega (arith, e))
by_length make (node ∷ nodes) (x ∷ xs) e = let l = by_length make nodes xs (omega (arith, e)) in omega (arith, l)

-- ---- each node with its code
pub pairs_by : {X : Type 0} (P : ℕ → model.Node → X → Type 0) (Q : ℕ → model.Node → Code → Type 0)
    (make : model.Node → X → Code) →
    ((k : ℕ) (node : model.Node) (x : X) → P k node x → Q k node (make node x)) →
    (k : ℕ) (nodes : List model.Node) (xs : List X) → ArePairs P k nodes xs →
    ArePairs Q k nodes (codes_by make nodes xs)
pairs_by P Q make f k [] [] h = tt
pairs_by P Q make f k (node ∷ nodes) (x ∷ xs) h = (f k node x h.0, pairs_by P Q make f (k + 1) nodes xs h.1)
pairs_by P Q make f k [] (x ∷ xs) h = absurd h
pairs_by P Q make f k (node ∷ nodes) [] h = absurd h

-- the same where a code is made of its node alone
pub pairs_map : {X : Type 0} (P : ℕ → model.Node → X → Type 0) (Q : ℕ → model.Node → Code → Type 0)
    (make : model.Node → Code) → ((k : ℕ) (node : model.Node) (x : X) → P k node x → Q k node (make node)) →
    (k : ℕ) (nodes : List model.Node) (xs : List X) → ArePairs P k nodes xs → ArePairs Q k nodes (map make nodes)
pairs_map P Q make f k [] [] h = tt
pairs_map P Q make f k (node ∷ nodes) (x ∷ xs) h = (f k node x h.0, pairs_map P Q make f (k + 1) nodes xs h.1)
pairs_map P Q make f k [] (x ∷ xs) h = absurd h
pairs_map P Q make f k (node ∷ nodes) [] h = absurd h

-- ---- one more code
by_more : {X : Type 0} (make : model.Node → X → Code) (nodes : List model.Node) (xs : List X) (i : ℕ) (d : model.Node)
    (e : X) → i < length nodes → i < length xs →
    codes_by make (take (i + 1) nodes) (take (i + 1) xs) ≡ codes_by make (take i nodes) (take i xs)
    ++ make (get_or nodes i d) (get_or xs i e) ∷ []
by_more make [] xs i d e p q = absurd (omega (arith, p))
by_more make (node ∷ nodes) [] i d e p q = absurd (omega (arith, q))
by_more make (node ∷ nodes) (x ∷ xs) zero d e p q = refl
by_more make (node ∷ nodes) (x ∷ xs) (suc i) d e p q =
    let next : suc i + 1 ≡ suc (i + 1) = omega arith in
    ap (λ (m : ℕ). codes_by make (take m (node ∷ nodes)) (take m (x ∷ xs))) next
    ∙ ap (λ cs. make node x ∷ cs) (by_more make nodes xs i d e (omega (arith, p)) (omega (arith, q)))

-- a loop over nodes pushes the code y of node x
pub one_more_code : {X : Type 0} (make : model.Node → X → Code) (nodes : List Node) (xs : List X)
    (all codes : List code.Code) (i : ℕ) (x : Node) (e : X) (y : code.Code) → i < length nodes → i < length xs →
    x ≡ get_or nodes i x → all ≡ codes ++ y ∷ [] →
    map code_of codes ≡ codes_by make (take i (nodes_in nodes)) (take i xs) →
    code_of y ≡ make (node_of x) (get_or xs i e) →
    map code_of all ≡ codes_by make (take (i + 1) (nodes_in nodes)) (take (i + 1) xs)
one_more_code make nodes xs all codes i x e y lt within x_is pushed before own =
    let s = seen_at node_of nodes (nodes_in nodes) i x refl lt x_is in
    ap (map code_of) pushed ∙ map_push code_of codes y
    ∙ (λ j. before j ++ own j ∷ [])
    ∙ (λ j. codes_by make (take i (nodes_in nodes)) (take i xs) ++ make (sym s.1 j) (get_or xs i e) ∷ [])
    ∙ sym (by_more make (nodes_in nodes) xs i (node_of x) e s.0 within)
