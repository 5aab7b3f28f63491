-- Node lists with a value for each node, as they come of a fold whose steps look at operands.
use Rattle.std.proofs.Common.{◌≡◌, ℕ, suc, ◌+◌, ◌<◌, List, [], ◌∷◌, ◌++◌, length, refl, ap, subst, ◌∙◌, sym, arith, length-append, append_assoc}
use Rattle.std.specs.Prelude.{All}
use Rattle.std.proofs.lemmas.List.{length_push, append-nil}
use Rattle.std.proofs.lemmas.List.Elements.{All-head, All-tail}
use Rattle.std.proofs.Math.Seq.{get_or-append_seam}
use Rattle.fx_model.specs.Tree.{at}
use Rattle.fx_model.specs.Nodes.{Node}
use Rattle.fx_flat.specs.InPlace.{IsInPlace, AreInPlace}

-- each node with its value, from k on; both lists are equally long
abbrev pub ArePairs : {X : Type 0} → (ℕ → Node → X → Type 0) → ℕ → List Node → List X → Type 0
ArePairs P k [] [] = Unit {0}
ArePairs P k (node ∷ nodes) (x ∷ xs) = P k node x × ArePairs P (k + 1) nodes xs
ArePairs P k [] (x ∷ xs) = ⊥
ArePairs P k (node ∷ nodes) [] = ⊥

pub pairs_length : {X : Type 0} (P : ℕ → Node → X → Type 0) (k : ℕ) (nodes : List Node) (xs : List X) →
    ArePairs P k nodes xs → length nodes ≡ length xs
pairs_length P k [] [] h = refl
pairs_length P k (node ∷ nodes) (x ∷ xs) h = let l = pairs_length P (k + 1) nodes xs h.1 in omega (arith, l)
pairs_length P k [] (x ∷ xs) h = absurd h
pairs_length P k (node ∷ nodes) [] h = absurd h

-- two facts of each pair give a third
pub pairs_give : {X : Type 0} (P Q R : ℕ → Node → X → Type 0) →
    ((k : ℕ) (node : Node) (x : X) → P k node x → Q k node x → R k node x) →
    (k : ℕ) (nodes : List Node) (xs : List X) → ArePairs P k nodes xs → ArePairs Q k nodes xs → ArePairs R k nodes xs
pairs_give P Q R f k [] [] h g = tt
pairs_give P Q R f k (node ∷ nodes) (x ∷ xs) h g = (f k node x h.0 g.0, pairs_give P Q R f (k + 1) nodes xs h.1 g.1)
pairs_give P Q R f k [] (x ∷ xs) h g = absurd h
pairs_give P Q R f k (node ∷ nodes) [] h g = absurd h

-- what holds of each node holds beside its value
pub pairs_with : {X : Type 0} (P : ℕ → Node → X → Type 0) (W : Node → Type 0) (k : ℕ) (nodes : List Node)
    (xs : List X) → ArePairs P k nodes xs → All W nodes → ArePairs (λ k node x. P k node x × W node) k nodes xs
pairs_with P W k [] [] h all = tt
pairs_with P W k (node ∷ nodes) (x ∷ xs) h all =
    ((h.0, All-head W node nodes all), pairs_with P W (k + 1) nodes xs h.1 (All-tail W node nodes all))
pairs_with P W k [] (x ∷ xs) h all = absurd h
pairs_with P W k (node ∷ nodes) [] h all = absurd h

-- what holds at each index holds of each pair
pub pairs_at : {X : Type 0} (P : ℕ → Node → X → Type 0) (k : ℕ) (nodes : List Node) (xs : List X) (d : Node) (e : X) →
    length nodes ≡ length xs → ((j : ℕ) → j < length nodes → P (k + j) (at d nodes j) (at e xs j)) →
    ArePairs P k nodes xs
pairs_at P k [] [] d e l h = tt
pairs_at P k [] (x ∷ xs) d e l h = absurd (omega (arith, l))
pairs_at P k (node ∷ nodes) [] d e l h = absurd (omega (arith, l))
pairs_at P k (node ∷ nodes) (x ∷ xs) d e l h = (
  subst (λ (m : ℕ). P m node x) (omega arith) (h 0 (omega arith)),
  pairs_at P (k + 1) nodes xs d e (omega (arith, l))
      (λ j lt. subst (λ (m : ℕ). P m (at d nodes j) (at e xs j)) (omega arith) (h (suc j) (omega (arith, lt)))),
)

-- ---- a fold
-- what holds of node k and its value x among the values ws of all nodes: it is what the step makes of all of them
pub record IsFolded {X : Type 0} (none : X) (step : List X → Node →
    X) (i s : ℕ) (ws : List X) (k : ℕ) (node : Node) (x : X) : Type 0 where
  pub is : x ≡ step ws node
  pub at : at none ws k ≡ x
  pub below : k < length ws
  pub ordered : IsInPlace i s k node

-- values behind its operands change nothing for a node
abbrev pub IsKeptPair : {X : Type 0} → (List X → Node → X) → ℕ → ℕ → Type 0
IsKeptPair {X} step i s =
    (ws more : List X) (node : Node) → IsInPlace i s (length ws) node → step ws node ≡ step (ws ++ more) node

-- a fold takes each node's value behind those before it
pub record IsFold {X : Type 0} (step : List X → Node → X) (after : List Node → List X → List X) : Type 0 where
  pub ends : (ws : List X) → after [] ws ≡ ws
  pub goes_on : (node : Node) (nodes : List Node) (ws : List X) →
      after (node ∷ nodes) ws ≡ after nodes (ws ++ step ws node ∷ [])

-- the values ws in front and then one for each node
pub record AreFolded {X : Type 0} (none : X) (step : List X → Node →
    X) (i s : ℕ) (nodes : List Node) (ws all : List X) : Type 0 where
  pub rest : List X
  pub is : all ≡ ws ++ rest
  pub pairs : ArePairs (IsFolded none step i s all) (length ws) nodes rest

pub folded : {X : Type 0} (none : X) (step : List X → Node → X) (after : List Node → List X → List X) (i s : ℕ) →
    IsFold step after → IsKeptPair step i s →
    (nodes : List Node) (ws : List X) → AreInPlace i s (length ws) nodes →
    AreFolded none step i s nodes ws (after nodes ws)
folded none step after i s fold kept [] ws h = record { rest = []; is = fold.ends ws ∙ sym (append-nil ws); pairs = tt }
folded {X} none step after i s fold kept (node ∷ nodes) ws h =
    let x = step ws node in
    let long = length_push ws x in
    let f =
    folded none step after i s fold kept nodes (ws ++ x ∷ [])
    (subst (λ (k : ℕ). AreInPlace i s k nodes) (sym long) h.1) in
    let all : after (node ∷ nodes) ws ≡ ws ++ x ∷ f.rest = fold.goes_on node nodes ws ∙ f.is
    ∙ append_assoc ws (x ∷ []) f.rest in
    record {
      rest = x ∷ f.rest;
      is = all;
      pairs = (
        record {
          is = kept ws (x ∷ f.rest) node h.0 ∙ ap (λ (zs : List X). step zs node) (sym all);
          at = ap (λ (zs : List X). at none zs (length ws)) all ∙ get_or-append_seam ws x f.rest none;
          below = let l = ap length all in let m = length-append ws (x ∷ f.rest) in omega (arith, l, m);
          ordered = h.0;
        },
        subst (λ (zs : List X). ArePairs (IsFolded none step i s zs) (length ws + 1) nodes f.rest)
            (sym (fold.goes_on node nodes ws))
            (subst (λ (k : ℕ). ArePairs
            (IsFolded none step i s (after nodes (ws ++ x ∷ []))) k nodes f.rest) long f.pairs),
      );
    }
