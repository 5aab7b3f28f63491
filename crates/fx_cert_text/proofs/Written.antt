-- What a loop writes, thing by thing.
use Rattle.std.proofs.Common.{◌≡◌, ℕ, ◌+◌, ◌<◌, ◌≤◌, List, [], ◌∷◌, ◌++◌, length, get_or, take, sym, ap, ◌∙◌}
use Rattle.std.specs.List.{flat_map}
use Rattle.std.proofs.lemmas.List.{flat_map_more, take_more, take_all}

-- behind what is written of the first k things of a list that of the next one
pub one_more : {X : Type 0} (f : X → List ℕ) (xs : List X) (k : ℕ) (x : X) (old out new : List ℕ) → k < length xs →
    x ≡ get_or xs k x → out ≡ old ++ flat_map f (take k xs) → new ≡ out ++ f x →
    new ≡ old ++ flat_map f (take (k + 1) xs)
one_more f xs k x old out new lt is p q =
    q ∙ ap (λ o. o ++ f x) p ∙ flat_map_more f old (take k xs) x
    ∙ ap (λ ys. old ++ flat_map f ys) (ap (λ y. take k xs ++ y ∷ []) is ∙ sym (take_more xs k x lt))

-- all of a list is written where no thing is left
pub no_more : {X : Type 0} (f : X → List ℕ) (xs : List X) (k : ℕ) (old out : List ℕ) → length xs ≤ k →
    out ≡ old ++ flat_map f (take k xs) → out ≡ old ++ flat_map f xs
no_more f xs k old out end p = p ∙ ap (λ ys. old ++ flat_map f ys) (take_all k xs end)
