-- Lemmas on a front of one list behind another.
use Rattle.std.proofs.Common.{◌≡◌, ℕ, ◌+◌, ◌≤◌, List, ◌++◌, length, take, drop, sym, ap, ◌∙◌, length-append}
use Rattle.std.proofs.lemmas.List.{drop-drop, take-append-drop, length-take-le}

-- a copied front, and what stands behind it
pub drop-split : (xs ys : List ℕ) (i n : ℕ) → take n ys ≡ take n (drop i xs) → drop i xs ≡ take n ys ++ drop (i + n) xs
drop-split xs ys i n e = sym (take-append-drop n (drop i xs)) ∙ ap (λ t. take n (drop i xs) ++ t) (drop-drop n i xs)
    ∙ ap (λ t. t ++ drop (i + n) xs) (sym e)

-- a list grows by the n elements of a front
pub length-append-take : (xs ys : List ℕ) (n : ℕ) → n ≤ length ys → length (xs ++ take n ys) ≡ length xs + n
length-append-take xs ys n within = length-append xs (take n ys) ∙ ap (λ k. length xs + k) (length-take-le n ys within)
