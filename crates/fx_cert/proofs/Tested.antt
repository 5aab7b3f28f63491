-- What a loop tests, thing by thing.
use Rattle.std.proofs.Common.{◌≡◌, ℕ, ◌+◌, ◌<◌, ◌≤◌, All, List, [], ◌∷◌, length, get_or, take, drop, map, sym, ap, subst, ◌∙◌}
use Rattle.std.proofs.lemmas.List.{drop_all, drop_more, get_or-map, length-map, take_all}
use Rattle.std.proofs.lemmas.List.Elements.{All-more}

-- the things before the next one are so, and it is
pub one_more_so : {A : Type 0} (P : A → Type 0) (xs : List A) (i : ℕ) (x : A) → i < length xs → x ≡ get_or xs i x →
    P x → All P (take i xs) → All P (take (i + 1) xs)
one_more_so P xs i x lt is here before = All-more P xs i x lt before (subst P is here)

-- all of a list are so where no thing is left
pub all_so : {A : Type 0} (P : A → Type 0) (xs : List A) (i : ℕ) → length xs ≤ i → All P (take i xs) → All P xs
all_so P xs i end before = subst (All P) (take_all i xs end) before

-- ---- what is left, where things are seen by a view
-- it begins with the next thing
pub rest_seen : {A B : Type 0} (view : A → B) (xs : List A) (i : ℕ) (x : A) → i < length xs → x ≡ get_or xs i x →
    drop i (map view xs) ≡ view x ∷ drop (i + 1) (map view xs)
rest_seen view xs i x lt is =
    let within : i < length (map view xs) = rw (length-map xs view) lt in
    drop_more (map view xs) i (view x) within
    ∙ ap (λ y. y ∷ drop (i + 1) (map view xs)) (get_or-map view xs i x (view x) lt ∙ ap view (sym is))

-- nothing
pub none_seen : {A B : Type 0} (view : A → B) (xs : List A) (i : ℕ) → length xs ≤ i → drop i (map view xs) ≡ []
none_seen view xs i end =
    let all : length (map view xs) ≤ i = rw (length-map xs view) end in drop_all i (map view xs) all
