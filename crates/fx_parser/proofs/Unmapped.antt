-- What holds of all images holds of the images of all.
use Rattle.std.proofs.Common.{List, [], ◌∷◌, map}
use Rattle.std.specs.List.{All}
use Rattle.std.proofs.lemmas.List.Elements.{All-nil, All-cons, All-head, All-tail}

pub unmapped : {A B : Type 0} (f : A → B) (P : B → Type 0) (xs : List A) → All P (map f xs) → All (λ x. P (f x)) xs
unmapped f P [] h = All-nil (λ x. P (f x))
unmapped f P (x ∷ xs) h =
    All-cons (λ x. P (f x)) x xs (All-head P (f x) (map f xs) h) (unmapped f P xs (All-tail P (f x) (map f xs) h))
