-- Lists of sixteen, element by element.
use Rattle.std.proofs.Common.{◌≡◌, ℕ, zero, suc, ◌+◌, ◌*◌, ◌<◌, ◌≤◌, List, [], ◌∷◌, ◌++◌, length, take, set, map, All, refl, sym, ap, subst, ◌∙◌, arith, pos, ℤ, Some, None, Option}
use Rattle.std.specs.Prelude.{slice_index_or, slice_set, replicate}
use Rattle.std.specs.Simd.Lanes.{zip2}
use Rattle.std.proofs.lemmas.Simd.{get_or-replicate, get_or-zip2, length-zip2, get_or-chunk, length-chunk, map-map}
use Rattle.std.proofs.lemmas.List.{length-map}
use Rattle.fx_rational.specs.Decimal.{Decimal}
use Rattle.fx_model.specs.Tree.{at}
use Rattle.fx_machine.proofs.Codes.{at_map, at_map_any, taken_more}
use Rattle.fx_lanes.specs.RowsSideBySide.{AreWordsAt, row_at, lane}

pub side_at : {Z : Type 0} (f : ℤ → ℤ → Z) (xs ys : List ℤ) (k : ℕ) (e : Z) → length xs ≡ 16 → length ys ≡ 16 → k < 16 →
    slice_index_or (zip2 f xs ys) k e ≡ f (at (pos 0) xs k) (at (pos 0) ys k)
side_at f xs ys k e mx my lt = get_or-zip2 f xs ys k (pos 0) (pos 0) e (omega (arith, mx)) (omega (arith, my))

pub sides_many : {Z : Type 0} (f : ℤ → ℤ → Z) (xs ys : List ℤ) → length xs ≡ 16 → length ys ≡ 16 →
    length (zip2 f xs ys) ≡ 16
sides_many f xs ys mx my = length-zip2 f xs ys (mx ∙ sym my) ∙ mx

pub sides_all : {Z : Type 0} (P : Z → Type 0) (f : ℤ → ℤ → Z) (xs ys : List ℤ) → length xs ≡ 16 → length ys ≡ 16 →
    ((k : ℕ) → k < 16 → P (f (at (pos 0) xs k) (at (pos 0) ys k))) → All P (zip2 f xs ys)
sides_all P f xs ys mx my h =
    let many = sides_many f xs ys mx my in
    λ k d lt. let l : k < 16 = omega (arith, many) in subst P (sym (side_at f xs ys k d mx my l)) (h k l)

pub side_of_all : {Z : Type 0} (P : Z → Type 0) (d : Z) (f : ℤ → ℤ → Z) (xs ys : List ℤ) (k : ℕ) → length xs ≡ 16 →
    length ys ≡ 16 → k < 16 → All P (zip2 f xs ys) → P (f (at (pos 0) xs k) (at (pos 0) ys k))
side_of_all P d f xs ys k mx my lt h =
    let many = sides_many f xs ys mx my in subst P (side_at f xs ys k d mx my lt) (h k d (omega (arith, many)))

pub each_all : (P : ℤ → Type 0) (f : ℤ → ℤ) (xs : List ℤ) → length xs ≡ 16 →
    ((k : ℕ) → k < 16 → P (f (at (pos 0) xs k))) → All P (map f xs)
each_all P f xs mx h =
    let many : length (map f xs) ≡ 16 = length-map xs f ∙ mx in
    λ k d lt. let l : k < 16 = omega (arith, many) in
    subst P (sym (at_map_any f xs k (pos 0) d (omega (arith, mx)))) (h k l)

-- what is some in each lane
pub some_at : (rs : List ℤ) (f : ℤ → ℤ → Option ℤ) (xs ys : List ℤ) (k : ℕ) → map (λ r. Some r) rs ≡ zip2 f xs ys →
    length xs ≡ 16 → length ys ≡ 16 → k < 16 → f (at (pos 0) xs k) (at (pos 0) ys k) ≡ Some (at (pos 0) rs k)
some_at rs f xs ys k e mx my lt =
    let many : length rs ≡ 16 = sym (length-map rs (λ r. Some r)) ∙ ap length e ∙ sides_many f xs ys mx my in
    sym (side_at f xs ys k None mx my lt) ∙ ap (λ zs. slice_index_or zs k None) (sym e)
    ∙ at_map_any (λ r. Some r) rs k (pos 0) None (omega (arith, many))

-- a number of a row
pub row_number : (n j k : ℕ) (ds : List Decimal) (d : Decimal) → k < n →
    slice_index_or (row_at n j ds) k d ≡ slice_index_or ds (j * n + k) d
row_number n j k ds d lt = get_or-chunk (j * n) n ds k d lt

row_ends : (n j : ℕ) → j < 16 → j * n + n ≤ 16 * n
row_ends n j lt = grind arith

pub row_length : (n j : ℕ) (ds : List Decimal) → length ds ≡ 16 * n → j < 16 → length (row_at n j ds) ≡ n
row_length n j ds many lt = let e = row_ends n j lt in length-chunk (j * n) n ds (omega (arith, many))

-- one lane more
pub filled_more : (words : List ℤ) (j : ℕ) (w : ℤ) (q : ℕ → Decimal → ℤ) → j < length words →
    ((i : ℕ) (d : Decimal) → i < j → at (pos 0) words i ≡ q i d) → ((d : Decimal) → w ≡ q j d)
    → (i : ℕ) (d : Decimal) → i < j + 1 → at (pos 0) (slice_set words j w) i ≡ q i d
filled_more [] j w q lt h hw i d l = absurd (omega arith)
filled_more (x ∷ xs) zero w q lt h hw zero d l = hw d
filled_more (x ∷ xs) zero w q lt h hw (suc i) d l = absurd (omega arith)
filled_more (x ∷ xs) (suc j) w q lt h hw zero d l = h zero d (omega arith)
filled_more (x ∷ xs) (suc j) w q lt h hw (suc i) d l =
    filled_more xs j w (λ m. q (suc m)) (omega arith) (λ m e n. h (suc m) e (omega arith)) hw i d (omega arith)

pub place_within : (n j k len : ℕ) → len ≡ 16 * n → j < 16 → k < n → j * n + k < len
place_within n j k len e l m = let r = row_ends n j l in omega (arith, e)

pub replicate_at : (k : ℕ) (w : ℤ) → k < 16 → at (pos 0) (replicate 16 w) k ≡ w
replicate_at k w lt = get_or-replicate 16 k w (pos 0) lt

-- a word of a code, and its sixteen, kept in whatever holds them
pub word_found : {X : Type 0} (words : X → List ℤ) (xs : List X) (a : ℕ) (x : X) (k : ℕ) → a < length xs →
    x ≡ slice_index_or xs a x → at (pos 0) (words x) k ≡ at (pos 0) (lane k (map words xs)) a
word_found words xs a x k lt e =
    sym (ap (λ (ws : List ℤ). at (pos 0) ws a) (map-map (λ (v : List ℤ). at (pos 0) v k) words xs)
    ∙ at_map (λ (y : _). at (pos 0) (words y) k) xs a x (pos 0) lt e)

pub words_found : {X : Type 0} (words : X → List ℤ) (xs : List X) (a : ℕ) (x : X) → a < length xs →
    x ≡ slice_index_or xs a x → length (words x) ≡ 16 → AreWordsAt (map words xs) a (words x)
words_found words xs a x lt e many = record { many = many; each = λ (k : ℕ). word_found words xs a x k lt e }

-- a lane with one word more
pub lane_more : {X : Type 0} (words : X → List ℤ) (k : ℕ) (xs : List X) (i : ℕ) (x : X) → i < length xs
    → lane k (map words (take (i + 1) (set xs i x))) ≡ lane k (map words (take i xs)) ++ at (pos 0) (words x) k ∷ []
lane_more words k xs i x lt =
    let word = λ (y : _). at (pos 0) (words y) k in let lanes = λ (v : List ℤ). at (pos 0) v k in
    map-map lanes words (take (i + 1) (set xs i x)) ∙ taken_more word xs i x (word x) lt refl
    ∙ ap (λ (ws : List ℤ). ws ++ at (pos 0) (words x) k ∷ []) (sym (map-map lanes words (take i xs)))
