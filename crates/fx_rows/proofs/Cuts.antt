-- Pieces, one after the other.
use Rattle.std.proofs.Common.{◌≡◌, ℕ, ◌+◌, ◌-◌, ◌<◌, ◌≤◌, zero, suc, List, [], ◌∷◌, ◌++◌, Some, None, Bor, length, take, drop, map, set, get_or, refl, ap, ◌∙◌, sym, arith, append_assoc, add-one}
use Rattle.std.proofs.lemmas.Grind.{common_steps}
use Rattle.std.proofs.lemmas.List.{take_more_set, map-append}
use Rattle.csv.specs.Records.{field_at}

-- what is left behind one more
behind_first : (whole left others : List (List ℕ)) (f : List ℕ) (k : ℕ) → left ≡ f ∷ others → left ≡ drop k whole →
    others ≡ drop (suc k) whole
behind_first [] left others f zero e h = absurd (cc)
behind_first [] left others f (suc k) e h = absurd (cc)
behind_first (x ∷ xs) left others f zero e h = cc
behind_first (x ∷ xs) left others f (suc k) e h = behind_first xs left others f k e h

pub one_further : (whole left others : List (List ℕ)) (f : List ℕ) (k : ℕ) → left ≡ f ∷ others → left ≡ drop k whole →
    others ≡ drop (k + 1) whole
one_further whole left others f k e h =
    behind_first whole left others f k e h ∙ ap (λ n. drop n whole) (sym (add-one k))

-- nothing is left, nor behind it
pub none_further : (whole left : List (List ℕ)) (k count : ℕ) → k ≤ count → left ≡ [] → left ≡ drop k whole →
    [] ≡ drop count whole
none_further [] left k count le e h = grind (arith, common_steps)
none_further (x ∷ xs) left zero count le e h = absurd (cc)
none_further (x ∷ xs) left (suc k) zero le e h = absurd (omega arith)
none_further (x ∷ xs) left (suc k) (suc count) le e h = none_further xs left k count (omega arith) e h

-- the first of those that are left stands at their place
pub first_there : (whole left others : List (List ℕ)) (f : List ℕ) (k : ℕ) → left ≡ f ∷ others → left ≡ drop k whole →
    Some f ≡ field_at whole k
unfolding field_at
first_there [] left others f zero e h = absurd (cc)
first_there [] left others f (suc k) e h = absurd (cc)
first_there (x ∷ xs) left others f zero e h = let same : f ≡ x = cc in ap Some same
first_there (x ∷ xs) left others f (suc k) e h = first_there xs left others f k e h

pub none_there : (whole left : List (List ℕ)) (k : ℕ) → left ≡ [] → left ≡ drop k whole → None ≡ field_at whole k
unfolding field_at
none_there [] left zero e h = refl
none_there [] left (suc k) e h = refl
none_there (x ∷ xs) left zero e h = absurd (cc)
none_there (x ∷ xs) left (suc k) e h = none_there xs left k e h

-- one piece more in the table
pub kept_more : (table : List (Bor (List ℕ))) (i : ℕ) (p : Bor (List ℕ)) (left others whole : List (List ℕ)) →
    i < length table → left ≡ p.now ∷ others
    → map (λ f. f.now) (take i table) ++ left ≡ whole →
    map (λ f. f.now) (take (i + 1) (set table i p)) ++ others ≡ whole
kept_more table i p left others whole lt e h =
    let now = λ (f : Bor (List ℕ)). f.now in
    ap (λ t. map now t ++ others) (take_more_set table i p lt)
    ∙ ap (λ t. t ++ others) (map-append now (take i table) (p ∷ []))
    ∙ append_assoc (map now (take i table)) (p.now ∷ []) others ∙ ap (λ l. map now (take i table) ++ l) (sym e) ∙ h

-- what the table has
pub in_table : (table : List (Bor (List ℕ))) (count place : ℕ) (d : Bor (List ℕ)) (more : List (List ℕ)) →
    place < count → count ≤ length table
    → field_at (map (λ f. f.now) (take count table) ++ more) place ≡ Some (get_or table place d).now
unfolding field_at
in_table [] count place d more lt le = absurd (omega arith)
in_table (x ∷ xs) zero place d more lt le = absurd (omega arith)
in_table (x ∷ xs) (suc count) zero d more lt le = refl
in_table (x ∷ xs) (suc count) (suc place) d more lt le = in_table xs count place d more (omega arith) (omega arith)

-- what it doesn't have
pub behind_table : (table : List (Bor (List ℕ))) (count place : ℕ) (more : List (List ℕ)) → count ≤ place →
    count ≤ length table
    → field_at (map (λ f. f.now) (take count table) ++ more) place ≡ field_at more (place - count)
unfolding field_at
behind_table table zero place more le room = let e : place ≡ place - 0 = omega arith in ap (λ n. field_at more n) e
behind_table [] (suc count) place more le room = absurd (omega arith)
behind_table (x ∷ xs) (suc count) zero more le room = absurd (omega arith)
behind_table (x ∷ xs) (suc count) (suc place) more le room =
    let e : suc place - suc count ≡ place - count = omega arith in
    behind_table xs count place more (omega arith) (omega arith) ∙ ap (λ n. field_at more n) (sym e)

pub drop-further : (xs : List (List ℕ)) (n m : ℕ) → n ≤ m → drop (m - n) (drop n xs) ≡ drop m xs
drop-further xs zero m le = ap (λ k. drop k xs) (omega arith)
drop-further [] (suc n) zero le = absurd (omega arith)
drop-further [] (suc n) (suc m) le = grind (arith, common_steps)
drop-further (x ∷ xs) (suc n) zero le = absurd (omega arith)
drop-further (x ∷ xs) (suc n) (suc m) le =
    let e : suc m - suc n ≡ m - n = omega arith in ap (λ k. drop k (drop n xs)) e ∙ drop-further xs n m (omega arith)
