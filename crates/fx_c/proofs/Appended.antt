-- What was written piece by piece.
use Rattle.std.proofs.Common.{◌≡◌, ℕ, zero, suc, ◌+◌, ◌<◌, ℤ, pos, Bool, true, false, cond, List, [], ◌∷◌, ◌++◌, length, get_or, take, map, refl, sym, ap, subst, ◌∙◌, arith, codes, to_z, of_z}
use Rattle.std.specs.Prelude.{◌||◌}
use Rattle.std.specs.Fmt.{decimal}
use Rattle.std.specs.Int.{w32}
use Rattle.std.specs.List.{flat_map, list_any, range_with_len}
use Rattle.std.proofs.Common.{append_assoc}
use Rattle.std.proofs.lemmas.List.{append-nil, take_more, length-take}
use Rattle.std.proofs.lemmas.List.Folds.{list_any-append}
use Rattle.fx_model.specs.Machine.{Round, Floor, Nearest, Code, starts_of, start_words}
use Rattle.fx_model.specs.Tree.{at}
use Rattle.fx_statements.specs.Statements.{Size, Operator, Wide, Two, Narrowed, Let}
use Rattle.fx_statements.specs.RustText.{operator_text}
use Rattle.fx_statements.specs.OfProgram.{least_size, store_of, stores_of}
use Rattle.fx_c99.specs.CText.{c_wide_text, working_wide_text, c_cast_text, c_value_text, assignment_text, placed, start_text, starts_text, wide_type_text, computes_in, rounds_in, floor_text, helpers_text}
use Rattle.fx_c99.specs.OfProgram.{c_rounded, c_value_for, c_let_of, c_lets_from}
use Rattle.fx_c99.specs.Working.{working_bits}
use Rattle.fx_rust.proofs.Appended.{lets_more, store_more}
use Rattle.fx_c.specs.Around.{opening, closing}

-- ---- what is rounded
-- an expression between the two
rounded_text : (bits : ℕ) (r : Round) (e : Wide) (s : ℕ) →
    c_wide_text bits (c_rounded r e s) ≡ opening bits r s ++ (c_wide_text bits e ++ closing bits r s)
rounded_text bits Floor e zero = sym (append-nil (c_wide_text bits e))
rounded_text bits Nearest e zero = sym (append-nil (c_wide_text bits e))
rounded_text bits Floor e (suc s) = simp append_assoc
rounded_text bits Nearest e (suc s) = simp append_assoc

-- what was written in three pieces
pub between : (bits : ℕ) (r : Round) (e : Wide) (s : ℕ) (old before middle new : List ℕ) →
    before ≡ old ++ opening bits r s → middle ≡ before ++ c_wide_text bits e
    → new ≡ middle ++ closing bits r s → new ≡ old ++ c_wide_text bits (c_rounded r e s)
between bits r e s old before middle new p q h =
    let joined : ((old ++ opening bits r s) ++ c_wide_text bits e) ++ closing bits r s ≡ old
    ++ (opening bits r s ++ (c_wide_text bits e ++ closing bits r s)) = simp append_assoc in
    h ∙ ap (λ o. o ++ closing bits r s) (q ∙ ap (λ o. o ++ c_wide_text bits e) p) ∙ joined
    ∙ ap (λ t. old ++ t) (sym (rounded_text bits r e s))

-- ---- one statement more
-- one code more that may pass a test
pub any_more : {X : Type 0} (test : Let → Bool) (f : X → Code) (n : ℕ) (ns : List ℕ) (xs : List X) (k : ℕ) (d : X)
    (found now new : Bool) → k < length xs
    → found ≡ list_any test (c_lets_from n 0 ns (map f (take k xs))) →
    now ≡ test (c_let_of n k (at 0 ns k) (f (get_or xs k d))) → new ≡ (found || now)
    → new ≡ list_any test (c_lets_from n 0 ns (map f (take (k + 1) xs)))
any_more test f n ns xs k d found now new lt p q r =
    let ls = c_lets_from n 0 ns (map f (take k xs)) in let l = c_let_of n k (at 0 ns k) (f (get_or xs k d)) in
    r ∙ ap (λ (b : Bool). b || now) p ∙ ap (λ (b : Bool). list_any test ls || b) (q ∙ sym (or_false (test l)))
    ∙ sym (list_any-append test ls (l ∷ [])) ∙ ap (list_any test) (sym (lets_more (c_value_for n) f ns xs k d lt))
  where
    or_false : (b : Bool) → (b || false) ≡ b
    or_false true = refl
    or_false false = refl

-- names in order, with their places
placed_are : (j c m : ℕ) → placed j (range_with_len (c + j) m) ≡ map (λ k. store_of k (c + k)) (range_with_len j m)
placed_are j c zero = refl
placed_are j c (suc m) =
    let a : (c + j) + 1 ≡ c + (j + 1) = omega arith in
    ap (λ ts. store_of j (c + j) ∷ ts) (ap (λ (i : ℕ). placed (j + 1) (range_with_len i m)) a ∙ placed_are (j + 1) c m)

pub placed_stores : (c m : ℕ) → stores_of c m ≡ placed 0 (range_with_len c m)
placed_stores c m =
    let a : c + 0 ≡ c = omega arith in
    sym (placed_are 0 c m) ∙ ap (λ (i : ℕ). placed 0 (range_with_len i m)) a

-- ---- start words
starts_push : (k : ℕ) (ws us : List ℤ) → starts_text k (ws ++ us) ≡ starts_text k ws ++ starts_text (k + length ws) us
starts_push k [] us = let a : k ≡ k + 0 = omega arith in ap (λ (j : ℕ). starts_text j us) a
starts_push k (w ∷ ws) us = let a : (k + 1) + length ws ≡ k + suc (length ws) = omega arith in
    ap (λ t. start_text k w ++ t) (starts_push (k + 1) ws us
    ∙ ap (λ (j : ℕ). starts_text (k + 1) ws ++ starts_text j us) a)
    ∙ sym (append_assoc (start_text k w) (starts_text (k + 1) ws) (starts_text (k + suc (length ws)) us))

-- one code more
pub start_more : {X : Type 0} (f : X → Code) (xs : List X) (k : ℕ) (d : X) → k < length xs →
    start_words (map f (take (k + 1) xs)) ≡ start_words (map f (take k xs)) ++ starts_of (f (get_or xs k d))
start_more f [] k d lt = absurd (omega arith)
start_more f (x ∷ xs) zero d lt = append-nil (starts_of (f x))
start_more f (x ∷ xs) (suc k) d lt =
    let e : suc k + 1 ≡ suc (k + 1) = omega arith in
    rw e (ap (λ ws. starts_of (f x) ++ ws) (start_more f xs k d (omega arith))
    ∙ sym (append_assoc (starts_of (f x)) (start_words (map f (take k xs))) (starts_of (f (get_or xs k d)))))

pub starts_more : (ws : List ℤ) (k : ℕ) (old out new : List ℕ) → k < length ws →
    out ≡ old ++ starts_text 0 (take k ws) → new ≡ out ++ start_text k (get_or ws k (pos 0))
    → new ≡ old ++ starts_text 0 (take (k + 1) ws)
starts_more ws k old out new lt p q =
    let w = get_or ws k (pos 0) in
    let many : 0 + length (take k ws) ≡ k = omega (arith, length-take k ws) in
    let one : start_text k w ++ [] ≡ start_text k w = append-nil (start_text k w) in
    q ∙ ap (λ o. o ++ start_text k w) p ∙ append_assoc old (starts_text 0 (take k ws)) (start_text k w)
    ∙ ap (λ t. old ++ (starts_text 0 (take k ws) ++ t)) (sym one)
    ∙ ap (λ (j : ℕ). old ++ (starts_text 0 (take k ws) ++ starts_text j (w ∷ []))) (sym many)
    ∙ ap (λ t. old ++ t) (sym (starts_push 0 (take k ws) (w ∷ [])))
    ∙ ap (λ us. old ++ starts_text 0 us) (sym (take_more ws k (pos 0) lt))

pub output_more : (array : List ℕ) (n c m : ℕ) (old out new : List ℕ) →
    out ≡ old ++ flat_map (assignment_text array n) (placed 0 (range_with_len c m)) →
    new ≡ out ++ assignment_text array n (store_of m (c + m))
    → new ≡ old ++ flat_map (assignment_text array n) (placed 0 (range_with_len c (m + 1)))
output_more array n c m old out new p q =
    store_more (assignment_text array n) c m old out new
    (p ∙ ap (λ ts. old ++ flat_map (assignment_text array n) ts) (sym (placed_stores c m))) q
    ∙ ap (λ ts. old ++ flat_map (assignment_text array n) ts) (placed_stores c (m + 1))

-- ---- an assignment
pub assigned : (array : List ℕ) (n place name : ℕ) (old a b c new : List ℕ) →
    a ≡ old ++ codes "    " ++ array ++ codes "[" ++ decimal place ++ codes "] = " →
    b ≡ a ++ c_cast_text (least_size n) → c ≡ b ++ codes "w" ++ decimal name → new ≡ c ++ codes ";\n"
    → new ≡ old ++ assignment_text array n (store_of place name)
assigned array n place name old a b c new p q r s =
    let joined : old ++ codes "    " ++ array ++ codes "[" ++ decimal place ++ codes "] = " ++ c_cast_text (least_size n)
    ++ codes "w" ++ decimal name ++ codes ";\n" ≡ old ++ assignment_text array n (store_of place name) =
    simp append_assoc in
    s ∙ ap (λ t. t ++ codes ";\n") (r ∙ ap (λ t. t ++ codes "w" ++ decimal name)
    (q ∙ ap (λ t. t ++ c_cast_text (least_size n)) p)) ∙ joined

-- ---- a sum, in its type, and cast
pub cast_sum : (n bits : ℕ) (size : Size) (operator : Operator) (e f : Wide) (old a new : List ℕ) →
    bits ≡ working_bits n (Two operator e f) → a ≡ old ++ c_cast_text size →
    new ≡ a ++ codes "(" ++ c_wide_text bits e ++ operator_text operator ++ c_wide_text bits f ++ codes ")"
    → new ≡ old ++ c_value_text n size (Narrowed (Two operator e f))
cast_sum n bits size operator e f old a new b p q =
    let joined : a ++ codes "(" ++ c_wide_text bits e ++ operator_text operator ++ c_wide_text bits f ++ codes ")"
    ≡ a ++ c_wide_text bits (Two operator e f) = simp append_assoc in
    q ∙ joined ∙ (λ i. p i ++ c_wide_text (b i) (Two operator e f))
    ∙ append_assoc old (c_cast_text size) (working_wide_text n (Two operator e f))

-- ---- what stands above the functions
pub helped : (n : ℕ) (ls : List Let) (w x y z : Bool) (old a b c new : List ℕ) → w ≡ list_any (computes_in n 128) ls →
    x ≡ list_any (rounds_in n 32) ls → y ≡ list_any (rounds_in n 64) ls → z ≡ list_any (rounds_in n 128) ls →
    a ≡ old ++ cond w wide_type_text [] → b ≡ a ++ cond x (floor_text 32) [] → c ≡ b ++ cond y (floor_text 64) [] →
    new ≡ c ++ cond z (floor_text 128) []
    → new ≡ old ++ helpers_text n ls
helped n ls w x y z old a b c new pw px py pz p q r s =
    s ∙ ap (λ t. t ++ cond z (floor_text 128) []) (r ∙ ap (λ t. t ++ cond y (floor_text 64) []) (q
    ∙ ap (λ t. t ++ cond x (floor_text 32) []) p))
    ∙ joined (cond w wide_type_text []) (cond x (floor_text 32) []) (cond y (floor_text 64) []) (cond z (floor_text 128) [])
    ∙ (λ i. old ++ (cond (pw i) wide_type_text [] ++ (cond (px i) (floor_text 32) [] ++ (cond (py i) (floor_text 64) []
    ++ cond (pz i) (floor_text 128) []))))
  where
    joined : (d e f g : List ℕ) → (((old ++ d) ++ e) ++ f) ++ g ≡ old ++ (d ++ (e ++ (f ++ g)))
    joined d e f g = simp append_assoc

-- ---- any four pieces
pub four_pieces : (d e f g old a b c new : List ℕ) → a ≡ old ++ d → b ≡ a ++ e → c ≡ b ++ f → new ≡ c ++ g
    → new ≡ old ++ (d ++ (e ++ (f ++ g)))
four_pieces d e f g old a b c new p q r s =
    let joined : ((old ++ d) ++ e) ++ f ++ g ≡ old ++ (d ++ (e ++ (f ++ g))) = simp append_assoc in
    s ∙ ap (λ t. t ++ g) (r ∙ ap (λ t. t ++ f) (q ∙ ap (λ t. t ++ e) p)) ∙ joined

-- ---- any five pieces
pub five_pieces : (d e f g h old a b c k new : List ℕ) → a ≡ old ++ d → b ≡ a ++ e → c ≡ b ++ f → k ≡ c ++ g →
    new ≡ k ++ h
    → new ≡ old ++ (d ++ (e ++ (f ++ (g ++ h))))
five_pieces d e f g h old a b c k new p q r s t =
    four_pieces e f g h a b c k new q r s t ∙ ap (λ o. o ++ (e ++ (f ++ (g ++ h)))) p
    ∙ append_assoc old d (e ++ (f ++ (g ++ h)))

-- ---- a value's text, of the numbers that its shifts are
pub shifts_again : (P : List ℕ → Type 0) (code : ℕ → ℕ → ℤ → ℤ → Code) (n own a b : ℕ) (x y : ℤ) (old : List ℕ) →
    to_z w32 (of_z w32 x) ≡ x → to_z w32 (of_z w32 y) ≡ y →
    P (old ++ c_value_text n (least_size own)
    (c_value_for n (code a b (to_z w32 (of_z w32 x)) (to_z w32 (of_z w32 y)))))
    → P (old ++ c_value_text n (least_size own) (c_value_for n (code a b x y)))
shifts_again P code n own a b x y old p q =
    subst P (λ i. old ++ c_value_text n (least_size own) (c_value_for n (code a b (p i) (q i))))
