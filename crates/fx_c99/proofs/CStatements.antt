-- A statement of C, and a start word, is told by its text.
use Rattle.std.proofs.Common.{◌≡◌, ◌⊎◌, inl, inr, ℕ, suc, nat_eq, nat_le, ◌+◌, ◌<◌, ◌^◌, ℤ, pos, negsuc, Bool, true, false, cond, List, [], ◌∷◌, ◌++◌, get_or, drop, refl, sym, ap, ◌∙◌, arith, append_assoc, codes, unsigned_abs}
use Rattle.std.specs.Fmt.{decimal}
use Rattle.std.specs.List.{flat_map}
use Rattle.std.specs.Char.{is_ascii_digit}
use Rattle.std.proofs.lemmas.List.{append_cancel_left}
use Rattle.fx_statements.specs.Statements.{Size, Wide, Value, Input, State, Number, Narrowed, Let, Store}
use Rattle.fx_statements.specs.RustText.{name_text}
use Rattle.fx_statements.specs.OfProgram.{least_size}
use Rattle.fx_statements.specs.Writable.{IsShort, IsShortValue, AreShortLets, AreShortStores, AreShortNames}
use Rattle.fx_statements.proofs.Fronts.{differ, number_ends, first_digit, one_list}
use Rattle.fx_c99.specs.Working.{is_plain, working_bits}
use Rattle.fx_c99.specs.CText.{type_text, c_wide_text, c_cast_text, literal_text, c_value_text, c_let_text, assignment_text, placed, start_text, starts_text}
use Rattle.fx_c99.specs.CWritable.{IsCWide, IsCValue, AreCLets, AreShortWords}
use Rattle.fx_c99.proofs.Words.{one_type}
use Rattle.fx_c99.proofs.CExpressions.{expression_begins, one_c_wide}

true_false : true ≡ false → ⊥
true_false e = cc

-- ---- literals, with a semicolon behind them
negative_first : (n : ℕ) (r : List ℕ) → is_ascii_digit (get_or (literal_text (negsuc n) ++ r) 0 0) ≡ false
negative_first n r = by (nat_eq (suc n) (2 ^ 63))
  where
    by : (x : Bool) → is_ascii_digit (get_or (cond x (codes "INT64_MIN") (codes "-" ++ decimal (suc n)) ++ r) 0 0)
        ≡ false
    by true = refl
    by false = refl

no_sign : (m n : ℕ) (r s : List ℕ) → m < 2 ^ 64 → decimal m ++ r ≡ literal_text (negsuc n) ++ s → ⊥
no_sign m n r s lt h =
    true_false (sym (first_digit m r lt) ∙ ap (λ l. is_ascii_digit (get_or l 0 0)) h ∙ negative_first n s)

equal_of : (m n : ℕ) → nat_eq m n ≡ true → m ≡ n
equal_of m n e = grind arith

least_is : (n : ℕ) → nat_eq (suc n) (2 ^ 63) ≡ true → literal_text (negsuc n) ≡ codes "INT64_MIN"
least_is n e = ap (λ (x : Bool). cond x (codes "INT64_MIN") (codes "-" ++ decimal (suc n))) e

signed_is : (n : ℕ) → nat_eq (suc n) (2 ^ 63) ≡ false → literal_text (negsuc n) ≡ codes "-" ++ decimal (suc n)
signed_is n e = ap (λ (x : Bool). cond x (codes "INT64_MIN") (codes "-" ++ decimal (suc n))) e

one_negative : (m n : ℕ) (r s : List ℕ) → suc m < 2 ^ 64 → suc n < 2 ^ 64 →
    literal_text (negsuc m) ++ (59 ∷ r) ≡ literal_text (negsuc n) ++ (59 ∷ s) → (negsuc m ≡ negsuc n) × (r ≡ s)
one_negative m n r s p q h = by (nat_eq (suc m) (2 ^ 63)) (nat_eq (suc n) (2 ^ 63)) refl refl
  where
    by : (x y : Bool) → nat_eq (suc m) (2 ^ 63) ≡ x → nat_eq (suc n) (2 ^ 63) ≡ y → (negsuc m ≡ negsuc n) × (r ≡ s)
    by true true a b =
        let same : suc m ≡ suc n = equal_of (suc m) (2 ^ 63) a ∙ sym (equal_of (suc n) (2 ^ 63) b) in (
          ap negsuc (omega (arith, same)),
          ap (drop 10) (ap (λ t. t ++ (59 ∷ r)) (sym (least_is m a)) ∙ h ∙ ap (λ t. t ++ (59 ∷ s)) (least_is n b)),
        )
    by false false a b =
        let k = number_ends (suc m) (suc n) 59 59 r s p q refl refl
        (ap (drop 1) (ap (λ t. t ++ (59 ∷ r)) (sym (signed_is m a)) ∙ h ∙ ap (λ t. t ++ (59 ∷ s)) (signed_is n b))) in
        (ap negsuc (let e = k.0 in omega arith), ap (drop 1) k.1)
    by true false a b =
        absurd (differ 73 45 refl (ap (λ l. get_or l 0 0)
        (ap (λ t. t ++ (59 ∷ r)) (sym (least_is m a)) ∙ h ∙ ap (λ t. t ++ (59 ∷ s)) (signed_is n b))))
    by false true a b =
        absurd (differ 45 73 refl (ap (λ l. get_or l 0 0)
        (ap (λ t. t ++ (59 ∷ r)) (sym (signed_is m a)) ∙ h ∙ ap (λ t. t ++ (59 ∷ s)) (least_is n b))))

one_literal : (v w : ℤ) (r s : List ℕ) → unsigned_abs v < 2 ^ 64 → unsigned_abs w < 2 ^ 64 →
    literal_text v ++ (59 ∷ r) ≡ literal_text w ++ (59 ∷ s) → (v ≡ w) × (r ≡ s)
one_literal (pos m) (pos n) r s p q h =
    let k = number_ends m n 59 59 r s p q refl refl h in (ap pos k.0, ap (drop 1) k.1)
one_literal (pos m) (negsuc n) r s p q h = absurd (no_sign m n (59 ∷ r) (59 ∷ s) p h)
one_literal (negsuc m) (pos n) r s p q h = absurd (no_sign n m (59 ∷ s) (59 ∷ r) q (sym h))
one_literal (negsuc m) (negsuc n) r s p q h = one_negative m n r s p q h

-- no literal expression_begins with a parenthesis
no_cast : (w : ℤ) (r : List ℕ) → unsigned_abs w < 2 ^ 64 → get_or (literal_text w ++ r) 0 0 ≡ 40 → ⊥
no_cast (pos m) r lt h =
    let d : is_ascii_digit 40 ≡ true = ap is_ascii_digit (sym h) ∙ first_digit m r lt in true_false (sym d)
no_cast (negsuc n) r lt h = by (nat_eq (suc n) (2 ^ 63)) h
  where
    by : (x : Bool) → get_or (cond x (codes "INT64_MIN") (codes "-" ++ decimal (suc n)) ++ r) 0 0 ≡ 40 → ⊥
    by true h = differ 73 40 refl h
    by false h = differ 45 40 refl h

-- ---- values of one type, with a semicolon behind them
uncast : (size : Size) (t u r s : List ℕ) → (c_cast_text size ++ t) ++ r ≡ (c_cast_text size ++ u) ++ s →
    t ++ r ≡ u ++ s
uncast size t u r s h =
    append_cancel_left (c_cast_text size) (t ++ r) (u ++ s)
    (sym (append_assoc (c_cast_text size) t r) ∙ h ∙ append_assoc (c_cast_text size) u s)

short_bits : (n : ℕ) (e : Wide) → IsShort (working_bits n e)
short_bits n e = by (is_plain e) (nat_le n 32) (nat_le n 16)
  where
    by : (x y z : Bool) → cond x (cond y 32 64) (cond z 32 (cond y 64 128)) < 2 ^ 64
    by true true z = omega arith
    by true false z = omega arith
    by false y true = omega arith
    by false true false = omega arith
    by false false false = omega arith

-- behind a cast, an element of an array
one_element : (k j : ℕ) (r s : List ℕ) → IsShort k → IsShort j →
    (decimal k ++ codes "]") ++ (59 ∷ r) ≡ (decimal j ++ codes "]") ++ (59 ∷ s) → (k ≡ j) × (r ≡ s)
one_element k j r s p q h =
    let n = number_ends k j 93 93 (59 ∷ r) (59 ∷ s) p q refl refl
    (sym (append_assoc (decimal k) (codes "]") (59 ∷ r)) ∙ h ∙ append_assoc (decimal j) (codes "]") (59 ∷ s)) in
    (n.0, ap (drop 2) n.1)

-- an expression is no element
no_element : (b c : ℕ) (e : Wide) (r : List ℕ) → IsCWide e → nat_eq 40 c ≡ false → nat_eq 102 c ≡ false →
    get_or (c_wide_text b e ++ r) 0 0 ≡ c → ⊥
no_element b c e r p x y h = by (expression_begins b e r p)
  where
    by : (get_or (c_wide_text b e ++ r) 0 0 ≡ 40)
        ⊎ ((get_or (c_wide_text b e ++ r) 0 0 ≡ 102) × (get_or (c_wide_text b e ++ r) 5 0 ≡ 102)) → ⊥
    by (inl k) = differ 40 c x (sym k ∙ h)
    by (inr k) = differ 102 c y (sym k.0 ∙ h)

one_value : (n : ℕ) (size : Size) (u v : Value) (r s : List ℕ) → IsShortValue u → IsShortValue v → IsCValue u →
    IsCValue v → c_value_text n size u ++ (59 ∷ r) ≡ c_value_text n size v ++ (59 ∷ s) → (u ≡ v) × (r ≡ s)
one_value n size (Input k) (Input j) r s p q i o h =
    let t = codes "input[" ++ (decimal k ++ codes "]") in let u = codes "input[" ++ (decimal j ++ codes "]") in
    let m = one_element k j r s p q (ap (drop 6) (uncast size t u (59 ∷ r) (59 ∷ s) h)) in (ap Input m.0, m.1)
one_value n size (State k) (State j) r s p q i o h =
    let t = codes "state[" ++ (decimal k ++ codes "]") in let u = codes "state[" ++ (decimal j ++ codes "]") in
    let m = one_element k j r s p q (ap (drop 6) (uncast size t u (59 ∷ r) (59 ∷ s) h)) in (ap State m.0, m.1)
one_value n size (Number v) (Number w) r s p q i o h = let m = one_literal v w r s p q h in (ap Number m.0, m.1)
one_value n size (Narrowed e) (Narrowed f) r s p q i o h =
    let m = one_c_wide (working_bits n e) (working_bits n f) e f 59 59 r s (short_bits n e) (short_bits n f) p q i o
    refl refl (uncast size (c_wide_text (working_bits n e) e) (c_wide_text (working_bits n f) f) (59 ∷ r) (59 ∷ s) h) in
    (ap Narrowed m.0, ap (drop 1) m.1)
one_value n size (Input k) (State j) r s p q i o h =
    absurd (differ 105 115 refl (ap (λ l. get_or l 0 0) (uncast size (codes "input[" ++ (decimal k ++ codes "]"))
    (codes "state[" ++ (decimal j ++ codes "]")) (59 ∷ r) (59 ∷ s) h)))
one_value n size (State k) (Input j) r s p q i o h =
    absurd (differ 115 105 refl (ap (λ l. get_or l 0 0) (uncast size (codes "state[" ++ (decimal k ++ codes "]"))
    (codes "input[" ++ (decimal j ++ codes "]")) (59 ∷ r) (59 ∷ s) h)))
one_value n size (Input k) (Narrowed f) r s p q i o h =
    absurd (no_element (working_bits n f) 105 f (59 ∷ s) o refl refl (ap (λ l. get_or l 0 0)
    (sym (uncast size (codes "input[" ++ (decimal k ++ codes "]")) (c_wide_text (working_bits n f) f)
    (59 ∷ r) (59 ∷ s) h))))
one_value n size (State k) (Narrowed f) r s p q i o h =
    absurd (no_element (working_bits n f) 115 f (59 ∷ s) o refl refl (ap (λ l. get_or l 0 0)
    (sym (uncast size (codes "state[" ++ (decimal k ++ codes "]")) (c_wide_text (working_bits n f) f)
    (59 ∷ r) (59 ∷ s) h))))
one_value n size (Narrowed e) (Input j) r s p q i o h =
    absurd (no_element (working_bits n e) 105 e (59 ∷ r) i refl refl (ap (λ l. get_or l 0 0)
    (uncast size (c_wide_text (working_bits n e) e) (codes "input[" ++ (decimal j ++ codes "]"))
    (59 ∷ r) (59 ∷ s) h)))
one_value n size (Narrowed e) (State j) r s p q i o h =
    absurd (no_element (working_bits n e) 115 e (59 ∷ r) i refl refl (ap (λ l. get_or l 0 0)
    (uncast size (c_wide_text (working_bits n e) e) (codes "state[" ++ (decimal j ++ codes "]"))
    (59 ∷ r) (59 ∷ s) h)))
one_value n size (Number v) (Input j) r s p q i o h = absurd (no_cast v (59 ∷ r) p (ap (λ l. get_or l 0 0) h))
one_value n size (Number v) (State j) r s p q i o h = absurd (no_cast v (59 ∷ r) p (ap (λ l. get_or l 0 0) h))
one_value n size (Number v) (Narrowed f) r s p q i o h = absurd (no_cast v (59 ∷ r) p (ap (λ l. get_or l 0 0) h))
one_value n size (Input k) (Number w) r s p q i o h = absurd (no_cast w (59 ∷ s) q (ap (λ l. get_or l 0 0) (sym h)))
one_value n size (State k) (Number w) r s p q i o h = absurd (no_cast w (59 ∷ s) q (ap (λ l. get_or l 0 0) (sym h)))
one_value n size (Narrowed e) (Number w) r s p q i o h =
    absurd (no_cast w (59 ∷ s) q (ap (λ l. get_or l 0 0) (sym h)))

-- ---- a name
let_is : (n : ℕ) (l : Let) (r : List ℕ) → c_let_text n l ++ r
    ≡ codes "    const " ++ (type_text l.size ++ (codes " " ++ (name_text l.name ++ (codes " = "
    ++ (c_value_text n l.size l.value ++ (59 ∷ 10 ∷ r))))))
let_is n l r =
    let t = type_text l.size in let w = name_text l.name in let v = c_value_text n l.size l.value in
    ap (λ x. codes "    const " ++ x) (append_assoc t (codes " " ++ (w ++ (codes " = " ++ (v ++ codes ";\n")))) r
    ∙ ap (λ x. t ++ (codes " " ++ x)) (append_assoc w (codes " = " ++ (v ++ codes ";\n")) r
    ∙ ap (λ x. w ++ (codes " = " ++ x)) (append_assoc v (codes ";\n") r)))

one_let : (n : ℕ) (l m : Let) (r s : List ℕ) → IsShort l.name → IsShort m.name → IsShortValue l.value →
    IsShortValue m.value → IsCValue l.value → IsCValue m.value → c_let_text n l ++ r ≡ c_let_text n m ++ s
    → (l ≡ m) × (r ≡ s)
one_let n l m r s ln mn lv mv lc mc h =
    let lr = c_value_text n l.size l.value ++ (59 ∷ 10 ∷ r) in
    let ms = c_value_text n m.size m.value ++ (59 ∷ 10 ∷ s) in
    let t = one_type l.size m.size (codes " " ++ (name_text l.name ++ (codes " = " ++ lr)))
    (codes " " ++ (name_text m.name ++ (codes " = " ++ ms))) (ap (drop 10) (sym (let_is n l r) ∙ h ∙ let_is n m s)) in
    let k = number_ends l.name m.name 32 32 (codes "= " ++ lr) (codes "= " ++ ms) ln mn refl refl (ap (drop 2) t.1) in
    let v = one_value n m.size l.value m.value (10 ∷ r) (10 ∷ s) lv mv lc mc
    (ap (λ z. c_value_text n z l.value ++ (59 ∷ 10 ∷ r)) (sym t.0) ∙ ap (drop 3) k.1) in
    ((λ i. record { name = k.0 i; size = t.0 i; value = v.0 i }), ap (drop 1) v.1)

-- names, each told by the byte behind four spaces
pub one_lets : (n : ℕ) (ls ms : List Let) (r s : List ℕ) → AreShortLets ls → AreShortLets ms → AreCLets ls →
    AreCLets ms → (get_or r 4 0 ≡ 99 → ⊥) → (get_or s 4 0 ≡ 99 → ⊥)
    → flat_map (c_let_text n) ls ++ r ≡ flat_map (c_let_text n) ms ++ s → (ls ≡ ms) × (r ≡ s)
one_lets n ls ms r s p q i j off off' h =
    one_list (c_let_text n) (λ ls. AreShortLets ls × AreCLets ls) 4 99 (λ l r. refl) (λ l ls p. (p.0.1, p.1.1))
    (λ l m ls ms r s p q. one_let n l m r s p.0.0.0 q.0.0.0 p.0.0.1 q.0.0.1 p.1.0 q.1.0) ls ms r s (p, i) (q, j) off off' h

-- ---- assignments
assignment_is : (array : List ℕ) (n : ℕ) (t : Store) (r : List ℕ) → assignment_text array n t ++ r
    ≡ codes "    " ++ (array ++ (codes "[" ++ (decimal t.place ++ (codes "] = " ++ (c_cast_text (least_size n)
    ++ (name_text t.name ++ (59 ∷ 10 ∷ r)))))))
assignment_is array n t r =
    let c = c_cast_text (least_size n) in let w = name_text t.name in let p = decimal t.place in
    ap (λ x. codes "    " ++ x) (append_assoc array (codes "[" ++ (p ++ (codes "] = " ++ (c ++ (w ++ codes ";\n"))))) r
    ∙ ap (λ x. array ++ (codes "[" ++ x)) (append_assoc p (codes "] = " ++ (c ++ (w ++ codes ";\n"))) r
    ∙ ap (λ x. p ++ (codes "] = " ++ x)) (append_assoc c (w ++ codes ";\n") r
    ∙ ap (λ x. c ++ x) (append_assoc w (codes ";\n") r))))

-- behind the place
one_right_side : (n k j : ℕ) (r s : List ℕ) → IsShort k → IsShort j →
    codes "] = " ++ (c_cast_text (least_size n) ++ (name_text k ++ (59 ∷ 10 ∷ r)))
    ≡ codes "] = " ++ (c_cast_text (least_size n) ++ (name_text j ++ (59 ∷ 10 ∷ s))) → (k ≡ j) × (r ≡ s)
one_right_side n k j r s p q h =
    let name = append_cancel_left (c_cast_text (least_size n)) (name_text k ++ (59 ∷ 10 ∷ r))
    (name_text j ++ (59 ∷ 10 ∷ s)) (ap (drop 4) h) in
    let m = number_ends k j 59 59 (10 ∷ r) (10 ∷ s) p q refl refl (ap (drop 1) name) in (m.0, ap (drop 2) m.1)

-- behind the array
after_array : (array : List ℕ) (n : ℕ) (t u : Store) (r s : List ℕ) →
    assignment_text array n t ++ r ≡ assignment_text array n u ++ s →
    decimal t.place ++ (codes "] = " ++ (c_cast_text (least_size n) ++ (name_text t.name ++ (59 ∷ 10 ∷ r))))
    ≡ decimal u.place ++ (codes "] = " ++ (c_cast_text (least_size n) ++ (name_text u.name ++ (59 ∷ 10 ∷ s))))
after_array array n t u r s h =
    ap (drop 1) (append_cancel_left array
    (codes "[" ++ (decimal t.place ++ (codes "] = " ++ (c_cast_text (least_size n) ++ (name_text t.name
    ++ (59 ∷ 10 ∷ r))))))
    (codes "[" ++ (decimal u.place ++ (codes "] = " ++ (c_cast_text (least_size n) ++ (name_text u.name
    ++ (59 ∷ 10 ∷ s))))))
    (ap (drop 4) (sym (assignment_is array n t r) ∙ h ∙ assignment_is array n u s)))

one_store : (array : List ℕ) (n : ℕ) (t u : Store) (r s : List ℕ) → IsShort t.place → IsShort u.place →
    IsShort t.name → IsShort u.name → assignment_text array n t ++ r ≡ assignment_text array n u ++ s
    → (t ≡ u) × (r ≡ s)
one_store array n t u r s tp up tn un h =
    let c = c_cast_text (least_size n) in
    let k = number_ends t.place u.place 93 93 (codes " = " ++ (c ++ (name_text t.name ++ (59 ∷ 10 ∷ r))))
    (codes " = " ++ (c ++ (name_text u.name ++ (59 ∷ 10 ∷ s)))) tp up refl refl (after_array array n t u r s h) in
    let w = one_right_side n t.name u.name r s tn un k.1 in
    ((λ i. record { place = k.0 i; name = w.0 i }), w.1)

pub one_stores : (n : ℕ) (ts us : List Store) (r s : List ℕ) → AreShortStores ts → AreShortStores us →
    (get_or r 4 0 ≡ 115 → ⊥) → (get_or s 4 0 ≡ 115 → ⊥)
    → flat_map (assignment_text (codes "state") n) ts ++ r ≡ flat_map (assignment_text (codes "state") n) us ++ s
    → (ts ≡ us) × (r ≡ s)
one_stores n =
    one_list (assignment_text (codes "state") n) AreShortStores 4 115 (λ t r. refl) (λ t ts p. p.1)
    (λ t u ts us r s p q. one_store (codes "state") n t u r s p.0.0 q.0.0 p.0.1 q.0.1)

-- outputs, whose places are known
pub one_outputs : (n j : ℕ) (ms ks : List ℕ) (r s : List ℕ) → AreShortNames ms → AreShortNames ks →
    (get_or r 4 0 ≡ 111 → ⊥) → (get_or s 4 0 ≡ 111 → ⊥)
    → flat_map (assignment_text (codes "output") n) (placed j ms) ++ r
    ≡ flat_map (assignment_text (codes "output") n) (placed j ks) ++ s → (ms ≡ ks) × (r ≡ s)
one_outputs n j [] [] r s p q off off' h = (refl, h)
one_outputs n j [] (k ∷ ks) r s p q off off' h = absurd (off (ap (λ l. get_or l 4 0) h))
one_outputs n j (m ∷ ms) [] r s p q off off' h = absurd (off' (ap (λ l. get_or l 4 0) (sym h)))
one_outputs n j (m ∷ ms) (k ∷ ks) r s p q off off' h =
    let f = assignment_text (codes "output") n in let c = c_cast_text (least_size n) in
    let t : Store = record { place = j; name = m } in let u : Store = record { place = j; name = k } in
    let tr = flat_map f (placed (j + 1) ms) ++ r in let us = flat_map f (placed (j + 1) ks) ++ s in
    let e = sym (append_assoc (f t) (flat_map f (placed (j + 1) ms)) r) ∙ h
    ∙ append_assoc (f u) (flat_map f (placed (j + 1) ks)) s in
    let right = append_cancel_left (decimal j) (codes "] = " ++ (c ++ (name_text m ++ (59 ∷ 10 ∷ tr))))
    (codes "] = " ++ (c ++ (name_text k ++ (59 ∷ 10 ∷ us)))) (after_array (codes "output") n t u tr us e) in
    let one = one_right_side n m k tr us p.0 q.0 right in
    let rest = one_outputs n (j + 1) ms ks r s p.1 q.1 off off' one.1 in
    ((λ i. one.0 i ∷ rest.0 i), rest.1)

-- ---- start words, whose places are known
start_is : (k : ℕ) (w : ℤ) (r : List ℕ) → start_text k w ++ r
    ≡ codes "    state[" ++ (decimal k ++ (codes "] = " ++ (literal_text w ++ (59 ∷ 10 ∷ r))))
start_is k w r =
    ap (λ x. codes "    state[" ++ x) (append_assoc (decimal k) (codes "] = " ++ (literal_text w ++ codes ";\n")) r
    ∙ ap (λ x. decimal k ++ (codes "] = " ++ x)) (append_assoc (literal_text w) (codes ";\n") r))

pub one_starts : (k : ℕ) (vs ws : List ℤ) (r s : List ℕ) → AreShortWords vs → AreShortWords ws →
    (get_or r 0 0 ≡ 32 → ⊥) → (get_or s 0 0 ≡ 32 → ⊥) → starts_text k vs ++ r ≡ starts_text k ws ++ s
    → (vs ≡ ws) × (r ≡ s)
one_starts k [] [] r s p q off off' h = (refl, h)
one_starts k [] (w ∷ ws) r s p q off off' h = absurd (off (ap (λ l. get_or l 0 0) h))
one_starts k (v ∷ vs) [] r s p q off off' h = absurd (off' (ap (λ l. get_or l 0 0) (sym h)))
one_starts k (v ∷ vs) (w ∷ ws) r s p q off off' h =
    let vr = starts_text (k + 1) vs ++ r in let us = starts_text (k + 1) ws ++ s in
    let e = sym (append_assoc (start_text k v) (starts_text (k + 1) vs) r) ∙ h
    ∙ append_assoc (start_text k w) (starts_text (k + 1) ws) s in
    let right = append_cancel_left (decimal k) (codes "] = " ++ (literal_text v ++ (59 ∷ 10 ∷ vr)))
    (codes "] = " ++ (literal_text w ++ (59 ∷ 10 ∷ us)))
    (ap (drop 10) (sym (start_is k v vr) ∙ e ∙ start_is k w us)) in
    let one = one_literal v w (10 ∷ vr) (10 ∷ us) p.0 q.0 (ap (drop 4) right) in
    let rest = one_starts (k + 1) vs ws r s p.1 q.1 off off' (ap (drop 1) one.1) in
    ((λ i. one.0 i ∷ rest.0 i), rest.1)
