-- A whole text of C has one list of statements and one of start words.
use Rattle.std.proofs.Common.{◌≡◌, ◌⊎◌, inl, inr, ℕ, nat_eq, nat_lt, ℤ, Bool, true, false, cond, List, [], ◌∷◌, ◌++◌, length, get_or, drop, refl, sym, ap, ◌∙◌, arith, append_assoc, codes}
use Rattle.std.specs.Prelude.{◌&&◌, not}
use Rattle.std.specs.Fmt.{decimal, digits}
use Rattle.std.specs.List.{flat_map, list_any}
use Rattle.std.proofs.lemmas.List.{append_cancel_left}
use Rattle.fx_model.specs.Names.{IsName, is_word_byte}
use Rattle.fx_statements.specs.Statements.{Let, Store, Routine}
use Rattle.fx_statements.specs.RustText.{name_text}
use Rattle.fx_statements.specs.OfProgram.{least_size}
use Rattle.fx_statements.specs.Writable.{IsShort}
use Rattle.fx_statements.proofs.Fronts.{differ, run_ends, number_ends}
use Rattle.fx_statements.proofs.OneText.{name_passes}
use Rattle.fx_c99.specs.CText.{type_text, c_let_text, assignment_text, placed, starts_text, let_takes, unreads_text, first_names, computes_in, rounds_in, wide_type_text, floor_text, helpers_text, state_text, state_parameter, arrays_text, step_head, reset_head, reset_text, step_text, top_text, c_text}
use Rattle.fx_c99.specs.CMeaning.{c_step}
use Rattle.fx_c99.specs.CWritable.{IsCWritable}
use Rattle.fx_c99.specs.Laws.{OneReadingLaw, DoesOnceLaw}
use Rattle.fx_c99.proofs.CStatements.{one_lets, one_stores, one_outputs, one_starts}

-- ---- the top
top_onto : (title : List ℕ) (n : ℕ) (r : List ℕ) → top_text title n ++ r
    ≡ codes "/* " ++ (title ++ (codes ", width " ++ (decimal n ++ (codes " */\n#include <stdint.h>\n\n" ++ r))))
top_onto title n r =
    ap (λ t. codes "/* " ++ t)
    (append_assoc title (codes ", width " ++ (decimal n ++ codes " */\n#include <stdint.h>\n\n")) r
    ∙ ap (λ t. title ++ (codes ", width " ++ t)) (append_assoc (decimal n) (codes " */\n#include <stdint.h>\n\n") r))

record Top (s t : List ℕ) (m n : ℕ) (r u : List ℕ) : Type 0 where
  title : s ≡ t
  width : m ≡ n
  rest : r ≡ u

one_top : (s t : List ℕ) (m n : ℕ) (r u : List ℕ) → IsName s → IsName t → IsShort m → IsShort n →
    top_text s m ++ r ≡ top_text t n ++ u → Top s t m n r u
one_top s t m n r u p q i j h =
    let below = codes "*/\n#include <stdint.h>\n\n" in
    let title = run_ends is_word_byte s t 44 44 (codes " width " ++ (decimal m ++ (32 ∷ (below ++ r))))
    (codes " width " ++ (decimal n ++ (32 ∷ (below ++ u)))) (name_passes s p) (name_passes t q) refl refl
    (ap (drop 3) (sym (top_onto s m r) ∙ h ∙ top_onto t n u)) in
    let width = number_ends m n 32 32 (below ++ r) (below ++ u) i j refl refl (ap (drop 8) title.1) in
    record { title = title.0; width = width.0; rest = ap (drop 25) width.1 }

-- ---- the helping functions, of which each is told by its bytes
skip : (many place byte : ℕ) → List ℕ → List ℕ
skip many place byte t = cond (nat_eq (get_or t 0 0) 47) (cond (nat_eq (get_or t place 0) byte) (drop many t) t) t

strip : List ℕ → List ℕ
strip t = skip 153 45 100 (skip 148 45 54 (skip 148 45 51 (skip 113 3 97 t)))

stripped : (w x y z : Bool) (r : List ℕ) → strip ((cond w wide_type_text [] ++ (cond x (floor_text 32) []
    ++ (cond y (floor_text 64) [] ++ cond z (floor_text 128) []))) ++ (118 ∷ r)) ≡ 118 ∷ r
unfolding strip skip digits
stripped true true true true r = refl
stripped true true true false r = refl
stripped true true false true r = refl
stripped true true false false r = refl
stripped true false true true r = refl
stripped true false true false r = refl
stripped true false false true r = refl
stripped true false false false r = refl
stripped false true true true r = refl
stripped false true true false r = refl
stripped false true false true r = refl
stripped false true false false r = refl
stripped false false true true r = refl
stripped false false true false r = refl
stripped false false false true r = refl
stripped false false false false r = refl

strip_is : (n : ℕ) (ls : List Let) (r : List ℕ) → strip (helpers_text n ls ++ (118 ∷ r)) ≡ 118 ∷ r
strip_is n ls r = stripped (list_any (computes_in n 128) ls) (list_any (rounds_in n 32) ls)
    (list_any (rounds_in n 64) ls) (list_any (rounds_in n 128) ls) r

one_helpers : (m n : ℕ) (ls ms : List Let) (r s : List ℕ) →
    helpers_text m ls ++ (118 ∷ r) ≡ helpers_text n ms ++ (118 ∷ s) → 118 ∷ r ≡ 118 ∷ s
one_helpers m n ls ms r s h = sym (strip_is m ls r) ∙ ap strip h ∙ strip_is n ms s

-- ---- the body, up to its brace
unread_byte : (ls : List Let) (first : ℕ) (some : List Let) →
    (get_or (unreads_text ls first some ++ codes "}\n") 4 0 ≡ 0)
    ⊎ (get_or (unreads_text ls first some ++ codes "}\n") 4 0 ≡ 40)
unread_byte ls first [] = inl refl
unread_byte ls first (l ∷ some) =
    by (nat_lt l.name first && not (list_any (let_takes l.name) ls)) (unread_byte ls first some)
  where
    by : (x : Bool) → (get_or (unreads_text ls first some ++ codes "}\n") 4 0 ≡ 0)
        ⊎ (get_or (unreads_text ls first some ++ codes "}\n") 4 0 ≡ 40)
        → (get_or ((cond x (codes "    (void)" ++ (name_text l.name ++ codes ";\n")) []
        ++ unreads_text ls first some) ++ codes "}\n") 4 0 ≡ 0)
        ⊎ (get_or ((cond x (codes "    (void)" ++ (name_text l.name ++ codes ";\n")) []
        ++ unreads_text ls first some) ++ codes "}\n") 4 0 ≡ 40)
    by true rest = inr refl
    by false rest = rest

after_outputs : Routine → List ℕ
after_outputs r = unreads_text r.lets (first_names r) r.lets ++ codes "}\n"

after_stores : ℕ → Routine → List ℕ
after_stores n r = flat_map (assignment_text (codes "output") n) (placed 0 r.results) ++ after_outputs r

after_lets : ℕ → Routine → List ℕ
after_lets n r = flat_map (assignment_text (codes "state") n) r.stores ++ after_stores n r

no_output : (r : Routine) (c : ℕ) → nat_eq 0 c ≡ false → nat_eq 40 c ≡ false → get_or (after_outputs r) 4 0 ≡ c → ⊥
unfolding after_outputs
no_output r c p q h = by (unread_byte r.lets (first_names r) r.lets)
  where
    by : (get_or (unreads_text r.lets (first_names r) r.lets ++ codes "}\n") 4 0 ≡ 0)
        ⊎ (get_or (unreads_text r.lets (first_names r) r.lets ++ codes "}\n") 4 0 ≡ 40) → ⊥
    by (inl k) = differ 0 c p (sym k ∙ h)
    by (inr k) = differ 40 c q (sym k ∙ h)

no_store : (n : ℕ) (r : Routine) (c : ℕ) → nat_eq 0 c ≡ false → nat_eq 40 c ≡ false → nat_eq 111 c ≡ false →
    get_or (after_stores n r) 4 0 ≡ c → ⊥
unfolding after_stores
no_store n r c p q o h = by 0 r.results h
  where
    by : (j : ℕ) (ks : List ℕ) →
        get_or (flat_map (assignment_text (codes "output") n) (placed j ks) ++ after_outputs r) 4 0 ≡ c → ⊥
    by j [] h = no_output r c p q h
    by j (k ∷ ks) h = differ 111 c o h

no_let : (n : ℕ) (r : Routine) → get_or (after_lets n r) 4 0 ≡ 99 → ⊥
unfolding after_lets
no_let n r h = by r.stores h
  where
    by : (ts : List Store) →
        get_or (flat_map (assignment_text (codes "state") n) ts ++ after_stores n r) 4 0 ≡ 99 → ⊥
    by [] h = no_store n r 99 refl refl refl h
    by (t ∷ ts) h = differ 115 99 refl h

-- what stands between the braces of a step of words of n bits, and the brace
inside : ℕ → Routine → List ℕ
inside n r =
    (flat_map (c_let_text n) r.lets ++ (flat_map (assignment_text (codes "state") n) r.stores
    ++ (flat_map (assignment_text (codes "output") n) (placed 0 r.results)
    ++ unreads_text r.lets (first_names r) r.lets))) ++ codes "}\n"

inside_is : (n : ℕ) (r : Routine) → inside n r ≡ flat_map (c_let_text n) r.lets ++ after_lets n r
unfolding inside after_lets after_stores after_outputs
inside_is n r =
    let l = flat_map (c_let_text n) r.lets in let s = flat_map (assignment_text (codes "state") n) r.stores in
    let o = flat_map (assignment_text (codes "output") n) (placed 0 r.results) in
    let u = unreads_text r.lets (first_names r) r.lets in
    append_assoc l (s ++ (o ++ u)) (codes "}\n")
    ∙ ap (λ t. l ++ t) (append_assoc s (o ++ u) (codes "}\n") ∙ ap (λ t. s ++ t) (append_assoc o u (codes "}\n")))

record Inside (q r : Routine) : Type 0 where
  lets : q.lets ≡ r.lets
  stores : q.stores ≡ r.stores
  results : q.results ≡ r.results

one_inside : (n : ℕ) (q r : Routine) (a b : List ℤ) → IsCWritable q a → IsCWritable r b → inside n q ≡ inside n r →
    Inside q r
unfolding after_lets after_stores
one_inside n q r a b p o h =
    let lets = one_lets n q.lets r.lets (after_lets n q) (after_lets n r) p.writable.lets o.writable.lets p.forms o.forms
    (no_let n q) (no_let n r) (sym (inside_is n q) ∙ h ∙ inside_is n r) in
    let stores = one_stores n q.stores r.stores (after_stores n q) (after_stores n r) p.writable.stores
    o.writable.stores (no_store n q 115 refl refl refl) (no_store n r 115 refl refl refl) lets.1 in
    let results = one_outputs n 0 q.results r.results (after_outputs q) (after_outputs r) p.writable.results
    o.writable.results (no_output q 111 refl refl) (no_output r 111 refl refl) stores.1 in
    record { lets = lets.0; stores = stores.0; results = results.0 }

-- ---- the step
arrays_onto : (n i o : ℕ) (r : List ℕ) → arrays_text n i o ++ r
    ≡ codes "const " ++ (type_text (least_size n) ++ (codes " input[" ++ (decimal i
    ++ (codes "], " ++ (type_text (least_size n) ++ (codes " output[" ++ (decimal o ++ (93 ∷ 41 ∷ r))))))))
arrays_onto n i o r =
    let t = type_text (least_size n) in let y = codes " output[" ++ (decimal o ++ codes "])") in
    ap (λ x. codes "const " ++ x)
    (append_assoc t (codes " input[" ++ (decimal i ++ (codes "], " ++ (t ++ y)))) r
    ∙ ap (λ x. t ++ (codes " input[" ++ x)) (append_assoc (decimal i) (codes "], " ++ (t ++ y)) r
    ∙ ap (λ x. decimal i ++ (codes "], " ++ x)) (append_assoc t y r
    ∙ ap (λ x. t ++ (codes " output[" ++ x)) (append_assoc (decimal o) (codes "])") r))))

step_onto : (title : List ℕ) (n k i o : ℕ) (r : List ℕ) → step_head title n k i o ++ r
    ≡ codes "void fixd_" ++ (title ++ (codes "_step(" ++ (state_parameter n k ++ (arrays_text n i o ++ r))))
step_onto title n k i o r =
    ap (λ x. codes "void fixd_" ++ x)
    (append_assoc title (codes "_step(" ++ (state_parameter n k ++ arrays_text n i o)) r
    ∙ ap (λ x. title ++ (codes "_step(" ++ x)) (append_assoc (state_parameter n k) (arrays_text n i o) r))

-- the whole step, of words of n bits
stepping : List ℕ → ℕ → ℕ → Routine → List ℕ
stepping title n k r =
    step_head title n k r.inputs r.outputs
    ++ (codes ";\n\n" ++ (step_head title n k r.inputs r.outputs ++ (codes " {\n" ++ inside n r)))

record Stepping (q r : Routine) : Type 0 where
  inputs : q.inputs ≡ r.inputs
  outputs : q.outputs ≡ r.outputs
  inside : Inside q r

one_counts : (n i j o u : ℕ) (r s : List ℕ) → IsShort i → IsShort j → IsShort o → IsShort u →
    arrays_text n i o ++ r ≡ arrays_text n j u ++ s → (i ≡ j) × ((o ≡ u) × (r ≡ s))
one_counts n i j o u r s si sj so su h =
    let t = type_text (least_size n) in
    let y = codes " output[" ++ (decimal o ++ (93 ∷ 41 ∷ r)) in
    let z = codes " output[" ++ (decimal u ++ (93 ∷ 41 ∷ s)) in
    let first = append_cancel_left t (codes " input[" ++ (decimal i ++ (codes "], " ++ (t ++ y))))
    (codes " input[" ++ (decimal j ++ (codes "], " ++ (t ++ z))))
    (ap (drop 6) (sym (arrays_onto n i o r) ∙ h ∙ arrays_onto n j u s)) in
    let a = number_ends i j 93 93 (codes ", " ++ (t ++ y)) (codes ", " ++ (t ++ z)) si sj refl refl (ap (drop 7) first) in
    let second = append_cancel_left t y z (ap (drop 3) a.1) in
    let b = number_ends o u 93 93 (41 ∷ r) (41 ∷ s) so su refl refl (ap (drop 8) second) in
    (a.0, (b.0, ap (drop 2) b.1))

one_stepping : (title : List ℕ) (n k : ℕ) (q r : Routine) (a b : List ℤ) → IsCWritable q a → IsCWritable r b →
    stepping title n k q ≡ stepping title n k r → Stepping q r
unfolding stepping
one_stepping title n k q r a b p o h =
    let w = p.writable in let v = o.writable in
    let bq = codes ";\n\n" ++ (step_head title n k q.inputs q.outputs ++ (codes " {\n" ++ inside n q)) in
    let br = codes ";\n\n" ++ (step_head title n k r.inputs r.outputs ++ (codes " {\n" ++ inside n r)) in
    let named = append_cancel_left title
    (codes "_step(" ++ (state_parameter n k ++ (arrays_text n q.inputs q.outputs ++ bq)))
    (codes "_step(" ++ (state_parameter n k ++ (arrays_text n r.inputs r.outputs ++ br)))
    (ap (drop 10) (sym (step_onto title n k q.inputs q.outputs bq) ∙ h ∙ step_onto title n k r.inputs r.outputs br)) in
    let arrays = append_cancel_left (state_parameter n k) (arrays_text n q.inputs q.outputs ++ bq)
    (arrays_text n r.inputs r.outputs ++ br) (ap (drop 6) named) in
    let c = one_counts n q.inputs r.inputs q.outputs r.outputs bq br w.inputs v.inputs w.outputs v.outputs arrays in
    let again : step_head title n k r.inputs r.outputs ++ (codes " {\n" ++ inside n q)
    ≡ step_head title n k r.inputs r.outputs ++ (codes " {\n" ++ inside n r) =
    (λ x. step_head title n k (sym c.0 x) (sym c.1.0 x) ++ (codes " {\n" ++ inside n q)) ∙ ap (drop 3) c.1.1 in
    let body = append_cancel_left (step_head title n k r.inputs r.outputs) (codes " {\n" ++ inside n q)
    (codes " {\n" ++ inside n r) again in
    record { inputs = c.0; outputs = c.1.0; inside = one_inside n q r a b p o (ap (drop 3) body) }

-- ---- the reset before it
resetting : List ℕ → ℕ → ℕ → List ℤ → List ℕ
resetting title n k starts =
    reset_head title n k
    ++ (codes ";\n\n" ++ (reset_head title n k ++ (codes " {\n" ++ (starts_text 0 starts ++ codes "}\n\n"))))

reset_none : (title : List ℕ) (n k : ℕ) (starts : List ℤ) → nat_eq k 0 ≡ true → reset_text title n k starts ≡ []
unfolding resetting
reset_none title n k starts e = ap (λ (x : Bool). cond x [] (resetting title n k starts)) e

reset_some : (title : List ℕ) (n k : ℕ) (starts : List ℤ) → nat_eq k 0 ≡ false →
    reset_text title n k starts ≡ resetting title n k starts
unfolding resetting
reset_some title n k starts e = ap (λ (x : Bool). cond x [] (resetting title n k starts)) e

reset_onto : (title : List ℕ) (n k : ℕ) (r : List ℕ) → reset_head title n k ++ r
    ≡ codes "void fixd_" ++ (title ++ (codes "_reset(" ++ (type_text (least_size n) ++ (codes " state[" ++ (decimal k
    ++ (93 ∷ 41 ∷ r))))))
reset_onto title n k r =
    let t = type_text (least_size n) in let s = state_text n k in
    ap (λ x. codes "void fixd_" ++ x) (append_assoc title (codes "_reset(" ++ (s ++ codes ")")) r
    ∙ ap (λ x. title ++ (codes "_reset(" ++ x)) (append_assoc s (codes ")") r
    ∙ append_assoc t (codes " state[" ++ (decimal k ++ codes "]")) (41 ∷ r)
    ∙ ap (λ x. t ++ (codes " state[" ++ x)) (append_assoc (decimal k) (codes "]") (41 ∷ r))))

resetting_onto : (title : List ℕ) (n k : ℕ) (starts : List ℤ) (r : List ℕ) → resetting title n k starts ++ r
    ≡ reset_head title n k ++ (codes ";\n\n" ++ (reset_head title n k ++ (codes " {\n" ++ (starts_text 0 starts
    ++ (codes "}\n\n" ++ r)))))
unfolding resetting
resetting_onto title n k starts r =
    let h = reset_head title n k in let t = starts_text 0 starts in
    append_assoc h (codes ";\n\n" ++ (h ++ (codes " {\n" ++ (t ++ codes "}\n\n")))) r
    ∙ ap (λ x. h ++ (codes ";\n\n" ++ x)) (append_assoc h (codes " {\n" ++ (t ++ codes "}\n\n")) r
    ∙ ap (λ x. h ++ (codes " {\n" ++ x)) (append_assoc t (codes "}\n\n") r))

record Resetting (k j : ℕ) (a b : List ℤ) (r s : List ℕ) : Type 0 where
  states : k ≡ j
  starts : a ≡ b
  rest : r ≡ s

closed : (r : List ℕ) → get_or (codes "}\n\n" ++ r) 0 0 ≡ 32 → ⊥
closed r h = differ 125 32 refl h

one_resetting : (title : List ℕ) (n k j : ℕ) (q r : Routine) (a b : List ℤ) (t u : List ℕ) → IsCWritable q a →
    IsCWritable r b → IsShort k → IsShort j → resetting title n k a ++ t ≡ resetting title n j b ++ u →
    Resetting k j a b t u
one_resetting title n k j q r a b t u p o sk sj h =
    let size = type_text (least_size n) in
    let wa = codes " {\n" ++ (starts_text 0 a ++ (codes "}\n\n" ++ t)) in
    let wb = codes " {\n" ++ (starts_text 0 b ++ (codes "}\n\n" ++ u)) in
    let ra = codes ";\n\n" ++ (reset_head title n k ++ wa) in
    let rb = codes ";\n\n" ++ (reset_head title n j ++ wb) in
    let flat = sym (reset_onto title n k ra) ∙ sym (resetting_onto title n k a t) ∙ h ∙ resetting_onto title n j b u
    ∙ reset_onto title n j rb in
    let named = append_cancel_left title
    (codes "_reset(" ++ (size ++ (codes " state[" ++ (decimal k ++ (93 ∷ 41 ∷ ra)))))
    (codes "_reset(" ++ (size ++ (codes " state[" ++ (decimal j ++ (93 ∷ 41 ∷ rb))))) (ap (drop 10) flat) in
    let typed = append_cancel_left size (codes " state[" ++ (decimal k ++ (93 ∷ 41 ∷ ra)))
    (codes " state[" ++ (decimal j ++ (93 ∷ 41 ∷ rb))) (ap (drop 7) named) in
    let m = number_ends k j 93 93 (41 ∷ ra) (41 ∷ rb) sk sj refl refl (ap (drop 7) typed) in
    let again : reset_head title n j ++ wa ≡ reset_head title n j ++ wb =
    ap (λ (z : ℕ). reset_head title n z ++ wa) (sym m.0) ∙ ap (drop 5) m.1 in
    let inner = append_cancel_left (reset_head title n j) wa wb again in
    let starts = one_starts 0 a b (codes "}\n\n" ++ t) (codes "}\n\n" ++ u) p.short o.short (closed t) (closed u)
    (ap (drop 3) inner) in
    record { states = m.0; starts = starts.0; rest = ap (drop 3) starts.1 }

-- a reset is no step
no_reset : (title : List ℕ) (n k j : ℕ) (starts : List ℤ) (t : List ℕ) (r : Routine) →
    resetting title n k starts ++ t ≡ stepping title n j r → ⊥
unfolding stepping
no_reset title n k j starts t r h =
    let size = type_text (least_size n) in
    let ra = codes ";\n\n" ++ (reset_head title n k ++ (codes " {\n" ++ (starts_text 0 starts ++ (codes "}\n\n" ++ t)))) in
    let br = codes ";\n\n" ++ (step_head title n j r.inputs r.outputs ++ (codes " {\n" ++ inside n r)) in
    let named = append_cancel_left title
    (codes "_reset(" ++ (size ++ (codes " state[" ++ (decimal k ++ (93 ∷ 41 ∷ ra)))))
    (codes "_step(" ++ (state_parameter n j ++ (arrays_text n r.inputs r.outputs ++ br)))
    (ap (drop 10) (sym (reset_onto title n k ra) ∙ sym (resetting_onto title n k starts t) ∙ h
    ∙ step_onto title n j r.inputs r.outputs br)) in
    differ 114 115 refl (ap (λ l. get_or l 1 0) named)

-- ---- both functions
functions : List ℕ → ℕ → Routine → List ℤ → List ℕ
functions title n r starts = reset_text title n r.states starts ++ stepping title n r.states r

record Functions (q r : Routine) (a b : List ℤ) : Type 0 where
  states : q.states ≡ r.states
  starts : a ≡ b
  step : Stepping q r

no_words : (a b : List ℤ) → length a ≡ 0 → length b ≡ 0 → a ≡ b
no_words [] [] p q = refl
no_words [] (w ∷ b) p q = absurd (omega (arith, q))
no_words (v ∷ a) b p q = absurd (omega (arith, p))

zero_of : (k : ℕ) → nat_eq k 0 ≡ true → k ≡ 0
zero_of k e = grind arith

one_functions : (title : List ℕ) (n : ℕ) (q r : Routine) (a b : List ℤ) → IsCWritable q a → IsCWritable r b →
    functions title n q a ≡ functions title n r b → Functions q r a b
unfolding functions
one_functions title n q r a b p o h = by (nat_eq q.states 0) (nat_eq r.states 0) refl refl
  where
    alone : (k : ℕ) (s : List ℤ) (r : Routine) → nat_eq k 0 ≡ true → reset_text title n k s ++ stepping title n k r
        ≡ stepping title n k r
    alone k s r e = ap (λ t. t ++ stepping title n k r) (reset_none title n k s e)

    behind : (k : ℕ) (s : List ℤ) (r : Routine) → nat_eq k 0 ≡ false → reset_text title n k s ++ stepping title n k r
        ≡ resetting title n k s ++ stepping title n k r
    behind k s r e = ap (λ t. t ++ stepping title n k r) (reset_some title n k s e)

    by : (x y : Bool) → nat_eq q.states 0 ≡ x → nat_eq r.states 0 ≡ y → Functions q r a b
    by true true x y =
        let same : q.states ≡ r.states = zero_of q.states x ∙ sym (zero_of r.states y) in
        let steps = ap (λ (k : ℕ). stepping title n k q) (sym same) ∙ sym (alone q.states a q x) ∙ h
        ∙ alone r.states b r y in
        record {
          states = same;
          starts = no_words a b (p.counted ∙ zero_of q.states x) (o.counted ∙ zero_of r.states y);
          step = one_stepping title n r.states q r a b p o steps;
        }
    by false false x y =
        let m = one_resetting title n q.states r.states q r a b (stepping title n q.states q)
        (stepping title n r.states r) p o p.writable.states o.writable.states
        (sym (behind q.states a q x) ∙ h ∙ behind r.states b r y) in
        let steps = ap (λ (k : ℕ). stepping title n k q) (sym m.states) ∙ m.rest in
        record { states = m.states; starts = m.starts; step = one_stepping title n r.states q r a b p o steps }
    by true false x y = absurd (no_reset title n r.states q.states b (stepping title n r.states r) q
        (sym (sym (alone q.states a q x) ∙ h ∙ behind r.states b r y)))
    by false true x y = absurd (no_reset title n q.states r.states a (stepping title n q.states q) r
        (sym (behind q.states a q x) ∙ h ∙ alone r.states b r y))

-- both begin alike
void_front : (title : List ℕ) (n : ℕ) (r : Routine) (starts : List ℤ) →
    functions title n r starts ≡ 118 ∷ drop 1 (functions title n r starts)
unfolding functions stepping
void_front title n r starts = by (nat_eq r.states 0)
  where
    by : (x : Bool) →
        cond x [] (reset_head title n r.states ++ (codes ";\n\n" ++ (reset_head title n r.states
        ++ (codes " {\n" ++ (starts_text 0 starts ++ codes "}\n\n"))))) ++ stepping title n r.states r
        ≡ 118 ∷ drop 1 (cond x [] (reset_head title n r.states ++ (codes ";\n\n" ++ (reset_head title n r.states
        ++ (codes " {\n" ++ (starts_text 0 starts ++ codes "}\n\n"))))) ++ stepping title n r.states r)
    by true = refl
    by false = refl

-- ---- the whole
text_onto : (r : Routine) (starts : List ℤ) → c_text r starts
    ≡ top_text r.title r.width ++ (helpers_text r.width r.lets ++ functions r.title r.width r starts)
unfolding functions stepping inside
text_onto r starts =
    let top = top_text r.title r.width in let help = helpers_text r.width r.lets in
    let reset = reset_text r.title r.width r.states starts in
    append_assoc top (help ++ reset) (step_text r) ∙ ap (λ t. top ++ t) (append_assoc help reset (step_text r))

pub one_reading : OneReadingLaw
one_reading q r a b p o h =
    let fq = functions q.title q.width q a in let fr = functions r.title r.width r b in
    let top = one_top q.title r.title q.width r.width (helpers_text q.width q.lets ++ fq)
    (helpers_text r.width r.lets ++ fr) p.writable.title o.writable.title p.writable.width o.writable.width
    (sym (text_onto q a) ∙ h ∙ text_onto r b) in
    let both = one_helpers q.width r.width q.lets r.lets (drop 1 fq) (drop 1 fr)
    (ap (λ t. helpers_text q.width q.lets ++ t) (sym (void_front q.title q.width q a)) ∙ top.rest
    ∙ ap (λ t. helpers_text r.width r.lets ++ t) (void_front r.title r.width r b)) in
    let same = (λ i. functions (sym top.title i) (sym top.width i) q a) ∙ void_front q.title q.width q a ∙ both
    ∙ sym (void_front r.title r.width r b) in
    let f = one_functions r.title r.width q r a b p o same in
    record {
      statements = λ i. record {
        title = top.title i;
        width = top.width i;
        states = f.states i;
        inputs = f.step.inputs i;
        outputs = f.step.outputs i;
        lets = f.step.inside.lets i;
        stores = f.step.inside.stores i;
        results = f.step.inside.results i;
      };
      starts = f.starts;
    }

pub does_once : DoesOnceLaw
does_once text s x a b d e p q =
    let same = one_reading p.routine q.routine a b p.writable q.writable (sym p.written ∙ q.written) in
    (same.starts, sym p.step ∙ ap (λ r. c_step r s x) same.statements ∙ q.step)
