-- What was written piece by piece.
use Rattle.std.proofs.Common.{◌≡◌, ℕ, zero, suc, ◌+◌, ◌<◌, List, [], ◌∷◌, ◌++◌, length, get_or, take, map, refl, sym, ap, ◌∙◌, arith, codes}
use Rattle.std.specs.Fmt.{decimal}
use Rattle.std.specs.List.{flat_map, join_by, range_with_len}
use Rattle.std.proofs.Common.{append_assoc}
use Rattle.std.proofs.lemmas.List.{flat_map_more, map_more, length-map, length-take}
use Rattle.std.proofs.lemmas.List.FromFn.{length-range_with_len, map-range_with_len_more}
use Rattle.fx_model.specs.Machine.{Round, Floor, Nearest, Code, Program}
use Rattle.fx_model.specs.Tree.{at}
use Rattle.fx_program.specs.ProgramView.{program_with}
use Rattle.fx_program.specs.declared.code.Code as program
use Rattle.fx_statements.specs.Statements.{Wide, Value, Let, Store}
use Rattle.fx_statements.specs.RustText.{wide_text, long_text, head_text}
use Rattle.fx_statements.specs.OfProgram.{rounded, let_by, lets_by, store_of, stores_of, routine_of}
use Rattle.fx_rust.specs.Around.{opening, closing}

-- ---- one statement more, in any language
-- behind the texts of a list that of one more
one_more : {A : Type 0} (f : A → List ℕ) (xs : List A) (x : A) (old out new : List ℕ) → out ≡ old ++ flat_map f xs →
    new ≡ out ++ f x
    → new ≡ old ++ flat_map f (xs ++ x ∷ [])
one_more f xs x old out new p q = q ∙ ap (λ o. o ++ f x) p ∙ flat_map_more f old xs x

lets_push : (made_of : Code → Value) (k : ℕ) (ns : List ℕ) (cs : List Code) (c : Code)
    → lets_by made_of k ns (cs ++ c ∷ [])
    ≡ lets_by made_of k ns cs ++ let_by made_of (k + length cs) (at 0 ns (k + length cs)) c ∷ []
lets_push made_of k ns [] c = let a : k ≡ k + 0 = omega arith in λ i. let_by made_of (a i) (at 0 ns (a i)) c ∷ []
lets_push made_of k ns (d ∷ cs) c = let a : (k + 1) + length cs ≡ k + suc (length cs) = omega arith in
    ap (λ t. let_by made_of k (at 0 ns k) d ∷ t) (lets_push made_of (k + 1) ns cs c
    ∙ (λ i. lets_by made_of (k + 1) ns cs ++ let_by made_of (a i) (at 0 ns (a i)) c ∷ []))

-- one code more
pub lets_more : {X : Type 0} (made_of : Code → Value) (f : X → Code) (ns : List ℕ) (xs : List X) (k : ℕ) (d : X) →
    k < length xs → lets_by made_of 0 ns (map f (take (k + 1) xs))
    ≡ lets_by made_of 0 ns (map f (take k xs)) ++ let_by made_of k (at 0 ns k) (f (get_or xs k d)) ∷ []
lets_more made_of f ns xs k d lt =
    let cs = map f (take k xs) in let c = f (get_or xs k d) in
    let many : 0 + length cs ≡ k = let a = length-map (take k xs) f in let b = length-take k xs in omega arith in
    ap (lets_by made_of 0 ns) (map_more f xs k d lt) ∙ lets_push made_of 0 ns cs c
    ∙ ap (λ (j : ℕ). lets_by made_of 0 ns cs ++ let_by made_of j (at 0 ns j) c ∷ []) many

pub let_more : {X : Type 0} (text : Let → List ℕ) (made_of : Code → Value) (f : X → Code) (ns : List ℕ) (xs : List X)
    (k : ℕ) (d : X) (old out new : List ℕ) → k < length xs
    → out ≡ old ++ flat_map text (lets_by made_of 0 ns (map f (take k xs))) →
    new ≡ out ++ text (let_by made_of k (at 0 ns k) (f (get_or xs k d)))
    → new ≡ old ++ flat_map text (lets_by made_of 0 ns (map f (take (k + 1) xs)))
let_more text made_of f ns xs k d old out new lt p q =
    one_more text (lets_by made_of 0 ns (map f (take k xs))) (let_by made_of k (at 0 ns k) (f (get_or xs k d))) old out
    new p q
    ∙ ap (λ ls. old ++ flat_map text ls) (sym (lets_more made_of f ns xs k d lt))

pub store_more : (text : Store → List ℕ) (c m : ℕ) (old out new : List ℕ) → out ≡ old ++ flat_map text (stores_of c m) →
    new ≡ out ++ text (store_of m (c + m))
    → new ≡ old ++ flat_map text (stores_of c (m + 1))
store_more text c m old out new p q =
    one_more text (stores_of c m) (store_of m (c + m)) old out new p q
    ∙ ap (λ ts. old ++ flat_map text ts)
    (sym (map-range_with_len_more (λ k. store_of k (c + k)) 0 m m (let e : 0 + m ≡ m = omega arith in e)))

-- ---- one output more
names_push : (c m : ℕ) → range_with_len c (m + 1) ≡ range_with_len c m ++ (c + m) ∷ []
names_push c zero = let a : c ≡ c + 0 = omega arith in λ i. a i ∷ []
names_push c (suc m) =
    let e : suc m + 1 ≡ suc (m + 1) = omega arith in let a : (c + 1) + m ≡ c + suc m = omega arith in
    ap (range_with_len c) e ∙ ap (λ t. c ∷ t) (names_push (c + 1) m ∙ (λ i. range_with_len (c + 1) m ++ (a i) ∷ []))

join_push : (xs : List ℕ) (x : ℕ) → 0 < length xs
    → join_by long_text (codes ", ") (xs ++ x ∷ []) ≡ join_by long_text (codes ", ") xs ++ (codes ", " ++ long_text x)
join_push [] x some = absurd (omega arith)
join_push (y ∷ xs) x some = sym (flat_map_more (λ n. codes ", " ++ long_text n) (long_text y) xs x)

pub result_more : (c m : ℕ) (old out comma new : List ℕ) → 0 < m →
    out ≡ old ++ join_by long_text (codes ", ") (range_with_len c m)
    → comma ≡ out ++ codes ", " → new ≡ comma ++ long_text (c + m) →
    new ≡ old ++ join_by long_text (codes ", ") (range_with_len c (m + 1))
result_more c m old out comma new some p q r =
    let x = long_text (c + m) in let so_far = join_by long_text (codes ", ") (range_with_len c m) in
    let joined : ((old ++ so_far) ++ codes ", ") ++ x ≡ old ++ (so_far ++ (codes ", " ++ x)) = simp append_assoc in
    r ∙ ap (λ o. o ++ x) (q ∙ ap (λ o. o ++ codes ", ") p) ∙ joined
    ∙ ap (λ t. old ++ t) (sym (ap (join_by long_text (codes ", ")) (names_push c m)
    ∙ join_push (range_with_len c m) (c + m) (let e = length-range_with_len c m in omega arith)))

-- ---- what is rounded
-- an expression between the two
rounded_text : (r : Round) (e : Wide) (s : ℕ) →
    wide_text (rounded r e s) ≡ opening r s ++ (wide_text e ++ closing r s)
rounded_text Floor e s = refl
rounded_text Nearest e zero = refl
rounded_text Nearest e (suc s) = ap (λ t. codes "((" ++ t) (simp append_assoc)

-- what was written in three pieces
pub between : (r : Round) (e : Wide) (s : ℕ) (old before middle new : List ℕ) → before ≡ old ++ opening r s →
    middle ≡ before ++ wide_text e
    → new ≡ middle ++ closing r s → new ≡ old ++ wide_text (rounded r e s)
between r e s old before middle new p q h =
    let joined : ((old ++ opening r s) ++ wide_text e) ++ closing r s ≡ old
    ++ (opening r s ++ (wide_text e ++ closing r s)) = simp append_assoc in
    h ∙ ap (λ o. o ++ closing r s) (q ∙ ap (λ o. o ++ wide_text e) p) ∙ joined
    ∙ ap (λ t. old ++ t) (sym (rounded_text r e s))

-- ---- the head
-- a comment and a signature, of a program with this inside
pub head_is : (q : Program) (version width inputs states outputs : ℕ) (name title : List ℕ) (cs : List program.Code)
    (old a new : List ℕ)
    → title ≡ name → program_with version width name inputs states outputs cs ≡ q →
    a ≡ old ++ codes "// " ++ title ++ codes ", width " ++ decimal width
    → new ≡ a ++ codes "\npub fn step(s: &mut [i64; " ++ decimal states ++ codes "], x: &[i64; " ++ decimal inputs ++
    codes "]) -> [i64; " ++ decimal outputs ++ codes "] {\n"
    → new ≡ old ++ head_text (routine_of q [])
head_is q version width inputs states outputs name title cs old a new same view p h =
    let signature =
    λ (o : List ℕ). o ++ codes "\npub fn step(s: &mut [i64; " ++ decimal states ++ codes "], x: &[i64; "
    ++ decimal inputs ++
    codes "]) -> [i64; " ++ decimal outputs ++ codes "] {\n" in
    let joined : signature (old ++ codes "// " ++ title ++ codes ", width " ++ decimal width) ≡
    old ++ head_text (routine_of (program_with version width title inputs states outputs cs) []) = simp append_assoc in
    h ∙ ap signature p ∙ joined
    ∙ ap (λ t. old ++ head_text (routine_of (program_with version width t inputs states outputs cs) [])) same
    ∙ ap (λ r. old ++ head_text (routine_of r [])) view
