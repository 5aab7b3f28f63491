-- Where a nested comment ends, and its grammar.
use Rattle.std.proofs.Common.{◌≡◌, ℕ, zero, suc, ◌+◌, ◌-◌, ◌<◌, ◌≤◌, Bool, true, false, cond, eqb, List, [], ◌∷◌, ◌++◌, length, get_or, take, Option, Some, ◌⊎◌, inl, inr, refl, sym, ap, subst, ◌∙◌, append_assoc, length-append, arith, rules, tests}
use Rattle.std.specs.Prelude.{◌||◌, ◌&&◌, nat_le}
use Rattle.fx_lexer.specs.Comments.{comment_end}
use Rattle.fx_lexer.specs.Layout.{IsInside, nothing, byte, inner, is_mark}

-- a turn of the reading, by its tests
abbrev turned : Bool → Bool → ℕ → ℕ → ℕ × ℕ
turned o k depth c = cond o (depth + 1, 0) (cond k (depth - 1, 0) (depth, c))

-- the place where the outermost is closed, or else the rest
abbrev chosen : Bool → ℕ → Option ℕ → Option ℕ
chosen l n rest = elim l [ true ↦ Some (n + 1) | false ↦ rest ]

-- a text that closes so many comments, and ends with the last
Closes : ℕ → List ℕ → Type 0
Closes zero text = text ≡ []
Closes (suc d) text =
    (inside : List ℕ) × (rest : List ℕ) × (text ≡ inside ++ 42 ∷ 47 ∷ rest) × IsInside inside × Closes d rest

-- what stands before the place and isn't in a mark yet
abbrev IsPending : ℕ → List ℕ → Type 0
IsPending last p = ((p ≡ []) × (last ≡ 0)) ⊎ (p ≡ last ∷ [])

-- a mark that closes
closed : (d : ℕ) (t : List ℕ) → Closes d t → Closes (suc d) (42 ∷ 47 ∷ t)
unfolding Closes
closed d t h = ([], t, refl, nothing, h)

-- a mark that opens
opened : (d : ℕ) (t : List ℕ) → Closes (suc (suc d)) t → Closes (suc d) (47 ∷ 42 ∷ t)
unfolding Closes
opened d t (inside, rest, e, i, (inside', rest', e', i', h)) =
    (47 ∷ 42 ∷ (inside ++ 42 ∷ 47 ∷ inside'), rest', same, inner inside inside' i i', h)
  where
    same : 47 ∷ 42 ∷ t ≡ (47 ∷ 42 ∷ (inside ++ 42 ∷ 47 ∷ inside')) ++ 42 ∷ 47 ∷ rest'
    same = rw (e, e', append_assoc inside (42 ∷ 47 ∷ inside') (42 ∷ 47 ∷ rest')) refl

-- the first byte of what is inside, or of the mark behind it
first_of_end : (inside rest t : List ℕ) (c : ℕ) → c ∷ t ≡ inside ++ 42 ∷ 47 ∷ rest →
    get_or (inside ++ 42 ∷ 47 ∷ []) 0 0 ≡ c
first_of_end [] rest t c e = sym (ap (λ xs. get_or xs 0 0) e)
first_of_end (x ∷ inside) rest t c e = sym (ap (λ xs. get_or xs 0 0) e)

-- a byte that begins no mark
pushed : (d last c : ℕ) (t : List ℕ) → is_mark last c ≡ false → Closes (suc d) (c ∷ t) → Closes (suc d) (last ∷ c ∷ t)
unfolding Closes
pushed d last c t off (inside, rest, e, i, h) =
    (last ∷ inside, rest, ap (λ xs. last ∷ xs) e, byte last inside (rw (first_of_end inside rest t c e) off) i, h)

-- where the reading ends, and the grammar of what it took
abbrev Found : ℕ → ℕ → ℕ → List ℕ → List ℕ → Type 0
Found n d m p cs = (k : ℕ) × (m ≡ n + k) × (k ≤ length cs) × Closes (suc d) (p ++ take k cs)

-- the same from any state
abbrev Finds : List ℕ → Type 0
Finds cs =
    (n d last m : ℕ) → comment_end n (suc d) last cs ≡ Some m → (p : List ℕ) → IsPending last p → Found n d m p cs

-- a byte that isn't 0 is pending
pending : (last : ℕ) (p : List ℕ) → 0 < last → IsPending last p → p ≡ last ∷ []
pending last p lt (inl h) = absurd (omega (arith, h.1))
pending last p lt (inr e) = e

-- one byte, by the three tests of the definition
step : (c : ℕ) (cs : List ℕ) → Finds cs → (n d last m : ℕ) (p : List ℕ) → IsPending last p → (o k l : Bool)
    → ((eqb last 47) && (eqb c 42)) ≡ o → ((eqb last 42) && (eqb c 47)) ≡ k → (k && nat_le (suc d) 1) ≡ l
    → chosen l n (comment_end (n + 1) (turned o k (suc d) c).0 (turned o k (suc d) c).1 cs) ≡ Some m
    → Found n d m p (c ∷ cs)
unfolding Closes
step c cs more n d last m p h true true l oe ke le e =
    absurd (let a : last ≡ 47 = search (rules, tests) in let b : last ≡ 42 = search (rules, tests) in omega arith)
step c cs more n d last m p h true false true oe ke le e = absurd cc
step c cs more n d last m p h true false false oe ke le e =
    let a : last ≡ 47 = search (rules, tests) in
    let b : c ≡ 42 = search (rules, tests) in
    let deeper : suc d + 1 ≡ suc (suc d) = omega arith in
    let (k, m_is, within, closes) =
    more (n + 1) (suc d) 0 m (subst (λ x. comment_end (n + 1) x 0 cs ≡ Some m) deeper e) [] (inl (refl, refl)) in (
      suc k,
      omega (arith, m_is),
      omega (arith, within),
      rw (pending last p (omega arith) h, a, b) (opened d (take k cs) closes),
    )
step c cs more n zero last m p h false true true oe ke le e =
    let a : last ≡ 42 = search (rules, tests) in
    let b : c ≡ 47 = search (rules, tests) in
    let at : n + 1 ≡ m = cc in
    (1, sym at, omega arith, rw (pending last p (omega arith) h, a, b) (closed 0 [] refl))
step c cs more n (suc d) last m p h false true true oe ke le e = absurd (search (rules, tests))
step c cs more n zero last m p h false true false oe ke le e = absurd (search (rules, tests))
step c cs more n (suc d) last m p h false true false oe ke le e =
    let a : last ≡ 42 = search (rules, tests) in
    let b : c ≡ 47 = search (rules, tests) in
    let higher : suc (suc d) - 1 ≡ suc d = omega arith in
    let (k, m_is, within, closes) =
    more (n + 1) d 0 m (subst (λ x. comment_end (n + 1) x 0 cs ≡ Some m) higher e) [] (inl (refl, refl)) in (
      suc k,
      omega (arith, m_is),
      omega (arith, within),
      rw (pending last p (omega arith) h, a, b) (closed (suc d) (take k cs) closes),
    )
step c cs more n d last m p h false false true oe ke le e = absurd cc
step c cs more n d last m p h false false false oe ke le e =
    let (k, m_is, within, closes) = more (n + 1) d c m e (c ∷ []) (inr refl) in
    (suc k, omega (arith, m_is), omega (arith, within), behind h (take k cs) closes)
  where
    off : is_mark last c ≡ false
    off = rw (oe, ke) refl

    behind : IsPending last p → (t : List ℕ) → Closes (suc d) (c ∷ t) → Closes (suc d) (p ++ c ∷ t)
    behind (inl q) t closes = rw q.0 closes
    behind (inr q) t closes = rw q (pushed d last c t off closes)

-- all bytes
finds : (cs : List ℕ) → Finds cs
unfolding comment_end
finds [] n d last m e p h = absurd cc
finds (c ∷ cs) n d last m e p h = step c cs (finds cs) n d last m p h _ _ _ refl refl refl e

-- a comment that is closed has the grammar, and ends where it is said to
pub nested_from : (text : List ℕ) (n : ℕ) → comment_end 0 0 0 (47 ∷ 42 ∷ text) ≡ Some n
    → (inside : List ℕ) × (take n (47 ∷ 42 ∷ text) ≡ 47 ∷ 42 ∷ (inside ++ 42 ∷ 47 ∷ [])) ×
    (n ≤ length (47 ∷ 42 ∷ text)) × IsInside inside
unfolding comment_end Closes
nested_from text n e =
    let (k, n_is, within, (inside, rest, same, i, over)) = finds text 2 0 0 n e [] (inl (refl, refl)) in
    let two : n ≡ suc (suc k) = omega (arith, n_is) in
    let taken : take n (47 ∷ 42 ∷ text) ≡ 47 ∷ 42 ∷ take k text = ap (λ x. take x (47 ∷ 42 ∷ text)) two in
    let all : take k text ≡ inside ++ 42 ∷ 47 ∷ [] = same ∙ ap (λ xs. inside ++ 42 ∷ 47 ∷ xs) over in
    (inside, taken ∙ ap (λ xs. 47 ∷ 42 ∷ xs) all, omega (arith, n_is, within), i)

-- ---- the other way

-- no mark ends here
plain : (n d last c : ℕ) (cs : List ℕ) → is_mark last c ≡ false →
    comment_end n d last (c ∷ cs) ≡ comment_end (n + 1) d c cs
unfolding comment_end
plain n d last c cs e = by ((eqb last 47) && (eqb c 42)) ((eqb last 42) && (eqb c 47)) e
  where
    by : (o k : Bool) → (o || k) ≡ false
        → chosen (k && nat_le d 1) n (comment_end (n + 1) (turned o k d c).0 (turned o k d c).1 cs)
        ≡ comment_end (n + 1) d c cs
    by false false e = refl
    by false true e = absurd cc
    by true k e = absurd cc

-- what follows behind a closing mark, where so many further comments are open
behind_close : ℕ → ℕ → List ℕ → Option ℕ
behind_close n zero cs = Some n
behind_close n (suc d) cs = comment_end n (suc d) 0 cs

-- the step at a mark that closes
closing : (n d : ℕ) (cs : List ℕ) → comment_end n (suc d) 42 (47 ∷ cs) ≡ behind_close (n + 1) d cs
unfolding comment_end behind_close
closing n zero cs = refl
closing n (suc d) cs = by (nat_le (suc (suc d)) 1) (search (rules, tests))
  where
    by : (b : Bool) → b ≡ false
        → chosen b n (comment_end (n + 1) (suc (suc d) - 1) 0 cs) ≡ comment_end (n + 1) (suc d) 0 cs
    by true e = absurd cc
    by false e = let one : suc (suc d) - 1 ≡ suc d = omega arith in ap (λ x. comment_end (n + 1) x 0 cs) one

-- the step at a mark that opens
opening : (n d : ℕ) (cs : List ℕ) → comment_end n (suc d) 47 (42 ∷ cs) ≡ comment_end (n + 1) (suc (suc d)) 0 cs
unfolding comment_end
opening n d cs = let one : suc d + 1 ≡ suc (suc d) = omega arith in ap (λ x. comment_end (n + 1) x 0 cs) one

-- what is inside is read to the mark behind it
ends : {inside : List ℕ} → IsInside inside → (n d last : ℕ) (cs : List ℕ) →
    is_mark last (get_or (inside ++ 42 ∷ 47 ∷ []) 0 0) ≡ false
    → comment_end n (suc d) last (inside ++ 42 ∷ 47 ∷ cs) ≡ behind_close (n + length inside + 2) d cs
unfolding behind_close
ends nothing n d last cs off =
    let n_is : n + 1 + 1 ≡ n + 0 + 2 = omega arith in
    plain n (suc d) last 42 (47 ∷ cs) off ∙ closing (n + 1) d cs ∙ ap (λ x. behind_close x d cs) n_is
ends (byte c rest off' i) n d last cs off =
    let n_is : n + 1 + length rest + 2 ≡ n + length (c ∷ rest) + 2 = omega arith in
    plain n (suc d) last c (rest ++ 42 ∷ 47 ∷ cs) off ∙ ends i (n + 1) d c cs off' ∙ ap (λ x. behind_close x d cs) n_is
ends (inner inside rest i j) n d last cs off =
    let both = inside ++ 42 ∷ 47 ∷ rest in
    let text : both ++ 42 ∷ 47 ∷ cs ≡ inside ++ 42 ∷ 47 ∷ (rest ++ 42 ∷ 47 ∷ cs) =
    append_assoc inside (42 ∷ 47 ∷ rest) (42 ∷ 47 ∷ cs) in
    let n_is : n + 1 + 1 + length inside + 2 + length rest + 2 ≡ n + length (47 ∷ 42 ∷ both) + 2 =
    omega (arith, length-append inside (42 ∷ 47 ∷ rest)) in
    plain n (suc d) last 47 (42 ∷ (both ++ 42 ∷ 47 ∷ cs)) off
    ∙ opening (n + 1) d (both ++ 42 ∷ 47 ∷ cs)
    ∙ ap (λ xs. comment_end (n + 1 + 1) (suc (suc d)) 0 xs) text
    ∙ ends i (n + 1 + 1) (suc d) 0 (rest ++ 42 ∷ 47 ∷ cs) refl
    ∙ ends j (n + 1 + 1 + length inside + 2) d 0 cs refl
    ∙ ap (λ x. behind_close x d cs) n_is

-- a comment of the grammar ends with its last mark
pub nested_ends : (inside rest : List ℕ) → IsInside inside →
    comment_end 0 0 0 (47 ∷ 42 ∷ (inside ++ 42 ∷ 47 ∷ rest)) ≡ Some (length (47 ∷ 42 ∷ (inside ++ 42 ∷ 47 ∷ [])))
unfolding comment_end behind_close
nested_ends inside rest i =
    let n_is : 2 + length inside + 2 ≡ length (47 ∷ 42 ∷ (inside ++ 42 ∷ 47 ∷ [])) =
    omega (arith, length-append inside (42 ∷ 47 ∷ [])) in
    ends i 2 0 0 rest refl ∙ ap (λ x. Some x) n_is
