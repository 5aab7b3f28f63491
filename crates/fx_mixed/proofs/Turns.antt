-- A turn over words that stand one behind the other: a code's word, the states, and the next states.
use Rattle.std.proofs.Common.{◌≡◌, ℕ, ◌+◌, ◌-◌, ◌<◌, ℤ, pos, List, [], ◌∷◌, ◌++◌, length, map, take, drop, set, Option, Some, None, refl, sym, ap, subst, ◌∙◌, arith, inl, inr, length-append, length-take-le}
use Rattle.std.specs.Prelude.{IsSome}
use Rattle.std.proofs.lemmas.List.{drop-set-add, drop-set-lt, get_or-drop, get_or-take, set-get_or, take-set-le}
use Rattle.std.proofs.lemmas.Bool.{cases_lt}
use Rattle.std.proofs.Math.Seq.{get_or-append_seam}
use Rattle.fx_rational.specs.Rational.{Rational}
use Rattle.fx_model.specs.Tree.{at}
use Rattle.fx_model.specs.Machine.{Code, Const, IsWord, words_after}
use Rattle.fx_model.specs.LawfulProgram.{IsPlaced}
use Rattle.fx_program.specs.CodeView.{code_of}
use Rattle.fx_program.specs.declared.code.Code as declared
use Rattle.fx_program.specs.declared.code.Code.TheVariants.{Input}
use Rattle.fx_model.proofs.Words.{words_counted}
use Rattle.fx_statements.specs.Widths.{FitWidths}
use Rattle.fx_machine.specs.Codes.{word_of}
use Rattle.fx_machine.proofs.Codes.{at_map_any}
use Rattle.fx_machine.proofs.Next.{next_goes_on}
use Rattle.fx_widths.proofs.States.{state_read, words_stay}

-- ---- parts of a list
pub part_at : (ws : List ℤ) (from count k : ℕ) → k < count →
    at (pos 0) (take count (drop from ws)) k ≡ at (pos 0) ws (from + k)
part_at ws from count k lt = get_or-take count (drop from ws) k (pos 0) lt ∙ get_or-drop from ws k (pos 0)

-- a word that changes none of the words from i on
part_stays : (i s n : ℕ) (ws : List ℤ) (w : ℤ) → ((j : ℕ) → n ≡ i + j → j < s → at (pos 0) ws n ≡ w) →
    take s (drop i (set ws n w)) ≡ take s (drop i ws)
part_stays i s n ws w same = elim (cases_lt n i) [
  | inl before ↦ ap (take s) (drop-set-lt i ws n w before)
  | inr from ↦ elim (cases_lt (n - i) s) [
    | inl within ↦
        let e : n ≡ i + (n - i) = omega arith in
        ap (λ us. take s (drop i us)) (ap (set ws n) (sym (same (n - i) e within)) ∙ set-get_or ws n (pos 0))
    | inr behind ↦
        let e : n ≡ i + (n - i) = omega arith in
        ap (λ (m : ℕ). take s (drop i (set ws m w))) e ∙ ap (take s) (drop-set-add i ws (n - i) w)
        ∙ take-set-le s (drop i ws) (n - i) w behind
  ]
]

-- ---- a code
-- in a run whose words lie in these widths, so does that of code k
pub word_fits : (n : ℕ) (codes : List declared.Code) (k : ℕ) (g : List Rational) (z us ws : List ℤ) (w : ℤ)
    (ns : List ℕ) →
    k < length codes → length us ≡ k → words_after n (map code_of (drop k codes)) g z us ≡ Some ws → FitWidths ns ws →
    word_of n (at (Const (pos 0) (pos 0)) (map code_of codes) k) g z us ≡ Some w → IsWord (at 0 ns k) w
word_fits n codes k g z us ws w ns lt many all fit here =
    let own = ap (λ c. word_of n c g z us)
    (sym (at_map_any code_of codes k (Input 0 (pos 0)) (Const (pos 0) (pos 0)) lt)) ∙ here in
    let after = next_goes_on n codes k lt g z us w own ∙ all in
    let rest = map code_of (drop (k + 1) codes) in
    let size = length-append us (w ∷ []) in
    let more = words_counted n rest g z (us ++ w ∷ []) ws after in
    let is : at (pos 0) ws k ≡ w = ap (at (pos 0) ws) (sym many)
    ∙ words_stay n rest g z (us ++ w ∷ []) ws after (length us) (omega arith)
    ∙ get_or-append_seam us w [] (pos 0) in
    subst (IsWord (at 0 ns k)) is (fit k (omega arith))

-- the code at a state's place makes the state's word
state_made : (n i s : ℕ) (c : Code) (g : List Rational) (z us : List ℤ) (w : ℤ) (m j : ℕ) → length us ≡ m →
    IsPlaced i s m c → m ≡ i + j → j < s → word_of n c g z us ≡ Some w → at (pos 0) z j ≡ w
unfolding word_of
state_made n i s c g z us w m j many placed e lt here =
    state_read n i s c g z us w j (subst (λ (k : ℕ). IsPlaced i s k c) (sym many) placed) (many ∙ e) lt here

-- so that it changes no state where it is put
pub states_stay : (n i s : ℕ) (c : Code) (g : List Rational) (ws : List ℤ) (k : ℕ) (w : ℤ) → k < length ws →
    IsPlaced i s k c → word_of n c g (take s (drop i ws)) (take k ws) ≡ Some w →
    take s (drop i (set ws k w)) ≡ take s (drop i ws)
states_stay n i s c g ws k w lt placed here =
    part_stays i s k ws w (λ j e few. ap (at (pos 0) ws) e ∙ sym (part_at ws i s j few)
    ∙ state_made n i s c g (take s (drop i ws)) (take k ws) w k j (length-take-le k ws (omega arith)) placed e few here)

-- what is there is some value
pub some_there : {A : Type 0} (o : Option A) → IsSome o → (v : A) × (o ≡ Some v)
some_there None h = absurd cc
some_there (Some v) h = (v, refl)
