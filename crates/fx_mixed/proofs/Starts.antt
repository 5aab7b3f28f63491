-- The words before the first row: the states' among them, and that each lies in its width.
use Rattle.std.proofs.Common.{◌≡◌, ◌⊎◌, inl, inr, ⊎_elim, ℕ, zero, suc, ◌+◌, ◌-◌, ◌<◌, ◌≤◌, ℤ, pos, List, [], ◌∷◌, ◌++◌, length, map, take, drop, set, get_or, replicate, refl, sym, ap, subst, ◌∙◌, arith}
use Rattle.std.proofs.lemmas.List.{length-map}
use Rattle.std.proofs.lemmas.Bool.{cases_lt}
use Rattle.fx_model.specs.Tree.{at}
use Rattle.fx_model.specs.Machine.{Code, Program, IsWord, starts_of, start_words}
use Rattle.fx_model.specs.LawfulProgram.{AreLawful, IsLawfulProgram}
use Rattle.fx_model.proofs.Starts.{Stands, as_input, as_state, behind, stands}
use Rattle.fx_inequalities.specs.Certificate.{Certificate}
use Rattle.fx_machine.proofs.Starts.{zero_word}
use Rattle.fx_statements.specs.Widths.{FitWidths}
use Rattle.fx_widths.specs.LeastWidths.{least_width, least_widths}
use Rattle.fx_widths.proofs.Least.{width_at}
use Rattle.fx_mixed.specs.Mixing.{first_word, first_words, states_among}
use Rattle.fx_mixed.proofs.Turns.{part_at}

-- ---- the states among the first words
none_first : (c : Code) → starts_of c ≡ [] → first_word c ≡ pos 0
none_first c e = ap (λ ws. at (pos 0) ws 0) e

none_left : (c : Code) (ws : List ℤ) → starts_of c ≡ [] → starts_of c ++ ws ≡ ws
none_left c ws e = ap (λ us. us ++ ws) e

-- from the states' places on
from_states : (b i s n : ℕ) (cs : List Code) → AreLawful b i s n cs → i ≤ n →
    take ((i + s) - n) (map first_word cs) ≡ start_words cs
from_states b i s n [] l le = nothing ((i + s) - n)
  where
    nothing : (m : ℕ) → take m (let none : List ℤ = [] in none) ≡ []
    nothing zero = refl
    nothing (suc m) = refl
from_states b i s n (c ∷ cs) l le = by c (stands i s n c l.0.1) (from_states b i s (n + 1) cs l.1 (omega arith))
  where
    by : (d : Code) → Stands i s n d → take ((i + s) - (n + 1)) (map first_word cs) ≡ start_words cs →
        take ((i + s) - n) (first_word d ∷ map first_word cs) ≡ starts_of d ++ start_words cs
    by d (as_input lt e) later = absurd (omega arith)
    by d (as_state {j} {f} {w} here lt) later =
        let m : (i + s) - n ≡ suc ((i + s) - (n + 1)) = omega arith in
        ap (λ (k : ℕ). take k (w ∷ map first_word cs)) m ∙ ap (λ ws. w ∷ ws) later
    by d (behind ge e) later =
        let m : (i + s) - n ≡ 0 = omega arith in let m' : (i + s) - (n + 1) ≡ 0 = omega arith in
        ap (λ (k : ℕ). take k (first_word d ∷ map first_word cs)) m
        ∙ ap (λ (k : ℕ). take k (map first_word cs)) (sym m') ∙ later ∙ sym (none_left d (start_words cs) e)

-- from any place before them
from_inputs : (w i s n : ℕ) (cs : List Code) → AreLawful w i s n cs → n ≤ i →
    take s (drop (i - n) (map first_word cs)) ≡ start_words cs
from_inputs w i s n [] l le = nothing s (i - n)
  where
    nothing : (m k : ℕ) → take m (drop k (let none : List ℤ = [] in none)) ≡ []
    nothing zero k = refl
    nothing (suc m) zero = refl
    nothing (suc m) (suc k) = refl
from_inputs w i s n (c ∷ cs) l le =
    ⊎_elim (λ (lt : n < i). by c (stands i s n c l.0.1) lt (from_inputs w i s (n + 1) cs l.1 (omega arith)))
    (λ (ge : i ≤ n).
    let e : i - n ≡ 0 = omega arith in let m : s ≡ (i + s) - n = omega arith in
    ap (λ (k : ℕ). take s (drop k (map first_word (c ∷ cs)))) e ∙ ap (λ (k : ℕ). take k (map first_word (c ∷ cs))) m
    ∙ from_states w i s n (c ∷ cs) l ge)
    (cases_lt n i)
  where
    by : (d : Code) → Stands i s n d → n < i → take s (drop (i - (n + 1)) (map first_word cs)) ≡ start_words cs →
        take s (drop (i - n) (first_word d ∷ map first_word cs)) ≡ starts_of d ++ start_words cs
    by d (as_input lt e) before later =
        let m : i - n ≡ suc (i - (n + 1)) = omega arith in
        ap (λ (k : ℕ). take s (drop k (first_word d ∷ map first_word cs))) m ∙ later
        ∙ sym (none_left d (start_words cs) e)
    by d (as_state here lt) before later = absurd (omega arith)
    by d (behind ge e) before later = absurd (omega arith)

pub first_states : (p : Program) → IsLawfulProgram p → states_among p (first_words p) ≡ start_words p.codes
first_states p lawful =
    let e : p.inputs ≡ p.inputs - 0 = omega arith in
    ap (λ (k : ℕ). take p.states (drop k (map first_word p.codes))) e
    ∙ from_inputs p.width p.inputs p.states 0 p.codes lawful.codes (omega arith)

-- ---- their widths
-- a first word is 0, or a state's
zero_or_state : (w i s n : ℕ) (cs : List Code) (k : ℕ) → AreLawful w i s n cs → k < length cs →
    (at (pos 0) (map first_word cs) k ≡ pos 0) ⊎ ((i ≤ n + k) × (n + k < i + s))
zero_or_state w i s n [] k l lt = absurd (omega arith)
zero_or_state w i s n (c ∷ cs) (suc k) l lt =
    let e : (n + 1) + k ≡ n + suc k = omega arith in
    ⊎_elim inl (λ (h : (i ≤ (n + 1) + k) × ((n + 1) + k < i + s)). inr ((omega (arith, h.0), omega (arith, h.1))))
    (zero_or_state w i s (n + 1) cs k l.1 (omega arith))
zero_or_state w i s n (c ∷ cs) zero l lt = by c (stands i s n c l.0.1)
  where
    by : (d : Code) → Stands i s n d → (first_word d ≡ pos 0) ⊎ ((i ≤ n + 0) × (n + 0 < i + s))
    by d (as_input before e) = inl (none_first d e)
    by d (as_state here few) = inr ((omega arith, omega arith))
    by d (behind le e) = inl (none_first d e)

-- where the start words of the states fit theirs, each first word fits its own
pub first_fit : (p : Program) (cert : Certificate) → IsLawfulProgram p →
    ((k : ℕ) → k < p.states → IsWord (least_width p cert (p.inputs + k)) (at (pos 0) (start_words p.codes) k))
    → FitWidths (least_widths p cert) (first_words p)
first_fit p cert lawful states n lt =
    let inside : n < length p.codes = let l = length-map p.codes first_word in omega arith in
    let ws = first_words p in
    subst (λ (m : ℕ). IsWord m (at (pos 0) ws n)) (sym (width_at p cert n inside))
    (⊎_elim (λ (e : at (pos 0) ws n ≡ pos 0). subst (IsWord (least_width p cert n)) (sym e)
    (zero_word (least_width p cert n)))
    (λ (h : (p.inputs ≤ 0 + n) × (0 + n < p.inputs + p.states)). of_state n (n - p.inputs) (omega (arith, h.0))
    (omega (arith, h.0, h.1)))
    (zero_or_state p.width p.inputs p.states 0 p.codes n lawful.codes inside))
  where
    of_state : (n k : ℕ) → n ≡ p.inputs + k → k < p.states →
        IsWord (least_width p cert n) (at (pos 0) (first_words p) n)
    of_state n k e lt =
        let same : at (pos 0) (start_words p.codes) k ≡ at (pos 0) (first_words p) n =
        ap (λ us. at (pos 0) us k) (sym (first_states p lawful)) ∙ part_at (first_words p) p.inputs p.states k lt
        ∙ ap (at (pos 0) (first_words p)) (sym e) in
        subst (λ (m : ℕ). IsWord (least_width p cert m) (at (pos 0) (first_words p) n)) (sym e)
        (subst (IsWord (least_width p cert (p.inputs + k))) same (states k lt))

-- ---- put one by one
-- what two views make of an element
pub seen_at : {X Y Z : Type 0} (f : Y → Z) (g : X → Y) (xs : List X) (k : ℕ) (x : X) (d : Z) → k < length xs →
    get_or (map f (map g xs)) k d ≡ f (g (get_or xs k x))
seen_at f g [] k x d lt = absurd (omega arith)
seen_at f g (y ∷ xs) zero x d lt = refl
seen_at f g (y ∷ xs) (suc k) x d lt = seen_at f g xs k x d (omega arith)

-- so many first words, and zeros for the other codes
abbrev pub begun : {X Y : Type 0} → (Y → ℤ) → (X → Y) → List X → ℕ → List ℤ
begun f g [] n = []
begun f g (x ∷ xs) zero = pos 0 ∷ begun f g xs zero
begun f g (x ∷ xs) (suc n) = f (g x) ∷ begun f g xs n

pub begun_none : {X Y : Type 0} (f : Y → ℤ) (g : X → Y) (xs : List X) → begun f g xs 0 ≡ replicate (length xs) (pos 0)
begun_none f g [] = refl
begun_none f g (y ∷ xs) = ap (λ ws. pos 0 ∷ ws) (begun_none f g xs)

pub begun_more : {X Y : Type 0} (f : Y → ℤ) (g : X → Y) (xs : List X) (n : ℕ) (x : X) → n < length xs →
    set (begun f g xs n) n (f (g (get_or xs n x))) ≡ begun f g xs (n + 1)
begun_more f g [] n x lt = absurd (omega arith)
begun_more f g (y ∷ xs) zero x lt = let e : suc zero ≡ zero + 1 = omega arith in ap (begun f g (y ∷ xs)) e
begun_more f g (y ∷ xs) (suc n) x lt =
    let e : suc n + 1 ≡ suc (n + 1) = omega arith in
    ap (λ ws. f (g y) ∷ ws) (begun_more f g xs n x (omega arith)) ∙ ap (begun f g (y ∷ xs)) (sym e)

-- the next one is 0 until then
pub begun_next : {X Y : Type 0} (f : Y → ℤ) (g : X → Y) (xs : List X) (n : ℕ) → n < length xs →
    at (pos 0) (begun f g xs n) n ≡ pos 0
begun_next f g [] n lt = absurd (omega arith)
begun_next f g (y ∷ xs) zero lt = refl
begun_next f g (y ∷ xs) (suc n) lt = begun_next f g xs n (omega arith)

pub begun_all : {X Y : Type 0} (f : Y → ℤ) (g : X → Y) (xs : List X) → begun f g xs (length xs) ≡ map f (map g xs)
begun_all f g [] = refl
begun_all f g (y ∷ xs) = ap (λ ws. f (g y) ∷ ws) (begun_all f g xs)
