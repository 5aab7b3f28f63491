-- Words of a step with the next states' in the places of the states.
use Rattle.std.proofs.Common.{◌≡◌, ℕ, ◌+◌, ◌-◌, ◌<◌, ◌≤◌, ℤ, pos, List, [], ◌∷◌, ◌++◌, length, take, drop, set, sym, ap, ◌∙◌, arith, append_assoc, append-nil, take-append-drop, length-append, length-drop, length-take-le}
use Rattle.std.proofs.lemmas.List.{drop-drop, drop_at, drop_more, get_or-drop, set-append_right, take_all, take_at, take_more}
use Rattle.std.proofs.Math.Seq.{drop-append-add, get_or-append-add}
use Rattle.fx_model.specs.Tree.{at}
use Rattle.fx_model.specs.Machine.{Program, first_copy}
use Rattle.fx_model.specs.LawfulProgram.{HasLawfulCounts}
use Rattle.fx_machine.specs.Steps.{step_taken}
use Rattle.fx_mixed.specs.Mixing.{carried, states_among}

-- the first k of the next states are in their places
abbrev pub with_next : ℕ → ℕ → List ℤ → List ℤ → List ℤ
with_next i k old next = (take i old ++ take k next) ++ drop (i + k) old

pub with_none : (i : ℕ) (old next : List ℤ) → with_next i 0 old next ≡ old
with_none i old next =
    let e : i + 0 ≡ i = omega arith in
    ap (λ xs. xs ++ drop (i + 0) old) (append-nil (take i old)) ∙ ap (λ (m : ℕ). take i old ++ drop m old) e
    ∙ take-append-drop i old

front_counted : (i k : ℕ) (old next : List ℤ) → i ≤ length old → k ≤ length next →
    length (take i old ++ take k next) ≡ i + k
front_counted i k old next p q =
    let a = length-append (take i old) (take k next) in
    let b = length-take-le i old p in
    let c = length-take-le k next q in
    omega arith

-- one more
pub with_more : (i k : ℕ) (old next : List ℤ) (w : ℤ) → i + k < length old → k < length next → at (pos 0) next k ≡ w
    → set (with_next i k old next) (i + k) w ≡ with_next i (k + 1) old next
with_more i k old next w room lt is =
    let many = front_counted i k old next (omega arith) (omega arith) in
    let none : (i + k) - (i + k) ≡ 0 = omega arith in
    let e : (i + k) + 1 ≡ i + (k + 1) = omega arith in
    set-append_right (take i old ++ take k next) (drop (i + k) old) (i + k) (i + k) w many (omega arith)
    ∙ ap (λ (m : ℕ). (take i old ++ take k next) ++ set (drop (i + k) old) m w) none
    ∙ ap (λ ys. (take i old ++ take k next) ++ set ys 0 w) (drop_more old (i + k) (pos 0) room)
    ∙ ap (λ (m : ℕ). (take i old ++ take k next) ++ w ∷ drop m old) e
    ∙ joined (take i old) (take k next) w (drop (i + (k + 1)) old)
    ∙ ap (λ xs. (take i old ++ xs) ++ drop (i + (k + 1)) old) (ap (λ v. take k next ++ v ∷ []) (sym is)
    ∙ sym (take_more next k (pos 0) lt))
  where
    joined : (a b : List ℤ) (w : ℤ) (c : List ℤ) → (a ++ b) ++ w ∷ c ≡ (a ++ (b ++ w ∷ [])) ++ c
    joined a b w c = simp append_assoc

-- what stands behind them is as it was
pub behind_next : (i k j : ℕ) (old next : List ℤ) → i ≤ length old → k ≤ length next → i + k ≤ j →
    at (pos 0) (with_next i k old next) j ≡ at (pos 0) old j
behind_next i k j old next p q le =
    let many = front_counted i k old next p q in
    let e : j ≡ (i + k) + (j - (i + k)) = omega arith in
    ap (at (pos 0) (with_next i k old next)) (e ∙ ap (λ (m : ℕ). m + (j - (i + k))) (sym many))
    ∙ get_or-append-add (take i old ++ take k next) (drop (i + k) old) (j - (i + k)) (pos 0)
    ∙ get_or-drop (i + k) old (j - (i + k)) (pos 0) ∙ ap (at (pos 0) old) (sym e)

-- ---- of a program
pub next_counted : (p : Program) (ws : List ℤ) → HasLawfulCounts p → length ws ≡ length p.codes →
    length (step_taken p ws).next ≡ p.states
next_counted p ws counts many =
    let enough = counts.enough in
    let a = length-drop p.outputs (drop (first_copy p) ws) in let b = length-drop (first_copy p) ws in omega arith

-- a next state's word is that of its copy
next_at : (p : Program) (ws : List ℤ) (k : ℕ) → HasLawfulCounts p →
    at (pos 0) (step_taken p ws).next k ≡ at (pos 0) ws ((length p.codes - p.states) + k)
next_at p ws k counts =
    let enough = counts.enough in
    let e : first_copy p + p.outputs ≡ length p.codes - p.states = omega arith in
    ap (λ xs. at (pos 0) xs k) (drop-drop p.outputs (first_copy p) ws ∙ ap (λ (m : ℕ). drop m ws) e)
    ∙ get_or-drop (length p.codes - p.states) ws k (pos 0)

-- all of them
pub with_all : (p : Program) (ws : List ℤ) → HasLawfulCounts p → length ws ≡ length p.codes →
    with_next p.inputs p.states ws (step_taken p ws).next ≡ carried p ws
with_all p ws counts many =
    let n = next_counted p ws counts many in
    ap (λ xs. (take p.inputs ws ++ xs) ++ drop (p.inputs + p.states) ws)
    (take_all p.states (step_taken p ws).next (omega arith))

pub carried_states : (p : Program) (ws : List ℤ) → HasLawfulCounts p → length ws ≡ length p.codes →
    states_among p (carried p ws) ≡ (step_taken p ws).next
carried_states p ws counts many =
    let enough = counts.enough in let next = (step_taken p ws).next in let rest = drop (p.inputs + p.states) ws in
    let n = next_counted p ws counts many in
    let i : length (take p.inputs ws) ≡ p.inputs = length-take-le p.inputs ws (omega arith) in
    ap (λ xs. take p.states (drop p.inputs xs)) (append_assoc (take p.inputs ws) next rest)
    ∙ ap (take p.states) (drop_at (take p.inputs ws) (next ++ rest) p.inputs i) ∙ take_at next rest p.states n

-- the outputs stay
pub carried_outputs : (p : Program) (ws : List ℤ) → HasLawfulCounts p → length ws ≡ length p.codes →
    (step_taken p (carried p ws)).outputs ≡ (step_taken p ws).outputs
carried_outputs p ws counts many =
    let enough = counts.enough in let next = (step_taken p ws).next in let m = p.inputs + p.states in
    let n = next_counted p ws counts many in
    let front : length (take p.inputs ws ++ next) ≡ m =
    (let a = length-append (take p.inputs ws) next in let b = length-take-le p.inputs ws (omega arith) in
    omega arith) in
    let e : first_copy p ≡ length (take p.inputs ws ++ next) + (first_copy p - m) = omega arith in
    let back : m + (first_copy p - m) ≡ first_copy p = omega arith in
    ap (take p.outputs)
    (ap (λ (j : ℕ). drop j (carried p ws)) e ∙ drop-append-add (take p.inputs ws ++ next) (drop m ws) (first_copy p - m)
    ∙ drop-drop (first_copy p - m) m ws ∙ ap (λ (j : ℕ). drop j ws) back)

-- the word at the copy of state k, where k states stand in their places
pub copy_word : (p : Program) (old words : List ℤ) (k place : ℕ) → HasLawfulCounts p → length old ≡ length p.codes →
    k < p.states
    → words ≡ with_next p.inputs k old (step_taken p old).next → place ≡ (length p.codes - p.states) + k →
    at (pos 0) words place ≡ at (pos 0) (step_taken p old).next k
copy_word p old words k place counts many lt is here =
    let enough = counts.enough in let n = next_counted p old counts many in
    ap (λ ws. at (pos 0) ws place) is
    ∙ behind_next p.inputs k place old (step_taken p old).next (omega arith) (omega arith) (omega arith)
    ∙ ap (at (pos 0) old) here ∙ sym (next_at p old k counts)

-- and the next one
pub copy_put : (p : Program) (old words : List ℤ) (k : ℕ) (w : ℤ) → HasLawfulCounts p → length old ≡ length p.codes →
    k < p.states
    → words ≡ with_next p.inputs k old (step_taken p old).next → at (pos 0) (step_taken p old).next k ≡ w
    → set words (p.inputs + k) w ≡ with_next p.inputs (k + 1) old (step_taken p old).next
copy_put p old words k w counts many lt is same =
    let enough = counts.enough in let n = next_counted p old counts many in
    ap (λ ws. set ws (p.inputs + k) w) is
    ∙ with_more p.inputs k old (step_taken p old).next w (omega arith) (omega arith) same
