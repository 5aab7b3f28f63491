-- A line put field by field: the header's names, and the texts of a step's words.
use Rattle.std.proofs.Common.{◌≡◌, ℕ, zero, suc, ◌+◌, ◌-◌, ◌<◌, ◌≤◌, Bool, true, false, eqb, ℤ, pos, List, [], ◌∷◌, ◌++◌, length, take, drop, get_or, drop-cons, length-take, length-drop, append_assoc, append-nil, refl, ap, sym, ◌∙◌, arith}
use Rattle.std.specs.Prelude.{codes}
use Rattle.std.specs.Fmt.{decimal}
use Rattle.std.proofs.lemmas.Bool.Decides.{nat_tests}
use Rattle.std.proofs.lemmas.List.{drop_all}
use Rattle.std.proofs.lemmas.List.Elements.{All-get_or, All-take, All-drop}
use Rattle.fx_model.specs.Tree.{at}
use Rattle.fx_model.specs.Machine.{Program, first_copy, points_of, output_points}
use Rattle.fx_model.specs.LawfulProgram.{IsPoint, IsLawfulProgram}
use Rattle.fx_model.specs.Page.{line_of, names_from, word_texts}
use Rattle.fx_model.specs.WordText.{decimal_text}
use Rattle.fx_machine.specs.Steps.{step_taken}
use Rattle.fx_program.proofs.Lists.{points_length}
use Rattle.fx_run.specs.Lines.{mark}

-- ---- any fields
-- what is still to be put of a line: nothing behind its last field
abbrev pub rest_of_line : List (List ℕ) → List ℕ
rest_of_line [] = []
rest_of_line (f ∷ fs) = line_of (f ∷ fs)

-- the next field, and what stands behind it
next_field : (f : List ℕ) (fs : List (List ℕ)) (is_last : Bool) → (is_last ≡ true → length fs ≡ 0) →
    (is_last ≡ false → 0 < length fs) →
    rest_of_line (f ∷ fs) ≡ f ++ mark is_last ∷ rest_of_line fs
next_field f [] true last more = refl
next_field f [] false last more = absurd (let h = more refl in omega arith)
next_field f (g ∷ fs) true last more = absurd (let h = last refl in omega arith)
next_field f (g ∷ fs) false last more = append_assoc f _ _

is_last_field : (j n k : ℕ) → k ≡ n - (j + 1) → j < n → eqb (j + 1) n ≡ true → k ≡ 0
is_last_field j n k e lt t = grind (arith, nat_tests)

more_fields : (j n k : ℕ) → k ≡ n - (j + 1) → j < n → eqb (j + 1) n ≡ false → 0 < k
more_fields j n k e lt t = grind (arith, nat_tests)

-- one field more is put of the line of these fields, which stands behind other text
pub field_put : (all : List (List ℕ)) (n j : ℕ) (field text other : List ℕ) → length all ≡ n → j < n →
    get_or all j [] ≡ field →
    text ++ rest_of_line (drop j all) ≡ other ++ line_of all →
    (text ++ field ++ mark (eqb (j + 1) n) ∷ []) ++ rest_of_line (drop (j + 1) all) ≡ other ++ line_of all
field_put all n j field text other many lt is before =
    let one : suc j ≡ j + 1 = omega arith in
    let left : length (drop (j + 1) all) ≡ n - (j + 1) = length-drop (j + 1) all ∙ ap (λ k. k - (j + 1)) many in
    let next : rest_of_line (drop j all) ≡ get_or all j [] ++ mark (eqb (j + 1) n) ∷ rest_of_line (drop (j + 1) all) =
    ap rest_of_line (drop-cons all j [] (omega arith)) ∙ ap (λ k. rest_of_line (get_or all j [] ∷ drop k all)) one
    ∙ next_field (get_or all j []) (drop (j + 1) all) (eqb (j + 1) n)
    (is_last_field j n (length (drop (j + 1) all)) left lt) (more_fields j n (length (drop (j + 1) all)) left lt) in
    append_assoc (text ++ field) (mark (eqb (j + 1) n) ∷ []) (rest_of_line (drop (j + 1) all))
    ∙ append_assoc text field (mark (eqb (j + 1) n) ∷ rest_of_line (drop (j + 1) all))
    ∙ ap (λ (f : List ℕ). text ++ (f ++ mark (eqb (j + 1) n) ∷ rest_of_line (drop (j + 1) all))) (sym is)
    ∙ ap (λ (t : List ℕ). text ++ t) (sym next)
    ∙ before

-- before the first field the whole line is left
pub no_field : (all : List (List ℕ)) → 1 ≤ length all → rest_of_line (drop 0 all) ≡ line_of all
no_field [] some = absurd (omega arith)
no_field (f ∷ fs) some = refl

-- behind the last field nothing is left
pub all_fields : (all : List (List ℕ)) (n : ℕ) (text whole : List ℕ) → length all ≡ n →
    text ++ rest_of_line (drop n all) ≡ whole → text ≡ whole
all_fields all n text whole many e =
    sym (ap (λ fs. text ++ rest_of_line fs) (drop_all n all (omega arith)) ∙ append-nil text) ∙ e

-- ---- the header
pub names_length : (i n : ℕ) → length (names_from i n) ≡ n
names_length i zero = refl
names_length i (suc n) = ap suc (names_length (i + 1) n)

pub output_name_at : (i n j : ℕ) → j < n → get_or (names_from i n) j [] ≡ codes "out" ++ decimal (i + j)
output_name_at i zero j lt = absurd (omega arith)
output_name_at i (suc n) zero lt = let e : i ≡ i + 0 = omega arith in ap (λ k. codes "out" ++ decimal k) e
output_name_at i (suc n) (suc j) lt =
    let e : i + 1 + j ≡ i + suc j = omega arith in
    output_name_at (i + 1) n j (omega arith) ∙ ap (λ k. codes "out" ++ decimal k) e

-- ---- the words of a step
texts_length : (n : ℕ) (ws fs : List ℤ) → length ws ≡ n → length fs ≡ n → length (word_texts ws fs) ≡ n
texts_length zero [] fs w f = refl
texts_length zero (x ∷ ws) fs w f = absurd (omega arith)
texts_length (suc n) [] fs w f = absurd (omega arith)
texts_length (suc n) (x ∷ ws) [] w f = absurd (omega arith)
texts_length (suc n) (x ∷ ws) (y ∷ fs) w f = ap suc (texts_length n ws fs (omega arith) (omega arith))

text_at : (n j : ℕ) (ws fs : List ℤ) → length ws ≡ n → length fs ≡ n → j < n →
    get_or (word_texts ws fs) j [] ≡ decimal_text (at (pos 0) ws j) (at (pos 0) fs j)
text_at zero j ws fs w f lt = absurd (omega arith)
text_at (suc n) j [] fs w f lt = absurd (omega arith)
text_at (suc n) j (x ∷ ws) [] w f lt = absurd (omega arith)
text_at (suc n) zero (x ∷ ws) (y ∷ fs) w f lt = refl
text_at (suc n) (suc j) (x ∷ ws) (y ∷ fs) w f lt = text_at n j ws fs (omega arith) (omega arith) (omega arith)

-- as many of the last words as there are outputs
taken_length : {X : Type 0} (m s k : ℕ) (xs : List X) → length xs ≡ k → m + s ≤ k →
    length (take m (drop (k - (m + s)) xs)) ≡ m
taken_length m s k xs many room = omega (arith, length-take m (drop (k - (m + s)) xs), length-drop (k - (m + s)) xs)

outputs_length : (p : Program) (ws : List ℤ) → IsLawfulProgram p → length ws ≡ length p.codes →
    length (step_taken p ws).outputs ≡ p.outputs
outputs_length p ws lawful many =
    let room = lawful.counts.enough in taken_length p.outputs p.states (length p.codes) ws many (omega arith)

points_many : (p : Program) → IsLawfulProgram p → length (output_points p) ≡ p.outputs
points_many p lawful =
    let room = lawful.counts.enough in let none : 0 + length p.codes ≡ length p.codes = omega arith in
    taken_length p.outputs p.states (length p.codes) (points_of p.codes) (points_length p.codes [] ∙ none) (omega arith)

pub fields_length : (p : Program) (ws : List ℤ) → IsLawfulProgram p → length ws ≡ length p.codes →
    length (word_texts (step_taken p ws).outputs (output_points p)) ≡ p.outputs
fields_length p ws lawful many =
    texts_length p.outputs (step_taken p ws).outputs (output_points p) (outputs_length p ws lawful many)
    (points_many p lawful)

field_at : (p : Program) (ws : List ℤ) (j : ℕ) → IsLawfulProgram p → length ws ≡ length p.codes → j < p.outputs →
    get_or (word_texts (step_taken p ws).outputs (output_points p)) j []
    ≡ decimal_text (at (pos 0) (step_taken p ws).outputs j) (at (pos 0) (output_points p) j)
field_at p ws j lawful many lt =
    text_at p.outputs j (step_taken p ws).outputs (output_points p) (outputs_length p ws lawful many)
    (points_many p lawful) lt

-- the text of output j, by its word and its point
pub text_told : (p : Program) (ws : List ℤ) (j : ℕ) → IsLawfulProgram p → length ws ≡ length p.codes → j < p.outputs →
    {w f : ℤ} → w ≡ at (pos 0) (step_taken p ws).outputs j → f ≡ at (pos 0) (output_points p) j
    → get_or (word_texts (step_taken p ws).outputs (output_points p)) j [] ≡ decimal_text w f
text_told p ws j lawful many lt word point = rw (word, point) (field_at p ws j lawful many lt)

-- an output's point is one
pub output_point_at : (p : Program) (j : ℕ) → IsLawfulProgram p → j < p.outputs → IsPoint (at (pos 0) (output_points p) j)
output_point_at p j lawful lt =
    let many = points_many p lawful in
    All-get_or IsPoint (output_points p) j (pos 0) (omega arith)
    (All-take IsPoint p.outputs (drop (first_copy p) (points_of p.codes))
    (All-drop IsPoint (first_copy p) (points_of p.codes) lawful.points))
