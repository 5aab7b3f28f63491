-- Rows that are held back, one behind the other, and their lines.
use Rattle.std.proofs.Common.{◌≡◌, ℕ, zero, suc, Bool, true, false, ◌+◌, ◌<◌, ℤ, List, [], ◌∷◌, ◌++◌, length, map, drop, take, Some, refl, ap, sym, subst, ◌∙◌, arith, inl, inr, append_assoc, append-nil, length-drop}
use Rattle.std.specs.Prelude.{◌⊎◌, None}
use Rattle.std.proofs.lemmas.Bool.{cases_order}
use Rattle.std.proofs.lemmas.List.{drop_all, nil_from_length, take_all}
use Rattle.fx_rational.specs.Decimal.{Decimal, decimal_value}
use Rattle.fx_model.specs.Function.{Input, Step, start_state}
use Rattle.fx_model.specs.Machine.{Program, first_copy, machine_step, start_words}
use Rattle.fx_model.specs.Page.{line_of, names_from}
use Rattle.fx_model.specs.Rows.{IsInRange}
use Rattle.fx_inequalities.specs.Near.{IsNear}
use Rattle.fx_machine.specs.Steps.{step_taken}
use Rattle.fx_rules.specs.Steps.{rewrite}
use Rattle.fx_sound.specs.Soundness.{IsCertified}
use Rattle.fx_checker.specs.CertifiedView.{Accepted}
use Rattle.fx_checker.proofs.Ready.{states_are}
use Rattle.fx_stream.specs.Printed.{lines_outcome}
use Rattle.fx_lanes.specs.RowsSideBySide.{row_at}
use Rattle.fx_run.specs.Blocks.{IsBlockInRange, ArePut, first_rows}
use Rattle.fx_run.specs.Steps.{lines_from, step_line}
use Rattle.fx_run.specs.Printed.{RowsLaw, run_outcome}
use Rattle.fx_run.proofs.Honest.{line_next, outcome_is}

-- ---- rows in their places
same_first : (n k : ℕ) (xs ys : List Decimal) → ((j : ℕ) → j < k → row_at n j xs ≡ row_at n j ys) →
    first_rows n k xs ≡ first_rows n k ys
same_first n zero xs ys same = refl
same_first n (suc k) xs ys same =
    ap (λ rs. rs ++ row_at n k xs ∷ []) (same_first n k xs ys (λ j lt. same j (omega arith)))
    ∙ ap (λ r. first_rows n k ys ++ r ∷ []) (same k (omega arith))

-- a row was put behind the first ones
pub row_behind : (n k : ℕ) (xs ys row : List Decimal) → row_at n k ys ≡ row →
    ((j : ℕ) → j < k → row_at n j ys ≡ row_at n j xs)
    → first_rows n (k + 1) ys ≡ first_rows n k xs ++ row ∷ []
row_behind n k xs ys row put same =
    let one : k + 1 ≡ suc k = omega arith in
    ap (λ m. first_rows n m ys) one ∙ ap (λ rs. rs ++ row_at n k ys ∷ []) (same_first n k ys xs same)
    ∙ ap (λ r. first_rows n k xs ++ r ∷ []) put

-- all are in range where one was put that is
pub put_in_range : (is : List Input) (n k : ℕ) (xs ys row : List Decimal) → IsInRange is (map decimal_value row) →
    IsBlockInRange is n xs → row_at n k ys ≡ row
    → ((j : ℕ) → j < 16 → (j ≡ k → ⊥) → row_at n j ys ≡ row_at n j xs) → IsBlockInRange is n ys
put_in_range is n k xs ys row good all put others = λ j lt. elim (cases_order j k) [
  | inl e ↦ subst (λ r. IsInRange is (map decimal_value r)) (sym (ap (λ i. row_at n i ys) e ∙ put)) good
  | inr o ↦ subst (λ r. IsInRange is (map decimal_value r))
      (sym (others j lt (λ e. elim o [ inl below ↦ absurd (omega arith) | inr above ↦ absurd (omega arith) ])))
      (all j lt)
]

-- one place more holds the row
pub one_more : (n k : ℕ) (xs ys row : List Decimal) → k < 16 → ((j : ℕ) → j < k → row_at n j xs ≡ row) →
    row_at n k ys ≡ row
    → ((j : ℕ) → j < 16 → (j ≡ k → ⊥) → row_at n j ys ≡ row_at n j xs) → (j : ℕ) → j < k + 1 → row_at n j ys ≡ row
one_more n k xs ys row within so_far put others = λ j lt. elim (cases_order j k) [
  | inl e ↦ ap (λ i. row_at n i ys) e ∙ put
  | inr o ↦ others j (omega arith) (λ e. elim o [ inl below ↦ absurd (omega arith) | inr above ↦ absurd (omega arith) ])
      ∙ so_far j (elim o as (λ _. j < k) [ inl below ↦ below | inr above ↦ absurd (omega arith) ])
]

-- the first row of all, which stands in each place
pub first_row : (n k : ℕ) (xs ys row : List Decimal) (filled : Bool) → k < 16 → filled ≡ false →
    (k ≡ 0) ⊎ (filled ≡ true)
    → ((j : ℕ) → j < 16 → row_at n j ys ≡ row) → first_rows n (k + 1) ys ≡ first_rows n k xs ++ row ∷ []
first_row n k xs ys row filled within unfilled (inl e) put =
    row_behind n k xs ys row (put k within) (λ j lt. absurd (omega arith))
first_row n k xs ys row filled within unfilled (inr was) put = absurd (let z : true ≡ false = sym was ∙ unfilled in cc)

-- ---- their lines
-- the line of one row more
pub one_put : (p : Program) (rows : List (List Decimal)) (row : List Decimal) (s : Step ℤ) (old mid new : List ℕ) →
    ArePut p rows old mid
    → machine_step p (map decimal_value row) [] ≡ Some s → s.next ≡ [] → new ≡ mid ++ step_line p s →
    ArePut p (rows ++ row ∷ []) old new
one_put p rows row s old mid new put made none line = (
  put.0 ++ step_line p s,
  line ∙ ap (λ t. t ++ step_line p s) put.1 ∙ append_assoc old put.0 (step_line p s),
  λ rest. ap (λ rs. lines_from p rs []) (append_assoc rows (row ∷ []) rest) ∙ put.2 (row ∷ rest)
      ∙ ap (λ t. put.0 ++ t) (line_next p row [] [] s made (sym none) rest)
      ∙ sym (append_assoc put.0 (step_line p s) (lines_from p rest [])),
)

-- the line of the next row
pub next_put : (p : Program) (n k : ℕ) (ds : List Decimal) (s : Step ℤ) (old mid new : List ℕ) →
    ArePut p (first_rows n k ds) old mid
    → machine_step p (map decimal_value (row_at n k ds)) [] ≡ Some s → s.next ≡ [] → new ≡ mid ++ step_line p s →
    ArePut p (first_rows n (k + 1) ds) old new
next_put p n k ds s old mid new put made none line =
    subst (λ rs. ArePut p rs old new) (sym (row_behind n k ds ds (row_at n k ds) refl (λ j lt. refl)))
    (one_put p (first_rows n k ds) (row_at n k ds) s old mid new put made none line)

-- where there are no states none are left
pub none_left : (p : Program) (ws : List ℤ) → p.states ≡ 0 → length ws ≡ length p.codes → (step_taken p ws).next ≡ []
none_left p ws none many =
    nil_from_length (step_taken p ws).next
    (omega (arith, length-drop p.outputs (drop (first_copy p) ws), length-drop (first_copy p) ws))

-- a row that is held back is one of those that were to come
pub row_held : (p : Program) (held now : List (List Decimal)) (row : List Decimal) → now ≡ held ++ row ∷ [] →
    (rest : List (List Decimal))
    → lines_from p (held ++ row ∷ rest) [] ≡ lines_from p (now ++ rest) []
row_held p held now row same rest =
    ap (λ rs. lines_from p rs []) (sym (append_assoc held (row ∷ []) rest) ∙ ap (λ rs. rs ++ rest) (sym same))

-- and there are none at the start
pub none_at_start : (a : Accepted) → IsCertified rewrite a.function a.program a.certificate
    → IsNear a.function a.program a.certificate (start_words a.program.codes) (start_state a.function) →
    a.program.states ≡ 0 → start_words a.program.codes ≡ []
none_at_start a certified start none =
    nil_from_length (start_words a.program.codes) (start.words
    ∙ sym (states_are rewrite a.function a.program a.certificate certified) ∙ none)

-- ---- where the rows stand
-- a slice as long as its list stands in its place
pub put_back : (len : ℕ) (xs ys : List Decimal) → length ys ≡ length xs → length xs ≡ len →
    take len (ys ++ drop (length ys) xs) ≡ ys
put_back len xs ys same full =
    ap (λ zs. take len (ys ++ zs)) (drop_all (length ys) xs (omega arith)) ∙ ap (take len) (append-nil ys)
    ∙ take_all len ys (omega arith)

-- the rows behind one that was put, told in other words
pub rows_are : (n m k j : ℕ) (xs us ys vs row : List Decimal) → m ≡ n → us ≡ xs → vs ≡ ys → j ≡ k + 1
    → first_rows m (k + 1) ys ≡ first_rows m k us ++ row ∷ [] → first_rows n j vs ≡ first_rows n k xs ++ row ∷ []
rows_are n m k j xs us ys vs row e f g h put =
    ap (λ i. first_rows n i vs) h ∙ ap (λ zs. first_rows n (k + 1) zs) g ∙ ap (λ i. first_rows i (k + 1) ys) (sym e)
    ∙ put
    ∙ ap (λ i. first_rows i k us ++ row ∷ []) e ∙ ap (λ zs. first_rows n k zs ++ row ∷ []) f

-- ---- the run
-- what comes of lines where none is held yet
pub held_outcome_is : (a b : Accepted) (held : ℕ) (ds : List Decimal) → a ≡ b → held ≡ 0 →
    start_words b.program.codes ≡ [] → RowsLaw b.function b.program b.certificate → (ls : List (List ℕ))
    → lines_outcome a.function (line_of (names_from 1 a.program.outputs))
    (λ rows. lines_from a.program (first_rows a.program.inputs held ds ++ rows) []) None ls
    ≡ run_outcome b.function b.program ls
held_outcome_is a b held ds same none start law ls =
    ap (λ k. lines_outcome a.function (line_of (names_from 1 a.program.outputs))
    (λ rows. lines_from a.program (first_rows a.program.inputs k ds ++ rows) []) None ls) none
    ∙ outcome_is a b [] same (sym start) law ls
