-- A page with rows ends with the line of the last, behind the header's.
use Rattle.std.proofs.Common.{◌≡◌, ◌≤◌, ℕ, ℤ, List, [], ◌∷◌, ◌++◌, length, Option, Some, None, append_assoc, append-nil, ap, sym, subst, ◌∙◌, arith}
use Rattle.std.specs.Option.{option_map, option_and_then}
use Rattle.std.specs.List.{join_with_byte}
use Rattle.fx_rational.specs.Rational.{Rational}
use Rattle.fx_model.specs.Function.{Run, Step, run_of}
use Rattle.fx_model.specs.Machine.{Program, output_points}
use Rattle.fx_model.specs.Page.{line_of, names_from, page, page_lines, word_texts}
use Rattle.fx_demo.specs.LastLine.{HasTwoLines}

-- ---- the lines of rows end with a line feed
fed : (fs : List ℤ) (ws : List ℤ) (rows : List (List ℤ)) →
    (text : List ℕ) × (page_lines fs (ws ∷ rows) ≡ text ++ 10 ∷ [])
fed fs ws [] = (join_with_byte 44 (word_texts ws fs), append-nil (line_of (word_texts ws fs)))
fed fs ws (vs ∷ rows) =
    let e = fed fs vs rows in let line = line_of (word_texts ws fs) in
    (line ++ e.0, ap (λ t. line ++ t) e.1 ∙ sym (append_assoc line e.0 (10 ∷ [])))

pub two_lines : (p : Program) (rows : List (List ℤ)) → 1 ≤ length rows → HasTwoLines (page p rows)
two_lines p [] some = absurd (omega arith)
two_lines p (ws ∷ rows) some =
    let header = join_with_byte 44 (names_from 1 p.outputs) in let e = fed (output_points p) ws rows in record {
      before = header;
      more = e.0;
      parts = ap (λ t. (header ++ 10 ∷ []) ++ t) e.1 ∙ append_assoc header (10 ∷ []) (e.0 ++ 10 ∷ [])
          ∙ sym (append_assoc header (10 ∷ e.0) (10 ∷ []));
    }

-- ---- a run over rows has outputs
abbrev with_outputs : {A : Type 0} → Step A → Run A → Run A
with_outputs s r = record { outputs = s.outputs ∷ r.outputs; last = r.last }

outputs_behind : {A : Type 0} (s : Step A) (more : Option (Run A)) (r : Run A) →
    option_map (with_outputs s) more ≡ Some r → 1 ≤ length r.outputs
outputs_behind s None r e = absurd cc
outputs_behind s (Some q) r e = let is : with_outputs s q ≡ r = cc in subst (λ (x : Run _). 1 ≤ length x.outputs) is (omega arith)

outputs_of : {A : Type 0} (made : Option (Step A)) (more : Step A → Option (Run A)) (r : Run A) →
    option_and_then (λ s. option_map (with_outputs s) (more s)) made ≡ Some r → 1 ≤ length r.outputs
outputs_of None more r e = absurd cc
outputs_of (Some s) more r e = outputs_behind s (more s) r e

pub run_outputs : {A : Type 0} (step : List Rational → List A → Option (Step A)) (rows : List (List Rational)) (x : List A)
    (r : Run A) → 1 ≤ length rows → run_of step rows x ≡ Some r → 1 ≤ length r.outputs
run_outputs step [] x r some e = absurd (omega arith)
run_outputs step (row ∷ rows) x r some e = outputs_of (step row x) (λ s. run_of step rows s.next) r e
