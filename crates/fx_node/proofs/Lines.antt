-- A line with one more field in front, and registers before the first row.
use Rattle.std.proofs.Common.{◌≡◌, ◌≤◌, ℕ, ℤ, List, [], ◌∷◌, ◌++◌, length, ap, sym, ◌∙◌, append_assoc, arith}
use Rattle.fx_model.specs.LawfulProgram.{IsLawfulProgram}
use Rattle.fx_model.specs.Machine.{Program, output_points}
use Rattle.fx_model.specs.Page.{line_of, names_from, word_texts}
use Rattle.fx_machine.specs.Steps.{step_taken}
use Rattle.fx_run.proofs.Fields.{fields_length, names_length}

-- the first field, a comma and the others
pub field_first : (field : List ℕ) (fields : List (List ℕ)) → 1 ≤ length fields →
    line_of (field ∷ fields) ≡ field ++ 44 ∷ line_of fields
field_first field [] some = absurd (omega arith)
field_first field (f ∷ fs) some = append_assoc field _ _

pub names_some : (p : Program) → IsLawfulProgram p → 1 ≤ length (names_from 1 p.outputs)
names_some p lawful = let some = lawful.counts.some_output in omega (arith, names_length 1 p.outputs)

pub texts_some : (p : Program) (ws : List ℤ) → IsLawfulProgram p → length ws ≡ length p.codes →
    1 ≤ length (word_texts (step_taken p ws).outputs (output_points p))
texts_some p ws lawful many = let some = lawful.counts.some_output in omega (arith, fields_length p ws lawful many)

-- a line behind other text, put as a field, a comma and the other fields
pub line_put : (page mid new field : List ℕ) (fields : List (List ℕ)) → 1 ≤ length fields →
    mid ≡ page ++ (field ++ 44 ∷ []) → new ≡ mid ++ line_of fields → new ≡ page ++ line_of (field ∷ fields)
line_put page mid new field fields some first rest =
    rest ∙ ap (λ t. t ++ line_of fields) first ∙ append_assoc page (field ++ 44 ∷ []) (line_of fields)
    ∙ ap (λ t. page ++ t) (append_assoc field (44 ∷ []) (line_of fields) ∙ sym (field_first field fields some))
