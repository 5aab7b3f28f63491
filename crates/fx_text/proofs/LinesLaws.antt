-- So many lines, each of which has one spelling, have one spelling together.
use Rattle.std.proofs.Common.{ℕ, ◌≡◌, ◌+◌, length, Result}
use Rattle.std.specs.List.{flat_map}
use Rattle.fx_model.specs.LineText.{line_text}
use Rattle.fx_text.specs.declared.fault.TextKind.{TextKind}
use Rattle.fx_text.specs.Cutting.{Line}
use Rattle.fx_text.specs.Many.{AreEach, numbered_line, lines_by}
use Rattle.fx_text.specs.Spelling.{IsOneSpelling}
use Rattle.fx_text.proofs.LineLaws.{IsLineOf, line_spelling}
use Rattle.fx_text.proofs.ManyLaws.{HasOneSpelling, many_spelling}

abbrev pub following : {A : Type 0} → ℕ → A → ℕ
following i _ = i + 1

numbered : {A : Type 0} (read : ℕ → Line → Result A TextKind) (fields : A → Line) (Is : ℕ → A → Type 0) →
    ((i : ℕ) → IsLineOf (read i) fields (Is i)) → (first : ℕ) →
    HasOneSpelling (numbered_line read first) following (λ x. line_text (fields x)) (λ _ _. Unit {0}) Is
unfolding numbered_line
numbered read fields Is law first =
    record { one = λ k i _. line_spelling (read i) fields (Is i) (law i) (first + i); keeps = λ k i a _ _. tt }

pub lines_spelling : {A : Type 0} (read : ℕ → Line → Result A TextKind) (fields : A → Line) (Is : ℕ → A → Type 0) →
    ((i : ℕ) → IsLineOf (read i) fields (Is i)) → (first count : ℕ)
    → IsOneSpelling (lines_by read first count) (flat_map (λ x. line_text (fields x))) (λ xs. (length xs ≡ count) ×
    AreEach Is following 0 xs)
unfolding lines_by
lines_spelling read fields Is law first count =
    many_spelling (numbered_line read first) following (λ x. line_text (fields x)) (λ _ _. Unit {0}) Is
    (numbered read fields Is law first) count 0 tt
