-- What a turn asks of words that are stored, and what it leaves; the line that it prints.
use Rattle.std.proofs.Common.{◌≡◌, ℕ, ℤ, pos, List, ◌∷◌, ◌++◌, length, map, ap, subst, ◌∙◌, arith, All}
use Rattle.std.proofs.lemmas.List.{get_or_default}
use Rattle.fx_rational.specs.Decimal.{Decimal, decimal_value}
use Rattle.fx_model.specs.Tree.{at}
use Rattle.fx_model.specs.Machine.{IsWord, output_points}
use Rattle.fx_model.specs.Page.{line_of, word_texts}
use Rattle.fx_model.specs.LawfulProgram.{HasLawfulCounts}
use Rattle.fx_model.proofs.Words.{words_length}
use Rattle.fx_inequalities.specs.Rewriting.{Rewrites}
use Rattle.fx_machine.specs.Steps.{step_taken}
use Rattle.fx_machine.proofs.Codes.{wider}
use Rattle.fx_sound.specs.Soundness.{IsCertified}
use Rattle.fx_checker.specs.CertifiedView.{Accepted}
use Rattle.fx_widths.proofs.Least.{least}
use Rattle.fx_run.specs.Steps.{lines_from, step_line}
use Rattle.fx_run.proofs.Honest.{line_next}
use Rattle.fx_mixed.specs.Mixing.{IsStored, IsTurned, states_among, widths_of}
use Rattle.fx_mixed.proofs.Carried.{carried_outputs, carried_states}

-- ---- words that are stored
module _ (rewrite : Rewrites) (a : Accepted) (certified : IsCertified rewrite a.function a.program a.certificate)
    (ns : List ℕ) (ws : List ℤ) (stored : IsStored a ns ws) where
  pub widths_counted : length ns ≡ length a.program.codes
  widths_counted = ap length stored.widths ∙ (least rewrite a.function a.program a.certificate certified).0.each

  -- each is a word of the program's width
  pub all_words : All (IsWord a.program.width) ws
  all_words k d lt =
      let many = stored.mixed.counted in
      let each = (least rewrite a.function a.program a.certificate certified).0.each in
      let most = (least rewrite a.function a.program a.certificate certified).0.most k (omega arith) in
      subst (IsWord a.program.width) (get_or_default ws k (pos 0) d lt)
      (wider (at 0 (widths_of a) k) a.program.width (at (pos 0) ws k) most (stored.mixed.fit k lt))

-- ---- the line of a turn
pub turned_line : (a : Accepted) (row : List Decimal) (before after : List ℤ) (old new : List ℕ) →
    HasLawfulCounts a.program → IsTurned a (map decimal_value row) before after
    → new ≡ old ++ line_of (word_texts (step_taken a.program after).outputs (output_points a.program))
    → (text : List ℕ) × (new ≡ old ++ text) ×
    ((rest : List (List Decimal)) →
    lines_from a.program (row ∷ rest) (states_among a.program before) ≡ text
    ++ lines_from a.program rest (states_among a.program after))
turned_line a row before after old new counts turned line =
    let p = a.program in let s = step_taken p turned.made in
    let many = words_length p (map decimal_value row) (states_among p before) turned.made turned.are in
    let outputs : (step_taken p after).outputs ≡ s.outputs = ap (λ ws. (step_taken p ws).outputs) turned.after_is
    ∙ carried_outputs p turned.made counts many in
    let next : states_among p after ≡ s.next = ap (states_among p) turned.after_is
    ∙ carried_states p turned.made counts many in (
      step_line p s,
      line ∙ ap (λ os. old ++ line_of (word_texts os (output_points p))) outputs,
      line_next p row (states_among p before) (states_among p after) s turned.step next,
    )
