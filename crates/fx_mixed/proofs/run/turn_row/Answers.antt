use Rattle.std.proofs.Common.{◌≡◌, ◌∙◌, ◌++◌, ℕ, List, ◌∷◌, length, sym, ap, subst}
use Rattle.fx_rational.specs.Decimal.{Decimal}
use Rattle.fx_model.specs.LawfulProgram.{HasLawfulCounts}
use Rattle.fx_model.specs.Machine.{Program, output_points}
use Rattle.fx_model.specs.Page.{line_of, word_texts}
use Rattle.fx_machine.specs.Steps.{step_taken}
use Rattle.fx_checker.specs.CertifiedView.{Accepted}
use Rattle.fx_run.specs.Steps.{lines_from}
use Rattle.fx_mixed.specs.Mixing.{states_among}
use Rattle.fx_mixed.proofs.Rows.{turned_line}
use Rattle.fx_mixed.proofs.run.turn_row.Goals as goal

pub put_words-requires-clause-words : goal.put_words-requires-clause-words
put_words-requires-clause-words c =
    let same : c.program.result.now ≡ c.turn.new.self.accepted.program = c.program.ensures
    ∙ ap (λ (a : Accepted). a.program) c.certified-3.ensures in
    c.keeps.ensures.counted ∙ ap (λ (p : Program). length p.codes) (sym same)

pub returns-clause-put : goal.returns-clause-put
returns-clause-put c =
    let a = c.args.mixed.now.accepted in let old = c.args.mixed.now.words in let new = c.turn.new.self.words in
    let counts =
    subst (λ (b : Accepted). HasLawfulCounts b.program) c.certified.ensures
    c.certified-2.ensures.certified.program.counts in
    let same : c.program.result.now ≡ a.program = c.program.ensures
    ∙ ap (λ (b : Accepted). b.program) (c.certified-3.ensures ∙ c.turn.ensures.accepted) in
    let line =
    subst (λ (p : Program). c.put_words.new.page ≡ c.args.page.now
    ++ line_of (word_texts (step_taken p new).outputs (output_points p))) same c.put_words.ensures.line in
    subst (λ (b : Accepted). (text : List ℕ) × (c.put_words.new.page ≡ c.args.page.now ++ text) ×
    ((rest : List (List Decimal)) →
    lines_from a.program (c.args.row.now ∷ rest) (states_among a.program old) ≡ text
    ++ lines_from b.program rest (states_among b.program new))) (sym c.turn.ensures.accepted)
    (turned_line a c.args.row.now old new c.args.page.now c.put_words.new.page counts c.turn.ensures.turned line)
