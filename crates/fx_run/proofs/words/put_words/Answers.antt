use Rattle.std.proofs.Common.{◌≡◌, ◌+◌, ◌<◌, ◌++◌, ap, sym, subst, ◌∙◌, drop, rules, arith}
use Rattle.std.specs.Int.{w32, w64}
use Rattle.std.proofs.lemmas.Bool.Decides.{nat_tests}
use Rattle.std.proofs.lemmas.Int.{to_z-of_z}
use Rattle.fx_model.specs.Machine.{output_points}
use Rattle.fx_model.specs.LawfulProgram.{IsPoint}
use Rattle.fx_model.specs.Page.{line_of, word_texts}
use Rattle.fx_machine.specs.Steps.{step_taken}
use Rattle.fx_run.proofs.Fields.{rest_of_line, field_put, no_field, all_fields, fields_length, text_told, output_point_at}
use Rattle.fx_run.proofs.words.put_words.Goals as goal

pub loop-j-init : goal.loop-j-init
loop-j-init g c =
    let p = c.args.program.now in let ws = g.W.StepWords.words c.args.step.now in
    let lawful = c.output_count-count.ensures.lawful in let some = lawful.counts.some_output in
    let many = fields_length p ws lawful c.requires.words in
    record {
      line =
          ap (λ t. c.args.page.now ++ t)
          (no_field (word_texts (step_taken p ws).outputs (output_points p)) (omega arith));
      short = omega arith;
    }

pub put_word-requires-clause-point : goal.put_word-requires-clause-point
put_word-requires-clause-point g c =
    let p = c.args.program.now in
    let lt : c.loop-j.j < p.outputs =
    grind (arith, nat_tests, c.loop-j-test.true, c.output_count-count.ensures.value) in
    let point = to_z-of_z w32 c.output_at-word.result.1 (search rules) ∙ c.output_at-word.ensures.point in
    subst IsPoint (sym point) (output_point_at p c.loop-j.j c.output_count-count.ensures.lawful lt)

pub loop-j-preserved : goal.loop-j-preserved
loop-j-preserved g c =
    let p = c.args.program.now in let ws = g.W.StepWords.words c.args.step.now in let j = c.loop-j.j in
    let lawful = c.output_count-count.ensures.lawful in
    let all = word_texts (step_taken p ws).outputs (output_points p) in
    let count : c.output_count-count.result ≡ p.outputs = c.output_count-count.ensures.value in
    let lt : j < p.outputs = grind (arith, nat_tests, c.loop-j-test.true, count) in
    let below : j < c.output_count-count.result = omega (arith, lt, count) in
    let word = to_z-of_z w64 c.output_at-word.result.0 (search rules) ∙ c.output_at-word.ensures.word in
    let point = to_z-of_z w32 c.output_at-word.result.1 (search rules) ∙ c.output_at-word.ensures.point in
    let text = text_told p ws j lawful c.requires.words lt word point in
    record {
      line = ap (λ t. t ++ rest_of_line (drop (j + 1) all)) c.put_word.ensures.written
          ∙ field_put all c.output_count-count.result j _ c.loop-j.page c.args.page.now
          (fields_length p ws lawful c.requires.words ∙ sym count) below
          text c.loop-j.invariant.line;
      short = omega (arith, c.loop-j.invariant.short, c.put_word.ensures.short);
    }

pub returns-clause-line : goal.returns-clause-line
returns-clause-line g c =
    let p = c.args.program.now in let ws = g.W.StepWords.words c.args.step.now in
    let all = word_texts (step_taken p ws).outputs (output_points p) in
    let count : c.output_count-count.result ≡ p.outputs = c.output_count-count.ensures.value in
    let end : c.loop-j.j ≡ p.outputs = grind (arith, nat_tests, c.loop-j-test.false, c.loop-j.auto.j-end, count) in
    all_fields all p.outputs (c.loop-j.page) (c.args.page.now ++ line_of all)
    (fields_length p ws c.output_count-count.ensures.lawful c.requires.words)
    (ap (λ k. c.loop-j.page ++ rest_of_line (drop k all)) (sym end) ∙ c.loop-j.invariant.line)
