use Rattle.std.proofs.Common.{◌≡◌, ◌+◌, ◌*◌, ◌≤◌, ◌++◌, length, drop}
use Rattle.fx_model.specs.Machine.{output_points}
use Rattle.fx_model.specs.Page.{line_of, word_texts}
use Rattle.fx_machine.specs.Steps.{step_taken}
use Rattle.fx_run.proofs.Fields.{rest_of_line}
use Rattle.fx_run.proofs.words.put_words.Given as goal

abbrev pub invariant-loop-j : goal.invariant-loop-j
invariant-loop-j g l =
    let all = word_texts (step_taken l.program (g.W.StepWords.words l.step)).outputs (output_points l.program) in
    record {
      line : l.page ++ rest_of_line (drop l.j all) ≡ l.initial.page ++ line_of all;
      short : length l.page ≤ length l.initial.page + 129 * l.j;
    }
