use Rattle.std.proofs.Common.{◌≡◌, ◌<◌, ◌++◌, arith, subst, ◌∙◌}
use Rattle.std.proofs.lemmas.List.{length-map}
use Rattle.std.proofs.lemmas.Bool.Decides.{nat_tests}
use Rattle.fx_model.specs.Machine.{Program}
use Rattle.fx_machine.specs.Steps.{step_taken}
use Rattle.fx_lanes.specs.RowsSideBySide.{lane}
use Rattle.fx_run.specs.Steps.{step_line}
use Rattle.fx_run.proofs.Blocks.{next_put, none_left}
use Rattle.fx_run.proofs.held.put_side_by_side.Goals as goal

pub loop-k-preserved : goal.loop-k-preserved
loop-k-preserved g c =
    let p = c.args.certified.now.program in let k = c.loop-k.k in let rows = c.args.rows.now in
    let made = c.certified_lanes.new.registers in let words = lane k made in
    let lt : k < 16 = grind (arith, nat_tests, c.loop-k-test.true, c.requires.few) in
    let left = none_left p words c.requires.states (length-map made _ ∙ c.certified_lanes.ensures.sizes) in
    let line =
    subst (λ (q : Program). c.put_words.new.page ≡ c.loop-k.page
    ++ step_line q (step_taken q words)) c.program.ensures c.put_words.ensures.line in
    record {
      put =
          next_put p p.inputs k rows
          (step_taken p words) c.args.page.now c.loop-k.page c.put_words.new.page c.loop-k.invariant.put
          (c.certified_lanes.ensures.step k lt) left line;
      short = omega (arith, c.loop-k.invariant.short, c.put_words.ensures.short);
    }
