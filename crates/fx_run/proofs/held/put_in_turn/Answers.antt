use Rattle.std.proofs.Common.{◌≡◌, [], map, Some, arith, ap, subst, ◌∙◌}
use Rattle.fx_rational.specs.Decimal.{decimal_value}
use Rattle.fx_model.specs.Machine.{machine_step}
use Rattle.fx_machine.specs.Steps.{step_taken}
use Rattle.fx_lanes.specs.RowsSideBySide.{row_at}
use Rattle.fx_run.proofs.Blocks.{next_put, none_left}
use Rattle.fx_run.proofs.held.put_in_turn.Goals as goal

pub loop-k-preserved : goal.loop-k-preserved
loop-k-preserved g c =
    let p = c.args.certified.now.program in let n = p.inputs in let k = c.loop-k.k in let rows = c.args.rows.now in
    let s = step_taken p c.run_row.new.registers.words in
    let row : c.row_of.result.now ≡ row_at n k rows = c.row_of.ensures
    ∙ ap (λ m. row_at m k rows) c.input_count-n.ensures.value in
    let made : machine_step p (map decimal_value (row_at n k rows)) [] ≡ Some s =
    subst (λ r. machine_step p (map decimal_value r) [] ≡ Some s) row
    (subst (λ z. machine_step p (map decimal_value c.row_of.result.now) z
    ≡ Some s) c.loop-k.invariant.none c.run_row.ensures.step) in
    let left = none_left p c.run_row.new.registers.words c.requires.states c.run_row.ensures.ready.words in
    record {
      put =
          next_put p n k rows s c.args.page.now c.loop-k.page c.run_row.new.page c.loop-k.invariant.put made left
          c.run_row.ensures.line;
      short = omega (arith, c.loop-k.invariant.short, c.run_row.ensures.short);
      ready = c.run_row.ensures.ready;
      none = c.run_row.ensures.states ∙ left;
    }
