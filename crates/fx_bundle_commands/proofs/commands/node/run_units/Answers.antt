use Rattle.std.proofs.Common.{◌≢◌, ◌∙◌, List, ℕ, sym, ap}
use Rattle.fx_node.specs.Events.{LineFlaw, InRow, InUnit}
use Rattle.fx_node.specs.Faults.{flaw_of}
use Rattle.fx_model.specs.Function.{Input}
use Rattle.fx_bundle_commands.specs.Tasks.{RunUnits}
use Rattle.fx_bundle_commands.specs.commands.Node.{bad_end}
use Rattle.fx_bundle_commands.specs.commands.Rows.{all_run}
use Rattle.fx_ends.specs.Ends as ends
use Rattle.fx_bundle_commands.proofs.RowsEnds.{ran_input, taken_short, lines_bad, lines_unread, lines_unwritten, lines_long, lines_without_memory}
use Rattle.fx_bundle_commands.proofs.commands.node.run_units.Goals as goal

-- a bad line is no long input
not_over : (inputs : List Input) (line : ℕ) (flaw : LineFlaw) → bad_end inputs line flaw ≢ ends.OverLimit
not_over inputs line (InRow fault) = λ e. absurd cc
not_over inputs line (InUnit kind) = λ e. absurd cc

pub returns-in-Ok : goal.returns-in-Ok
returns-in-Ok g c = let r = c.in-Ok.ensures in
    ran_input (RunUnits c.args.units) c.args.certified.now _ r.ends (λ p. p) (λ source. record {
      law = r.honest;
      taken = taken_short _ _ _ _ (λ e. absurd cc) (λ e. absurd cc) r.ends.taken;
      rows = all_run _ r.ends.done r.ends.end;
    }) (λ quiet. quiet)

pub returns-in-Err-Row : goal.returns-in-Err-Row
returns-in-Err-Row g c =
    let r = c.in-Err-Row.ensures in let line = c.in-Err-Row.line in let flaw = flaw_of c.in-Err-Row.fault in
    let is = ap (λ inputs. bad_end inputs line flaw) (sym c.inputs_of.ensures) ∙ sym c.end_of_line.ensures.value in
    ran_input (RunUnits c.args.units) c.args.certified.now _ r.ends (λ p. p)
    (λ source. lines_bad flaw_of r.honest r.ends.taken r.ends.due c.in-Err-Row.field-0-is is
    (λ e. not_over c.args.certified.now.function.inputs line flaw (is ∙ e))) c.end_of_line.ensures.loud

pub returns-in-Err-ReadFault : goal.returns-in-Err-ReadFault
returns-in-Err-ReadFault g c = let r = c.in-Err-ReadFault.ensures in
    ran_input (RunUnits c.args.units) c.args.certified.now _ r.ends (λ p. p)
    (λ source. lines_unread flaw_of r.honest r.ends.taken r.ends.due c.in-Err-ReadFault.field-0-is r.ends.read_fault)
    (λ quiet. quiet)

pub returns-in-Err-WriteFault : goal.returns-in-Err-WriteFault
returns-in-Err-WriteFault g c = let r = c.in-Err-WriteFault.ensures in
    ran_input (RunUnits c.args.units) c.args.certified.now _ r.ends (λ p. p)
    (λ source. lines_unwritten flaw_of r.honest r.ends.taken r.ends.due c.in-Err-WriteFault.field-0-is
    r.ends.write_fault) (λ quiet. quiet)

pub returns-in-Err-TooLong : goal.returns-in-Err-TooLong
returns-in-Err-TooLong g c = let r = c.in-Err-TooLong.ensures in
    ran_input (RunUnits c.args.units) c.args.certified.now _ r.ends (λ p. p)
    (λ source. lines_long flaw_of r.honest r.ends.taken r.ends.due c.in-Err-TooLong.field-0-is) (λ quiet. quiet)

pub returns-in-Err-Memory : goal.returns-in-Err-Memory
returns-in-Err-Memory g c = let r = c.in-Err-Memory.ensures in
    ran_input (RunUnits c.args.units) c.args.certified.now _ r.ends (λ p. p)
    (λ source. lines_without_memory flaw_of r.honest r.ends.taken r.ends.due c.in-Err-Memory.field-0-is)
    (λ quiet. quiet)
