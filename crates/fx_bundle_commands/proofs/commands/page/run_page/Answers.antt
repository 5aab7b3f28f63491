use Rattle.std.proofs.Common.{sym, ap}
use Rattle.fx_rows.specs.Faults.{row_fault_of}
use Rattle.fx_ends.specs.Ends as ends
use Rattle.fx_bundle_commands.specs.Tasks.{RunRows}
use Rattle.fx_bundle_commands.specs.commands.Rows.{all_run}
use Rattle.fx_bundle_commands.proofs.RowsEnds.{ran_input, taken_short, lines_bad, lines_unread, lines_unwritten, lines_long, lines_without_memory}
use Rattle.fx_bundle_commands.proofs.commands.page.run_page.Goals as goal

pub returns-in-Ok : goal.returns-in-Ok
returns-in-Ok g c = let r = c.in-Ok.ensures in
    ran_input (RunRows) c.args.certified.now _ r.ends (λ p. p) (λ source. record {
      law = r.honest;
      taken = taken_short _ _ _ _ (λ e. absurd cc) (λ e. absurd cc) r.ends.taken;
      rows = all_run _ r.ends.done r.ends.end;
    }) (λ quiet. quiet)

pub returns-in-Err-Row : goal.returns-in-Err-Row
returns-in-Err-Row g c = let r = c.in-Err-Row.ensures in
    ran_input (RunRows) c.args.certified.now _ r.ends (λ p. p)
    (λ source. lines_bad row_fault_of r.honest r.ends.taken r.ends.due c.in-Err-Row.field-0-is
    (ap (λ inputs. ends.BadRow inputs c.in-Err-Row.line (row_fault_of c.in-Err-Row.fault)) (sym c.inputs_of.ensures))
    (λ e. absurd cc)) (λ quiet. quiet)

pub returns-in-Err-ReadFault : goal.returns-in-Err-ReadFault
returns-in-Err-ReadFault g c = let r = c.in-Err-ReadFault.ensures in
    ran_input (RunRows) c.args.certified.now _ r.ends (λ p. p)
    (λ source. lines_unread row_fault_of r.honest r.ends.taken r.ends.due c.in-Err-ReadFault.field-0-is
    r.ends.read_fault) (λ quiet. quiet)

pub returns-in-Err-WriteFault : goal.returns-in-Err-WriteFault
returns-in-Err-WriteFault g c = let r = c.in-Err-WriteFault.ensures in
    ran_input (RunRows) c.args.certified.now _ r.ends (λ p. p)
    (λ source. lines_unwritten row_fault_of r.honest r.ends.taken r.ends.due c.in-Err-WriteFault.field-0-is
    r.ends.write_fault) (λ quiet. quiet)

pub returns-in-Err-TooLong : goal.returns-in-Err-TooLong
returns-in-Err-TooLong g c = let r = c.in-Err-TooLong.ensures in
    ran_input (RunRows) c.args.certified.now _ r.ends (λ p. p)
    (λ source. lines_long row_fault_of r.honest r.ends.taken r.ends.due c.in-Err-TooLong.field-0-is) (λ quiet. quiet)

pub returns-in-Err-Memory : goal.returns-in-Err-Memory
returns-in-Err-Memory g c = let r = c.in-Err-Memory.ensures in
    ran_input (RunRows) c.args.certified.now _ r.ends (λ p. p)
    (λ source. lines_without_memory row_fault_of r.honest r.ends.taken r.ends.due c.in-Err-Memory.field-0-is)
    (λ quiet. quiet)
