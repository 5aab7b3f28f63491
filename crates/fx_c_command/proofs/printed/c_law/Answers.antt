use Rattle.std.proofs.Common.{subst}
use Rattle.fx_model.specs.Machine.{Program}
use Rattle.fx_model.specs.Names.{IsName}
use Rattle.fx_rules.specs.Steps.{rewrite}
use Rattle.fx_widths.specs.LeastWidths.{least_widths}
use Rattle.fx_c_command.proofs.CRuns.{c_runs}
use Rattle.fx_c_command.proofs.printed.c_law.Goals as goal

pub returns-clause-source : goal.returns-clause-source
returns-clause-source c =
    let a = c.args.certified.now in let p = a.program in
    let certified = c.certified.ensures.certified in record {
      steps = c.text_law.ensures p (least_widths p a.certificate) certified.program
          (subst (λ (q : Program). IsName q.name) c.program.ensures c.keeps-2.ensures.name)
          (c.least_law.ensures rewrite a.function p a.certificate certified).0;
      runs = c_runs rewrite a.function p a.certificate c.in_range_law.ensures c.run_law.ensures
          c.certified_c_law.ensures (rw c.function.ensures at c.keeps.ensures.inputs) certified;
    }

pub returns-clause-header : goal.returns-clause-header
returns-clause-header c =
    let a = c.args.certified.now in
    c.header_law.ensures rewrite a.function a.program a.certificate c.certified.ensures.certified
    (rw c.function.ensures at c.keeps.ensures.inputs)
