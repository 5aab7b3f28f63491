use Rattle.std.proofs.Common.{subst}
use Rattle.fx_model.specs.Machine.{Program}
use Rattle.fx_model.specs.Names.{IsName}
use Rattle.fx_rules.specs.Steps.{rewrite}
use Rattle.fx_widths.specs.LeastWidths.{least_widths}
use Rattle.fx_mixed.proofs.Runs.{gives_runs}
use Rattle.fx_mixed.proofs.text.text_law.Goals as goal

pub returns-clause-steps : goal.returns-clause-steps
returns-clause-steps c =
    let a = c.args.certified.now in let p = a.program in
    let lawful = c.certified.ensures.certified.program in
    (c.text_law.ensures p (least_widths p a.certificate) lawful
    (subst (λ (q : Program). IsName q.name) c.program.ensures c.keeps-2.ensures.name)
    (c.least_law.ensures rewrite a.function p a.certificate c.certified.ensures.certified).0).does

pub returns-clause-runs : goal.returns-clause-runs
returns-clause-runs c =
    let a = c.args.certified.now in
    gives_runs rewrite a.function a.program a.certificate c.in_range_law.ensures c.run_law.ensures
    c.certified_text_law.ensures
    (rw c.function.ensures at c.keeps.ensures.inputs) c.certified.ensures.certified
