use Rattle.fx_rules.specs.Steps.{rewrite}
use Rattle.fx_run.proofs.Honest.{honest}
use Rattle.fx_run.proofs.law.rows_law.Goals as goal

pub returns : goal.returns
returns c =
    let a = c.args.certified.now in
    honest rewrite a.function a.program a.certificate c.in_range_law.ensures c.rows_in_range_law.ensures
    c.run_law.ensures c.bound_law.ensures c.own_width_law.ensures.rows
    (rw c.function.ensures at c.keeps.ensures.inputs) c.certified.ensures.certified
