use Rattle.fx_rules.specs.Steps.{rewrite}
use Rattle.fx_run.proofs.HonestRun.{honest_run}
use Rattle.fx_node.specs.Events.{events_read, rows_of}
use Rattle.fx_node.proofs.law.units_law.Goals as goal

pub returns : goal.returns
returns c = λ units ls u.
    let a = c.args.certified.now in
    honest_run rewrite a.function a.program a.certificate c.in_range_law.ensures c.run_law.ensures c.bound_law.ensures
    c.own_width_law.ensures.rows (rw c.function.ensures at c.keeps.ensures.inputs) c.certified.ensures.certified
    (rows_of (events_read a.function units ls).given.events u) (c.events_in_range_law.ensures a.function units ls u)
