use Rattle.std.proofs.Common.{◌∙◌}
use Rattle.fx_c.proofs.Whole.{step_is}
use Rattle.fx_c.proofs.text.put_step.Goals as goal

pub returns : goal.returns
returns c =
    let p = c.program.inside in
    step_is c.args.program.now p.version p.width p.inputs p.states p.outputs p.name p.codes.items c.args.widths.now
    c.as_bytes-title.result.now c.args.out.now.items c.put_step_head.new.out.items c.put.new.out.items
    c.put_step_head-2.new.out.items c.put-2.new.out.items c.put_body.new.out.items c.put-3.new.out.items
    c.program.view_is (c.as_bytes-title.ensures.value ∙ c.as_str.ensures.text) c.in_ok-put_step_head.ensures
    c.in_ok-put.ensures c.in_ok-put_step_head-2.ensures c.in_ok-put-2.ensures c.in_ok-put_body.ensures
    c.in_ok-put-3.ensures
