use Rattle.std.proofs.Common.{◌∙◌, ap, arith, length, Err}
use Rattle.fx_base.specs.Kinds.{OutputState}
use Rattle.fx_demo.proofs.Running.{not_over, whole-run}
use Rattle.fx_demo.proofs.demo.page_of.Goals as goal

pub returns-in-Ok : goal.returns-in-Ok
returns-in-Ok c =
    whole-run c.args.certified.now _ _ _ c.in-Ok.field-0 (c.new-rows.ensures
    ∙ c.in_ok-text.ensures) (ap (λ (o : OutputState). o.taken) c.new-page.ensures)
    c.in-Ok.ensures.honest c.in-Ok.ensures.ends.done

pub unreachable-requires-in-Err-TooLong : goal.unreachable-requires-in-Err-TooLong
unreachable-requires-in-Err-TooLong c =
    let e = c.in-Err-TooLong in let t = e.ensures.ends.taken in
    not_over _ t.0 _ _ t.1 (t.2.0 (ap Err e.field-0-is))
    (omega (arith, ap length c.new-rows.ensures))
