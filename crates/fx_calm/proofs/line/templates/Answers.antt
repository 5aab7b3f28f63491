use Rattle.fx_calm.proofs.Templates.{template_more}
use Rattle.fx_calm.proofs.line.templates.Goals as goal

pub loop-i-preserved : goal.loop-i-preserved
loop-i-preserved c =
    template_more c.args.states c.args.bound c.loop-i.i c.loop-i.templates.items c.push.new.self.items
    c.in_ok-template.field-0 c.loop-i.invariant c.in_ok-template.ensures c.in_ok-push.ensures.items
