use Rattle.fx_cert.specs.CertificateView.{templates_in}
use Rattle.fx_template.proofs.Counted.{templates_short, written_bounds, written_counted}
use Rattle.fx_template.proofs.find.passes.Goals as goal

pub are_kept-requires-clause-short : goal.are_kept-requires-clause-short
are_kept-requires-clause-short c =
    let k = c.args.t.now.states in let templates = templates_in c.args.templates.now in
    let h = c.are_templates.ensures c.if-are_templates.true in
    templates_short k templates (written_counted k templates h) (written_bounds k templates h)

pub returns-then-are_templates-clause-counted : goal.returns-then-are_templates-clause-counted
returns-then-are_templates-clause-counted c = λ _.
    written_counted c.args.t.now.states (templates_in c.args.templates.now)
    (c.are_templates.ensures c.if-are_templates.true)

pub returns-then-are_templates-clause-written : goal.returns-then-are_templates-clause-written
returns-then-are_templates-clause-written c = λ _.
    written_bounds c.args.t.now.states (templates_in c.args.templates.now)
    (c.are_templates.ensures c.if-are_templates.true)
