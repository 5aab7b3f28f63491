use Rattle.std.proofs.Common.{◌∙◌, ap}
use Rattle.std.proofs.lemmas.List.{map_push}
use Rattle.fx_template.specs.AffineView.{planned}
use Rattle.fx_cert.specs.CertificateView.{line_view, lines_view}
use Rattle.fx_template.specs.Transitions.{planned_line}
use Rattle.fx_template.proofs.Lists.{tabulate_more}
use Rattle.fx_template.proofs.planned.planned_lines.Goals as goal

pub loop-n-preserved : goal.loop-n-preserved
loop-n-preserved c =
    let p = planned c.args.plan.now in let line = c.in_ok-line.line in
    ap lines_view c.in_ok-push.ensures.items ∙ map_push line_view c.loop-n.lines.items line
    ∙ tabulate_more (planned_line p) (lines_view c.loop-n.lines.items) c.loop-n.n
    (line_view line) c.loop-n.invariant c.in_ok-line.ensures
