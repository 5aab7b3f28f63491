use Rattle.std.proofs.Common.{subst, sym}
use Rattle.fx_inequalities.specs.LawfulCertificate.{AreWrittenLines}
use Rattle.fx_cert.specs.CertificateView.{line_view}
use Rattle.fx_cert.proofs.Tested.{none_seen, rest_seen}
use Rattle.fx_cert.proofs.lawful.are_lines.Goals as goal

pub loop-n-preserved : goal.loop-n-preserved
loop-n-preserved c = λ rest.
    let f = c.args.frame in let n = c.loop-n.n in let yes = c.if-not-is_line.false in
    let split =
    rest_seen line_view c.args.lines.now n c.index-lines-n.result c.loop-n-test.true c.index-lines-n.is in
    c.loop-n.invariant (subst (AreWrittenLines f.variables f.templates f.error_templates n) (sym split) (
      (c.is_line.ensures.range yes, c.is_line.ensures.error yes, c.is_line.ensures.form yes),
      rest,
    ))

pub returns : goal.returns
returns c = λ _.
    let f = c.args.frame in let n = c.loop-n.n in
    c.loop-n.invariant (subst (AreWrittenLines f.variables f.templates f.error_templates n)
    (sym (none_seen line_view c.args.lines.now n c.loop-n-test.false)) tt)
