use Rattle.std.proofs.Common.{drop}
use Rattle.fx_inequalities.specs.LawfulCertificate.{AreWrittenLines}
use Rattle.fx_cert.specs.CertificateView.{lines_view}
use Rattle.fx_cert.proofs.lawful.are_lines.Given as goal

-- where what is left is written, all of it is
abbrev pub invariant-loop-n : goal.invariant-loop-n
invariant-loop-n l =
    let f = l.fn.frame in
    AreWrittenLines f.variables f.templates f.error_templates l.n (drop l.n (lines_view l.fn.lines)) →
    AreWrittenLines f.variables f.templates f.error_templates 0 (lines_view l.fn.lines)
