use Rattle.std.proofs.Common.{All, length, take, drop}
use Rattle.fx_inequalities.specs.LawfulCertificate.{AreUnitTemplates, IsWrittenTemplate}
use Rattle.fx_cert.specs.CertificateView.{template_view, templates_in}
use Rattle.fx_cert.proofs.lawful.are_templates.Given as goal

-- those so far are written, and where what is left has its unit templates, all of it does
abbrev pub invariant-loop-i : goal.invariant-loop-i
invariant-loop-i l = record {
  each :
      All (λ r. IsWrittenTemplate l.fn.states (length l.fn.templates) (template_view r)) (take l.i l.fn.templates);
  units : AreUnitTemplates l.fn.states l.i (drop l.i (templates_in l.fn.templates)) →
      AreUnitTemplates l.fn.states 0 (templates_in l.fn.templates);
}
