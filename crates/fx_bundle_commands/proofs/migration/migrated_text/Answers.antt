use Rattle.std.proofs.Common.{◌≡◌, ◌∙◌, ap, sym, subst}
use Rattle.std.proofs.lemmas.Result.{IfOk-weaker}
use Rattle.fx_model.specs.Versions.{second_version}
use Rattle.fx_inequalities.specs.CertificateText.{bundle_text}
use Rattle.fx_inequalities.specs.LawfulCertificate.{IsLawfulCertificate}
use Rattle.fx_bundle_commands.proofs.migration.migrated_text.Goals as goal

pub returns : goal.returns
returns c =
    let same = c.certificate-certificate.ensures in let source = c.as_slice.ensures in
    let second : c.in_ok-program.program ≡ second_version c.args.opened.now.certified.program = c.in_ok-program.ensures
    ∙ ap second_version c.program.ensures in
    record {
      text = IfOk-weaker c.print_bundle.result _ _ (λ text e. e ∙ (λ i. bundle_text (source i) (second i) (same i)))
          (c.print_bundle.ensures.text
          (subst IsLawfulCertificate (sym same) c.certified.ensures.certified.certificate));
    }
