use Rattle.std.proofs.Common.{◌≡◌, ◌∙◌, List, ℕ, Ok, Err, Result, sym, ap, inl, refl}
use Rattle.std.proofs.lemmas.Result.{err_from_is_err_and}
use Rattle.fx_text.specs.declared.fault.TextFault.{TextFault}
use Rattle.fx_text.specs.Lines.{text_ended_at}
use Rattle.fx_model.specs.Steps.{◌>>=◌}
use Rattle.fx_cert_text.specs.BundleView.{Parts}
use Rattle.fx_cert.specs.CertificateView.{certificate_of}
use Rattle.fx_cert_text.proofs.BundleLaws.{by_parts}
use Rattle.fx_cert_text.proofs.bundle_text.parts_in.Goals as goal

-- what stands behind the parts
ended : (r : Result (List ℕ) TextFault) (b : Parts) (x : List ℕ) → r ≡ Ok x → (r >>= λ _. Ok b) ≡ Ok b
ended (Ok y) b x e = refl
ended (Err d) b x e = absurd cc

not_ended : (r : Result (List ℕ) TextFault) (b : Parts) (d : TextFault) → r ≡ Err d → (r >>= λ _. Ok b) ≡ Err d
not_ended (Ok y) b d e = absurd cc
not_ended (Err f) b d e = ap (λ (f : TextFault). Err f) cc

pub returns-in_err-text_ended : goal.returns-in_err-text_ended
returns-in_err-text_ended c =
    let p = err_from_is_err_and c.from_residual-in_err-text_ended.result c.from_residual-in_err-text_ended.ensures.1 in
    let k = c.in_ok-program in
    let all =
    by_parts c.args.bytes.now c.in_ok-version.version c.in_ok-version.rest.now c.in_ok-source.source.now
    c.in_ok-source.rest.now k.program
    (certificate_of k.certificate) k.rest.now k.line c.source_lines.result c.in_ok-version.ensures
    c.in_ok-source.ensures.value c.source_lines.ensures.lines k.ensures.value k.ensures.line in
    rw (p.1, p.2) (inl (all
    ∙ not_ended (text_ended_at k.line k.rest.now) (record {
      source = c.in_ok-source.source.now;
      program = k.program;
      certificate = certificate_of k.certificate;
    }) c.in_err-text_ended.field-0.0 c.in_err-text_ended.ensures))

pub returns : goal.returns
returns c =
    let k = c.in_ok-program in
    let all =
    by_parts c.args.bytes.now c.in_ok-version.version c.in_ok-version.rest.now c.in_ok-source.source.now
    c.in_ok-source.rest.now k.program
    (certificate_of k.certificate) k.rest.now k.line c.source_lines.result c.in_ok-version.ensures
    c.in_ok-source.ensures.value c.source_lines.ensures.lines k.ensures.value k.ensures.line in
    all ∙ ended (text_ended_at k.line k.rest.now) (record {
      source = c.in_ok-source.source.now;
      program = k.program;
      certificate = certificate_of k.certificate;
    }) _ c.in_ok-text_ended.ensures
    ∙ ap (λ s. Ok (record { source = s; program = k.program; certificate = certificate_of k.certificate }))
    (sym c.in_ok-copied.ensures)
