use Rattle.std.proofs.Common.{◌≡◌, ◌∷◌, [], ◌++◌, ◌∙◌, List, ℕ, length, ap, append_assoc, codes}
use Rattle.std.specs.Fmt.{decimal}
use Rattle.fx_model.specs.LineText.{line_text}
use Rattle.fx_model.specs.Machine as machine
use Rattle.fx_model.specs.ProgramText.{program_text}
use Rattle.fx_inequalities.specs.CertificateText.{certificate_text}
use Rattle.fx_program.proofs.Appended.{five}
use Rattle.fx_cert.specs.CertificateView.{certificate_of}
use Rattle.fx_cert_text.specs.Printing.{as_printed, source_front}
use Rattle.fx_cert_text.proofs.print.put_bundle.Goals as goal

regroup : (a b s n c p d t e : List ℕ) →
    (((((((a ++ b) ++ s) ++ (n ++ c)) ++ p) ++ d) ++ t) ++ e)
    ≡ ((((((((a ++ b) ++ s) ++ n) ++ c) ++ p) ++ d) ++ t) ++ e)
regroup a b s n c p d t e = simp append_assoc

pub returns : goal.returns
returns c =
    let v = c.args.program.now.version in let s = c.args.source.now in let p = program_text c.args.program.now in
    let t = certificate_text (as_printed (certificate_of c.args.certificate.now)) in
    five c.args.out.now.items c.put_source.new.out.items c.put_program.new.out.items c.begin_line.new.out.items
    c.put_certificate.new.out.items c.begin_line-2.new.out.items
    (source_front v s) p (line_text (codes "certificate" ∷ [])) t (line_text (codes "end" ∷ []))
    (c.in_ok-put_source.ensures
    ∙ ap (λ (k : ℕ). c.args.out.now.items ++ source_front k s)
    (ap (λ (q : machine.Program). q.version) c.program.view_is)) c.in_ok-put_program.ensures
    c.in_ok-begin_line.ensures c.in_ok-put_certificate.ensures c.in_ok-begin_line-2.ensures
    ∙ ap (λ t. c.args.out.now.items ++ t)
    (regroup (line_text (codes "fixd" ∷ codes "bundle" ∷ decimal v ∷ []))
    (line_text (codes "source" ∷ decimal (length s) ∷ [])) s (codes "\n") (line_text (codes "program" ∷ [])) p
    (line_text (codes "certificate" ∷ [])) t (line_text (codes "end" ∷ [])))
