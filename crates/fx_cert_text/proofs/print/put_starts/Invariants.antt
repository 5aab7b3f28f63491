use Rattle.std.proofs.Common.{◌≡◌, ◌++◌, take}
use Rattle.std.specs.List.{flat_map}
use Rattle.fx_model.specs.LineText.{line_text}
use Rattle.fx_inequalities.specs.CertificateText.{start_fields}
use Rattle.fx_cert.specs.CertificateView.{box_of}
use Rattle.fx_cert_text.proofs.print.put_starts.Given as goal

abbrev pub invariant-loop-start : goal.invariant-loop-start
invariant-loop-start l =
    l.out.items ≡ l.fn.out.items ++ flat_map (λ x. line_text (start_fields (box_of x))) (take l.start-index l.starts)
