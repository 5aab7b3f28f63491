use Rattle.std.proofs.Common.{◌≡◌, take, eqb}
use Rattle.std.specs.List.{count_by}
use Rattle.fx_cert_text.proofs.bundle_text.source_lines.Given as goal

abbrev pub invariant-loop-byte : goal.invariant-loop-byte
invariant-loop-byte l = l.lines ≡ count_by (λ b. eqb b 10) (take l.byte-index l.source)
