use Rattle.std.proofs.Common.{◌≡◌, ◌-◌, ◌≤◌}
use Rattle.fx_text.specs.Many.{many, with_front}
use Rattle.fx_cert.specs.CertificateView.{shares_of}
use Rattle.fx_cert_text.specs.FieldReading.{share_at, above}
use Rattle.fx_cert_text.proofs.share.shares_of_count.Given as goal

abbrev pub invariant-loop : goal.invariant-loop
invariant-loop l = record {
  so_far : with_front (shares_of l.found.items) (many (share_at l.end) above (l.count - l.counter) l.least l.fields)
      ≡ many (share_at l.end) above l.count 0 l.fn.fields;
  least : l.least ≤ l.end;
}
