use Rattle.std.proofs.Common.{◌≡◌, ◌++◌, ◌∷◌, [], ◌∙◌, ap, inl, arith}
use Rattle.std.proofs.lemmas.Result.{err_from_is_err_and}
use Rattle.std.proofs.lemmas.List.{map-append}
use Rattle.fx_text.specs.Many.{many}
use Rattle.fx_text.proofs.ManyLaws.{many_goes_on, many_ends, many_is_done}
use Rattle.fx_cert.specs.CertificateView.{share_of, shares_of}
use Rattle.fx_cert_text.specs.FieldReading.{share_at, above}
use Rattle.fx_cert_text.proofs.share.shares_of_count.Goals as goal

pub returns-in_err-next : goal.returns-in_err-next
returns-in_err-next c =
    let p = err_from_is_err_and c.from_residual.result c.from_residual.ensures.1 in let a = c.args in
    rw (p.1, p.2) (many_ends (share_at a.end) above
    (shares_of c.loop.found.items) a.count c.loop.counter c.loop.least c.loop.fields c.in_err-next.field-0.0
    (many (share_at a.end) above a.count 0 a.fields.now) c.loop-test.true
    (inl c.in_err-next.ensures.value) c.loop.invariant.so_far)

pub loop-preserved : goal.loop-preserved
loop-preserved c =
    let a = c.args in let next = c.in_ok-next.next in
    let items : c.push.new.self.items ≡ c.loop.found.items ++ next ∷ [] = c.in_ok-push.ensures.items in
    let seen = ap shares_of items ∙ map-append share_of c.loop.found.items (next ∷ []) in
    record {
      so_far =
          rw seen (many_goes_on (share_at a.end) above
          (shares_of c.loop.found.items) a.count c.loop.counter c.loop.least c.loop.fields
          (share_of next) c.share.new.fields
          (many (share_at a.end) above a.count 0 a.fields.now) c.loop-test.true c.in_ok-next.ensures.value
          c.loop.invariant.so_far);
      least = omega (arith, c.in_ok-next.ensures.template);
    }

pub returns : goal.returns
returns c =
    many_is_done (share_at c.args.end) above
    (shares_of c.loop.found.items) c.args.count c.loop.counter c.loop.least c.loop.fields
    (many (share_at c.args.end) above c.args.count 0 c.args.fields.now) c.loop-test.false c.loop.invariant.so_far
