use Rattle.std.proofs.Common.{◌≡◌, ◌++◌, ◌∷◌, [], inl}
use Rattle.std.proofs.lemmas.Result.{err_from_is_err_and}
use Rattle.std.proofs.lemmas.List.Elements.{All-push}
use Rattle.fx_rational.specs.Dyadic.{IsWritten}
use Rattle.fx_text.specs.Reading.{dyadic_at}
use Rattle.fx_text.specs.Many.{dyadics_at}
use Rattle.fx_text.proofs.ManyLaws.{many_goes_on, many_ends, many_is_done}
use Rattle.fx_text.proofs.field.dyadics.Goals as goal

pub returns-in_err-d-clause-value : goal.returns-in_err-d-clause-value
returns-in_err-d-clause-value c =
    let p = err_from_is_err_and c.from_residual.result c.from_residual.ensures.1 in
    rw (p.1, p.2) (many_ends (λ _ fields. dyadic_at fields)
    (λ _ _. tt) c.loop.found.items c.args.count c.loop.counter tt c.loop.fields c.in_err-d.field-0.0
    (dyadics_at c.args.count c.args.fields.now) c.loop-test.true
    (inl c.in_err-d.ensures.value) c.loop.invariant.so_far)

pub loop-preserved : goal.loop-preserved
loop-preserved c =
    let items : c.push.new.self.items ≡ c.loop.found.items ++ c.in_ok-d.d ∷ [] = c.in_ok-push.ensures.items in
    record {
      so_far =
          rw items (many_goes_on (λ _ fields. dyadic_at fields)
          (λ _ _. tt) c.loop.found.items c.args.count c.loop.counter tt c.loop.fields c.in_ok-d.d c.dyadic.new.fields
          (dyadics_at c.args.count c.args.fields.now) c.loop-test.true c.in_ok-d.ensures.value c.loop.invariant.so_far);
      written =
          rw items (All-push IsWritten c.loop.found.items c.in_ok-d.d c.loop.invariant.written
          c.in_ok-d.ensures.written);
    }

pub returns-clause-value : goal.returns-clause-value
returns-clause-value c =
    many_is_done (λ _ fields. dyadic_at fields)
    (λ _ _. tt) c.loop.found.items c.args.count c.loop.counter tt c.loop.fields
    (dyadics_at c.args.count c.args.fields.now) c.loop-test.false c.loop.invariant.so_far
