use Rattle.std.proofs.Common.{◌<◌, ◌∙◌, ap, ◌++◌, sym, subst, append_assoc, arith}
use Rattle.std.proofs.KnownBytes.{Appends-trans}
use Rattle.fx_base.specs.Calls.{AppendsFront}
use Rattle.fx_ends.proofs.Noted.{front_more, front_behind, on_err}
use Rattle.fx_inequalities.specs.Accepted.{bound_dyadic}
use Rattle.fx_bundle_commands.specs.commands.Check.{bound_line}
use Rattle.fx_model.proofs.Listed.{next_line}
use Rattle.fx_bundle_commands.proofs.report.put_bounds.Goals as goal

pub returns-in_err-put_output-clause-front : goal.returns-in_err-put_output-clause-front
returns-in_err-put_output-clause-front g c =
    let kept = c.loop-j.invariant in let a = c.args.certified.now in
    let put = c.in_err-put_output.ensures.front in
    let whole =
    kept.2 ∙ ap (λ t. kept.0 ++ t)
    (next_line (λ j. bound_line j (bound_dyadic a.program a.certificate j)) a.program.outputs c.loop-j.j
    (subst (λ m. c.loop-j.j < m) c.outputs_of-outputs.ensures.count c.loop-j-test.true)) in
    on_err c.from_residual.result
    (subst (AppendsFront _ _) (sym whole) (front_behind _ _ _ kept.0 _ kept.1 (front_more _ _ _ _ put)))

pub loop-j-preserved : goal.loop-j-preserved
loop-j-preserved g c =
    let kept = c.loop-j.invariant in let a = c.args.certified.now in
    let put = c.in_ok-put_output.ensures.all in
    let whole =
    kept.2 ∙ ap (λ t. kept.0 ++ t)
    (next_line (λ j. bound_line j (bound_dyadic a.program a.certificate j)) a.program.outputs c.loop-j.j
    (subst (λ m. c.loop-j.j < m) c.outputs_of-outputs.ensures.count c.loop-j-test.true)) in (
      _,
      Appends-trans _ _ _ kept.0 _ kept.1 put,
      whole
          ∙ sym (append_assoc kept.0 _ _),
      omega (arith, kept.3, c.in_ok-put_output.ensures.cause.later),
    )
