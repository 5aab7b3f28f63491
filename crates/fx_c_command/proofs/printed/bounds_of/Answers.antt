use Rattle.std.proofs.Common.{◌≡◌, ◌∙◌, ◌+◌, [], ◌∷◌, ◌++◌, ap, sym, arith}
use Rattle.std.proofs.lemmas.List.FromFn.{map-range_with_len_more}
use Rattle.fx_inequalities.specs.Accepted.{bound_dyadic}
use Rattle.fx_c_command.proofs.printed.bounds_of.Goals as goal

pub loop-j-preserved : goal.loop-j-preserved
loop-j-preserved c =
    let a = c.args.certified.now in let f = bound_dyadic a.program a.certificate in let j = c.loop-j.j in
    let e : 0 + j ≡ j = omega arith in
    c.in_ok-push.ensures.items ∙ ap (λ d. c.loop-j.bounds.items ++ d ∷ []) c.bound.ensures.value
    ∙ ap (λ bounds. bounds ++ f j ∷ []) c.loop-j.invariant ∙ sym (map-range_with_len_more f 0 j j e)
