use Rattle.std.proofs.Common.{◌≡◌, ◌∙◌, List, IfOk, subst}
use Rattle.fx_rational.specs.Dyadic.{Dyadic}
use Rattle.fx_model.specs.Function.{Function}
use Rattle.fx_model.specs.Machine.{Program}
use Rattle.fx_c99.specs.CHeader.{bounds_of, header_text}
use Rattle.fx_c_command.proofs.printed.header_text.Goals as goal

pub returns : goal.returns
returns c =
    let a = c.args.certified.now in let bounds = bounds_of a.program a.certificate in
    let fn = c.function.result.now in let p = c.program.result.now in
    subst (λ (fn : Function). IfOk c.c_header.result (λ t. t.items ≡ header_text fn a.program bounds))
    c.function.ensures
    (subst (λ (p : Program). IfOk c.c_header.result (λ t. t.items ≡ header_text fn p bounds)) c.program.ensures
    (subst (λ (bounds : List Dyadic). IfOk c.c_header.result (λ t. t.items ≡ header_text fn p bounds))
    (c.as_slice.ensures.value ∙ c.in_ok-bounds.ensures) c.c_header.ensures.text))
