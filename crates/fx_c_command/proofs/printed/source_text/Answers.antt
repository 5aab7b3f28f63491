use Rattle.std.proofs.Common.{◌≡◌, List, ℕ, IfOk, subst}
use Rattle.fx_model.specs.Machine.{Program}
use Rattle.fx_c99.specs.OfProgram.{c_text_of}
use Rattle.fx_widths.specs.LeastWidths.{least_widths}
use Rattle.fx_c_command.proofs.printed.source_text.Goals as goal

pub returns-in-Ok : goal.returns-in-Ok
returns-in-Ok c =
    let ns = least_widths c.args.certified.now.program c.args.certified.now.certificate in
    subst (λ (p : Program). IfOk c.c_text.result (λ t. t.items ≡ c_text_of p ns)) c.program.ensures
    (subst (λ (ns : List ℕ). IfOk c.c_text.result (λ t. t.items ≡ c_text_of c.program.result.now ns))
    c.in-Ok.ensures.value c.c_text.ensures.text)
