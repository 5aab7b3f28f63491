use Rattle.std.proofs.Common.{◌≡◌, ◌∙◌, refl, subst}
use Rattle.std.specs.Io.KnownBytes.{Appends}
use Rattle.fx_base.specs.Calls.{AppendsFront}
use Rattle.fx_bundle_commands.specs.commands.Sheets.{written, unwritten, no_memory}
use Rattle.fx_bundle_commands.proofs.printing.print_text.Goals as goal

pub returns-in_default-clause-ended : goal.returns-in_default-clause-ended
returns-in_default-clause-ended g c = λ text is. no_memory refl

pub returns-in-Ok-put_all-clause-ended : goal.returns-in-Ok-put_all-clause-ended
returns-in-Ok-put_all-clause-ended g c = λ text is.
    let same : c.as_slice.result.now ≡ text = c.as_slice.ensures.value ∙ (rw c.in-Ok.is at is) in
    written (subst (Appends _ _) same c.in-Ok-put_all.ensures.all)

pub returns-clause-ended : goal.returns-clause-ended
returns-clause-ended g c = λ text is.
    let same : c.as_slice.result.now ≡ text = c.as_slice.ensures.value ∙ (rw c.in-Ok.is at is) in
    unwritten c.in-Err.ensures.cause.failed (subst (AppendsFront _ _) same c.in-Err.ensures.front)
