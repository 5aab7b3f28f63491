use Rattle.std.proofs.Common.{◌≤◌, length, Err, ap, sym, subst, arith}
use Rattle.fx_model.specs.Limits.{bundle_limit}
use Rattle.fx_bundle_commands.specs.Opening.{OpeningEnds}
use Rattle.fx_bundle_commands.proofs.Accepting.{read_ends, is_opened, opening_ends, if_ok, if_err}
use Rattle.fx_bundle_commands.proofs.opening.open.Goals as goal

pub returns-in-Err-clause-failed : goal.returns-in-Err-clause-failed
returns-in-Err-clause-failed g c =
    subst (OpeningEnds _ _ _) (sym c.end_of_read.ensures)
    (read_ends _ _ _ c.in-Err.fault (λ e. c.in-Err.ensures.too_long (ap Err e))
    (λ e. c.in-Err.ensures.read_fault (ap Err e)))

pub returns-clause-opened : goal.returns-clause-opened
returns-clause-opened g c =
    let short : length c.in-Ok.bytes.items ≤ bundle_limit = omega (arith, c.in-Ok.bytes.ok.0, c.in-Ok.ensures.within) in
    if_ok c.accept.result (λ o. is_opened _ _ c.in-Ok.bytes.items _ o.source o.certified c.in-Ok.ensures.all short
    c.deref.ensures.value) c.accept.ensures.accepted

pub returns-clause-failed : goal.returns-clause-failed
returns-clause-failed g c =
    let short : length c.in-Ok.bytes.items ≤ bundle_limit = omega (arith, c.in-Ok.bytes.ok.0, c.in-Ok.ensures.within) in
    if_err c.accept.result (λ e. opening_ends _ _ _ c.in-Ok.bytes.items _ _ c.in-Ok.ensures.all short
    c.deref.ensures.value) c.accept.ensures.failed
