use Rattle.std.proofs.Common.{arith, refl}
use Rattle.std.proofs.lemmas.Result.{err_from_is_err_and}
use Rattle.fx_base.proofs.Reading.{takes-piece}
use Rattle.fx_base.proofs.whole.read_all.Goals as goal

pub returns-then-count-limit-clause-taken : goal.returns-then-count-limit-clause-taken
returns-then-count-limit-clause-taken g c =
    takes-piece _ _ _ c.reads.bytes.items c.read.new.buf c.in_ok-count.count _ _ c.reads.invariant.taken
    c.in_ok-count.ensures.bytes.0 c.in_ok-count.ensures.bound.0 ((λ _. omega arith), (λ _. refl))

pub returns-in_err-extend_from_slice-clause-taken : goal.returns-in_err-extend_from_slice-clause-taken
returns-in_err-extend_from_slice-clause-taken g c =
    let exit = c.from_residual-in_err-extend_from_slice in
    let p = err_from_is_err_and exit.result exit.ensures.1 in
    rw (p.1, p.2) (takes-piece _ _ _ c.reads.bytes.items c.read.new.buf c.in_ok-count.count _ _ c.reads.invariant.taken
    c.in_ok-count.ensures.bytes.0 c.in_ok-count.ensures.bound.0 ((λ e. cc), (λ h. absurd (omega arith))))
