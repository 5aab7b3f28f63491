use Rattle.std.proofs.Common.{◌<◌, ℕ, length, subst, Contains}
use Rattle.fx_model.specs.Tree.{at}
use Rattle.fx_model.specs.LawfulProgram.{widths}
use Rattle.fx_mixed.specs.Banks.{Stored}
use Rattle.fx_mixed.proofs.bank.Bank.all.Goals as goal

pub returns-clause-known : goal.returns-clause-known
returns-clause-known c = subst (λ (s : Stored). (k : ℕ) → k < length s.widths →
    Contains widths (at 0 s.widths k)) c.self.view_is c.self.invariant.known
