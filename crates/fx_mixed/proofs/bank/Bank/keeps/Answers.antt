use Rattle.std.proofs.Common.{ℤ, List, length, sym, subst, ap, ◌∙◌}
use Rattle.fx_statements.specs.Widths.{FitWidths}
use Rattle.fx_mixed.proofs.Kept.{unpacked_counted, unpacked_fit}
use Rattle.fx_mixed.proofs.bank.Bank.keeps.Goals as goal

pub returns-clause-counted : goal.returns-clause-counted
returns-clause-counted c = ap length c.all.ensures.words ∙ unpacked_counted c.args.self.now.widths c.all.result.now

pub returns-clause-fit : goal.returns-clause-fit
returns-clause-fit c =
    subst (λ (ws : List ℤ). FitWidths c.args.self.now.widths ws) (sym c.all.ensures.words)
    (unpacked_fit c.wrapped_law.ensures c.args.self.now.widths c.all.result.now c.all.ensures.known)
