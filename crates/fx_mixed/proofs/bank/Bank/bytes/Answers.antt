use Rattle.std.proofs.Common.{◌∙◌, sym, ap}
use Rattle.fx_mixed.specs.Packed.{packed}
use Rattle.fx_mixed.proofs.bank.Bank.bytes.Goals as goal

pub returns : goal.returns
returns c =
    sym (c.again_law.ensures c.args.self.now.widths c.all-all.result.now c.all-all.ensures.known c.all-all.ensures.size
    c.are_bytes.ensures) ∙ ap (packed c.args.self.now.widths) (sym c.all-all.ensures.words)
