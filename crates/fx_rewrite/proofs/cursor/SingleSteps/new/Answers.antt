use Rattle.std.proofs.Common.{◌∙◌, ap, List, ℕ}
use Rattle.fx_rewrite.specs.Ahead.{ahead, there}
use Rattle.fx_rewrite.proofs.Trees.{all_ahead}
use Rattle.fx_rewrite.proofs.cursor.SingleSteps.new.Goals as goal

pub returns : goal.returns
returns c = ap (λ (p : List ℕ). there c.args.function.now (ahead c.args.function.now 0 p 1)) c.new.ensures.items
    ∙ all_ahead c.args.function.now
