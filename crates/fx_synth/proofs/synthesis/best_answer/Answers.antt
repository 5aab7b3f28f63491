use Rattle.std.proofs.Common.{take}
use Rattle.fx_rules.specs.SingleSteps.{single_steps}
use Rattle.fx_synth.proofs.synthesis.best_answer.Goals as goal

pub returns : goal.returns
returns c = c.in_ok-best.ensures (take c.args.wanted.tries (single_steps c.args.function.now)) c.in_ok-answer.ensures
