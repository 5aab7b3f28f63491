-- What the best answer of all is worth, or that there is none.
use Rattle.std.proofs.Common.{◌≡◌, take, Some, None}
use Rattle.fx_model.specs.Function.{Function}
use Rattle.fx_rules.specs.SingleSteps.{single_steps}
use Rattle.fx_wanted.specs.declared.wanted.Wanted.{Wanted}
use Rattle.fx_weight.specs.PlainClass.{Obstacle, obstacle_of}
use Rattle.fx_checker.specs.CertifiedView.{Accepted}
use Rattle.fx_plain_attempts.specs.Turns.{IsBestAfter}
use Rattle.fx_plain_attempts.proofs.Better.{each_tried}
use Rattle.fx_synth.specs.Synthesis.{IsSynthesised, IsUnfound}

pub found : (w : Wanted) (fn : Function) (a : Accepted) → IsBestAfter w fn (take w.tries (single_steps fn)) (Some a) →
    IsSynthesised w fn a
found w fn a h = record {
  function_is = h.suits.answer.function_is;
  named = h.suits.answer.named;
  width_is = h.suits.answer.width_is;
  rounded = h.suits.answer.rounded;
  bounded = h.suits.bounded;
  no_worse = h.suits.no_worse;
  unbeaten = λ steps c t acc. each_tried w fn (Some a) h steps c t acc;
}

pub not_found : (w : Wanted) (fn : Function) (reason : Obstacle) →
    IsBestAfter w fn (take w.tries (single_steps fn)) None → obstacle_of w.width fn ≡ Some reason → IsUnfound w fn reason
not_found w fn reason h obstacle = record {
  obstacle = obstacle;
  unpromised = h.suits;
  none_accepted = λ steps c t acc. each_tried w fn None h steps c t acc;
}
