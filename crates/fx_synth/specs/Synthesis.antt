-- What a synthesis answers.
use Rattle.std.specs.Prelude.{◌≡◌, List, [], Contains, Some, None, IfSome}
use Rattle.fx_model.specs.Function.{Function}
use Rattle.fx_inequalities.specs.Rewriting.{Rewriting}
use Rattle.fx_program.specs.Rounding.{IsRoundedBy}
use Rattle.fx_wanted.specs.Asked.{rounding_of}
use Rattle.fx_wanted.specs.declared.wanted.Wanted.{Wanted}
use Rattle.fx_analysis.specs.Attempts.{IsAcceptedAfter, tried_steps}
use Rattle.fx_analysis.specs.PlainAttempt.{Attempt}
use Rattle.fx_checker.specs.CertifiedView.{Accepted}
use Rattle.fx_weight.specs.PlainClass.{Obstacle, obstacle_of}
use Rattle.fx_weight.specs.ObstacleView.{obstacle_view}
use Rattle.fx_plain_attempts.specs.Bounds.{attempted, promised_powers, AreNoGreater, AreSmaller, AreWithinPowers}
use Rattle.fx_synth.specs.declared.fault.SynthFault.{SynthFault}
use Rattle.fx_synth.specs.declared.fault.SynthFault.TheVariants.{NotFound, Memory}

-- what is found is for this function, of its name, at the width and with the rounding that are wanted: with bounds as
-- small as promised; where nothing is promised no worse than an accepted plain attempt; and no accepted attempt of so
-- many tries has smaller bounds at all outputs
pub record IsSynthesised (w : Wanted) (fn : Function) (a : Accepted) : Type 0 where
  pub function_is : a.function ≡ fn
  pub named : a.program.name ≡ fn.name
  pub width_is : a.program.width ≡ w.width
  pub rounded : IsRoundedBy (rounding_of w) a.program
  pub bounded : IfSome (promised_powers w.width fn) (AreWithinPowers fn a.program a.certificate)
  pub no_worse : promised_powers w.width fn ≡ None → (t : Attempt) → IsAcceptedAfter w fn [] t →
      AreNoGreater fn (attempted a) t
  pub unbeaten : (steps : List Rewriting) → Contains (tried_steps w.tries fn) steps → (t : Attempt) →
      IsAcceptedAfter w fn steps t → ¬ AreSmaller fn t (attempted a)

-- why nothing is found: neither plan serves the function, of which this keeps it from the plain one, and no attempt is
-- accepted
pub record IsUnfound (w : Wanted) (fn : Function) (reason : Obstacle) : Type 0 where
  pub obstacle : obstacle_of w.width fn ≡ Some reason
  pub unpromised : promised_powers w.width fn ≡ None
  pub none_accepted : (steps : List Rewriting) → Contains (tried_steps w.tries fn) steps → (t : Attempt) →
      ¬ IsAcceptedAfter w fn steps t

-- or there was no memory
abbrev pub Explains : Wanted → Function → SynthFault → Type 0
Explains w fn (NotFound obstacle) = IsUnfound w fn (obstacle_view obstacle)
Explains w fn Memory = Unit {0}
