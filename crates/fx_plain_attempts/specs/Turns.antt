-- What the turns of a synthesis keep. No clause of a public call rests on this.
use Rattle.std.specs.Prelude.{◌≡◌, ◌⊎◌, ⊤, List, [], ◌∷◌, All, Option, Some, None, IfSome}
use Rattle.fx_model.specs.Function.{Function}
use Rattle.fx_inequalities.specs.Rewriting.{Rewriting}
use Rattle.fx_analysis.specs.PlainAttempt.{Attempt}
use Rattle.fx_checker.specs.CertifiedView.{Accepted}
use Rattle.fx_checker.specs.Answers.{IsAnswerFor, IsJudged}
use Rattle.fx_analysis.specs.Attempts.{IsAcceptedAfter}
use Rattle.fx_wanted.specs.declared.wanted.Wanted.{Wanted}
use Rattle.fx_plain_attempts.specs.Bounds.{attempted, promised_powers, AreNoGreater, AreSmaller, AreWithinPowers}

-- what the checker made of an attempt for fn, where there is one
abbrev pub AreJudged : Function → Option Attempt → Option Accepted → Type 0
AreJudged fn None o = o ≡ None
AreJudged fn (Some t) o = IsJudged fn t.program t.certificate o

-- the attempt after these steps
pub record IsAnswerAfter (w : Wanted) (fn : Function) (steps : List Rewriting) (a : Accepted) : Type 0 where
  pub answer : IsAnswerFor w fn a
  pub accepted : IsAcceptedAfter w fn steps (attempted a)

-- what came of the attempt after these steps
abbrev pub IsOutcome : Wanted → Function → List Rewriting → Option Accepted → Type 0
IsOutcome w fn steps None = (t : Attempt) → ¬ IsAcceptedAfter w fn steps t
IsOutcome w fn steps (Some a) = IsAnswerAfter w fn steps a

-- two that may be compared are for one function
abbrev pub AreForOne : Option Accepted → Option Accepted → Type 0
AreForOne (Some a) (Some b) = a.function ≡ b.function
AreForOne _ _ = ⊤

-- the answer once a candidate is looked at: the candidate where there was no answer; else it is no worse at any output
-- where it is taken, and not better at all of them where it isn't
abbrev pub IsTaken : Option Accepted → Option Accepted → Option Accepted → Type 0
IsTaken None candidate answer = answer ≡ candidate
IsTaken (Some a) None answer = answer ≡ Some a
IsTaken (Some a) (Some c) answer =
    ((answer ≡ Some c) × AreNoGreater a.function (attempted c) (attempted a)) ⊎
    ((answer ≡ Some a) × ¬ AreSmaller a.function (attempted c) (attempted a))

-- the attempt after these steps isn't better than the answer, and not accepted where there is none
abbrev pub Resists : Wanted → Function → Option Accepted → List Rewriting → Type 0
Resists w fn None steps = (t : Attempt) → ¬ IsAcceptedAfter w fn steps t
Resists w fn (Some a) steps = (t : Attempt) → IsAcceptedAfter w fn steps t → ¬ AreSmaller fn t (attempted a)

-- an answer for fn as it is wanted, with bounds as small as promised, and where nothing is promised no worse than the
-- plain attempt
pub record Suits (w : Wanted) (fn : Function) (a : Accepted) : Type 0 where
  pub answer : IsAnswerFor w fn a
  pub bounded : IfSome (promised_powers w.width fn) (AreWithinPowers fn a.program a.certificate)
  pub no_worse : promised_powers w.width fn ≡ None → (t : Attempt) → IsAcceptedAfter w fn [] t →
      AreNoGreater fn (attempted a) t

-- there is such an answer, or there is none where none is promised
abbrev pub SuitsIfAny : Wanted → Function → Option Accepted → Type 0
SuitsIfAny w fn None = promised_powers w.width fn ≡ None
SuitsIfAny w fn (Some a) = Suits w fn a

-- the answer after the plain attempt and those of these single steps
pub record IsBestAfter (w : Wanted) (fn : Function) (steps : List Rewriting) (answer : Option Accepted) : Type 0 where
  pub suits : SuitsIfAny w fn answer
  pub plain : Resists w fn answer []
  pub each : All (λ s. Resists w fn answer (s ∷ [])) steps
