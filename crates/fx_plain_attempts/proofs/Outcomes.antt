-- What comes of an attempt.
use Rattle.std.proofs.Common.{◌≡◌, ◌∙◌, true, ℕ, ℤ, List, [], ◌∷◌, Option, Some, None, Result, Ok, Err, refl, sym, ap, subst}
use Rattle.std.specs.Option.{option_map}
use Rattle.std.specs.Prelude.{is_some, unwrap_or}
use Rattle.fx_rational.specs.Interval.{Interval}
use Rattle.fx_model.specs.Function.{Function, outputs}
use Rattle.fx_model.specs.Machine.{Program, Round}
use Rattle.fx_bounds.proofs.Claims.{all_met}
use Rattle.fx_inequalities.specs.Certificate.{Certificate}
use Rattle.fx_sound.specs.Soundness.{IsCertified}
use Rattle.fx_sound.proofs.Accepts.{counted}
use Rattle.fx_inequalities.specs.Accepted.{IsAccepted, conditions}
use Rattle.fx_inequalities.specs.Rewriting.{Rewriting, rewritten_by}
use Rattle.fx_rules.specs.Steps.{rewrite, RewriteLaw}
use Rattle.fx_analysis.specs.Fold.{Absent}
use Rattle.fx_analysis.specs.PlainRanges.{plain_ranges}
use Rattle.fx_analysis.specs.GreedyPoints.{greedy_points}
use Rattle.fx_analysis.specs.PlainErrors.{plain_errors}
use Rattle.fx_analysis.specs.PlainAttempt.{Attempt, attempt_of, with_errors, with_points, with_ranges, plain_attempt}
use Rattle.fx_checker.specs.CertifiedView.{Accepted}
use Rattle.fx_analysis.specs.Attempts.{with_steps, attempt_after}
use Rattle.fx_analysis.specs.AttemptLaws.{RoundedLaw}
use Rattle.fx_wanted.specs.Asked.{rounding_of}
use Rattle.fx_wanted.specs.declared.wanted.Wanted.{Wanted}
use Rattle.fx_plain_attempts.specs.Turns.{AreJudged, IsAnswerAfter, IsOutcome}

-- what each plain attempt of a function has
pub record IsPlainOf (n : ℕ) (fn : Function) (a : Attempt) : Type 0 where
  pub named : a.program.name ≡ fn.name
  pub width_is : a.program.width ≡ n

module _ (n : ℕ) (r : Round) (fn : Function) where
  by_errors : (gs : List Interval) (ps : List ℤ) (o : Result (List Interval) Absent) (a : Attempt) →
      with_errors n r fn gs ps o ≡ Some a → IsPlainOf n fn a
  by_errors gs ps (Ok hs) a e =
      let same : attempt_of n r fn gs ps hs ≡ a = cc in
      subst (IsPlainOf n fn) same (record { named = refl; width_is = refl })
  by_errors gs ps (Err why) a e = absurd cc

  by_points : (gs : List Interval) (o : Result (List ℤ) Absent) (a : Attempt) → with_points n r fn gs o ≡ Some a →
      IsPlainOf n fn a
  by_points gs (Ok ps) a e = by_errors gs ps (plain_errors n r fn ps gs []) a e
  by_points gs (Err why) a e = absurd cc

  by_ranges : (o : Result (List Interval) Absent) (a : Attempt) → with_ranges n r fn o ≡ Some a → IsPlainOf n fn a
  by_ranges (Ok gs) a e = by_points gs (greedy_points n fn gs) a e
  by_ranges (Err why) a e = absurd cc

  pub plain_of : (a : Attempt) → plain_attempt n r fn ≡ Some a → IsPlainOf n fn a
  plain_of a e = by_ranges (plain_ranges fn []) a e

some_same : {x y : Attempt} → Some x ≡ Some y → x ≡ y
some_same e = cc

-- what the checker made of the attempt after these steps, which is of fn's name, at the width and rounded as is wanted
-- where it is there
pub judged_outcome : (w : Wanted) (fn : Function) (steps : List Rewriting) (a : Option Attempt) (o : Option Accepted) →
    RoundedLaw → fn.states ≡ [] →
    attempt_after w.width (rounding_of w) fn steps ≡ a →
    ((t : Attempt) → a ≡ Some t → (t.program.name ≡ fn.name) × (t.program.width ≡ w.width)) → AreJudged fn a o →
    IsOutcome w fn steps o
judged_outcome w fn steps None o rounded stateless there own h =
    subst (IsOutcome w fn steps) (sym h) (λ t acc. let none : None ≡ Some t = sym there ∙ acc.there in absurd cc)
judged_outcome w fn steps (Some t) None rounded stateless there own h = λ s acc.
    let same : s ≡ t = some_same (sym acc.there ∙ there) in
    h (subst (λ x. IsAccepted rewrite fn x.program x.certificate) same acc.accepted)
judged_outcome w fn steps (Some t) (Some a) rounded stateless there own h =
    let is = own t refl in
    let by = rounded w.width (rounding_of w) fn steps t there in
    subst (IsAnswerAfter w fn steps) (sym h.1)
    (record {
      answer = record { function_is = refl; named = is.0; width_is = is.1; rounded = by };
      accepted = record { stateless = stateless; there = there; accepted = h.0 };
    })

-- an attempt after steps that keep the name is of it, and at the width
pub after_own : (w : Wanted) (fn : Function) (steps : List Rewriting) (a : Option Attempt) →
    (rewritten_by rewrite fn steps).name ≡ fn.name →
    attempt_after w.width (rounding_of w) fn steps ≡ a → (t : Attempt) → a ≡ Some t →
    (t.program.name ≡ fn.name) × (t.program.width ≡ w.width)
after_own w fn steps a keeps is t some =
    by (plain_attempt w.width (rounding_of w) (rewritten_by rewrite fn steps)) refl (is ∙ some)
  where
    by : (p : Option Attempt) → plain_attempt w.width (rounding_of w) (rewritten_by rewrite fn steps) ≡ p →
        option_map (with_steps steps) p ≡ Some t →
        (t.program.name ≡ fn.name) × (t.program.width ≡ w.width)
    by None e f = absurd cc
    by (Some u) e f =
        let p = plain_of w.width (rounding_of w) (rewritten_by rewrite fn steps) u e in
        let same : with_steps steps u ≡ t = some_same f in
        subst (λ x. (x.program.name ≡ fn.name) × (x.program.width ≡ w.width)) same (p.named ∙ keeps, p.width_is)

-- a step that is there keeps the name
pub step_named : RewriteLaw → (fn : Function) (s : Rewriting) → is_some (rewrite fn s) ≡ true →
    (rewritten_by rewrite fn (s ∷ [])).name ≡ fn.name
step_named law fn s there = by (rewrite fn s) refl there
  where
    by : (r : Option Function) → rewrite fn s ≡ r → is_some r ≡ true → (unwrap_or r fn).name ≡ fn.name
    by None e t = absurd cc
    by (Some h) e t = ap (λ (f : Function). f.name) ((law.exact fn s h).0 e).result

-- as many outputs as the function has
pub outputs_are : (fn : Function) (p : Program) (cert : Certificate) → IsCertified rewrite fn p cert →
    p.outputs ≡ outputs fn
outputs_are fn p cert c = (counted fn p cert (all_met (conditions rewrite fn p cert) c.accepted).0.test).outputs
