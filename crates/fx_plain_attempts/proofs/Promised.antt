-- The plan that serves a function keeps what is promised of it.
use Rattle.std.proofs.Common.{◌≡◌, ℕ, ◌<◌, Bool, true, false, Option, Some, None, inl, inr, refl, sym, subst, ◌∙◌}
use Rattle.std.specs.Prelude.{ℤ, is_some, IfSome}
use Rattle.std.specs.Option.{option_map}
use Rattle.fx_rational.specs.Rational.{AtMost}
use Rattle.fx_rational.specs.Dyadic.{dyadic_value}
use Rattle.fx_model.specs.Function.{Function, outputs}
use Rattle.fx_weight.specs.PlainClass.{Obstacle, obstacle_of, output_power}
use Rattle.fx_plan_laws.specs.Calm.{is_calm, numbers_of, IsCalm}
use Rattle.fx_model.specs.Machine.{Program}
use Rattle.fx_inequalities.specs.Certificate.{Certificate}
use Rattle.fx_inequalities.specs.Condition.{Fault}
use Rattle.fx_inequalities.specs.Accepted.{certified_bound, IsAccepted}
use Rattle.fx_rules.specs.Steps.{rewrite}
use Rattle.fx_formulas.specs.declared.condition.ConditionFault.{ConditionFault}
use Rattle.fx_checker.specs.declared.fault.CheckFault.TheVariants.{Condition}
use Rattle.fx_checker.specs.Refusal.{IsRefusal}
use Rattle.fx_plan_laws.specs.Powers.{power_dyadic, power_value}
use Rattle.fx_weight.specs.PlainPlan.{plain_program, plain_certificate}
use Rattle.fx_wanted.specs.Asked.{rounding_of}
use Rattle.fx_wanted.specs.declared.wanted.Wanted.{Wanted}
use Rattle.fx_plan_laws.specs.CalmPlan.{calm_program, calm_certificate}
use Rattle.fx_plan_laws.specs.CalmLaw.{IsCalmPlan}
use Rattle.fx_checker.specs.Answers.{IsAnswerFor}
use Rattle.fx_checker.specs.CertifiedView.{Accepted}
use Rattle.fx_plain_attempts.specs.Bounds.{powers_by, promised_powers, AreWithinPowers}
use Rattle.fx_plain_attempts.specs.Turns.{Suits, SuitsIfAny}

module _ (w : Wanted) (fn : Function) where
  abbrev by_plans : Option Obstacle → Bool → Option (ℕ → ℤ)
  by_plans obstacle calm = powers_by obstacle calm (output_power w.width fn) (λ j. (numbers_of w.width fn).z)

  -- where the plain plan serves
  pub plain_suits_first : (a : Accepted) → obstacle_of w.width fn ≡ None → IsAnswerFor w fn a →
      AreWithinPowers fn a.program a.certificate (output_power w.width fn) → Suits w fn a
  plain_suits_first a inside own within = record {
    answer = own;
    bounded =
        subst (λ o. IfSome (by_plans o (is_calm w.width fn)) (AreWithinPowers fn a.program a.certificate))
        (sym inside) within;
    no_worse = λ none. absurd (some_none (subst (λ o. by_plans o (is_calm w.width fn) ≡ None) inside none));
  }
    where
      some_none : {v : ℕ → ℤ} → Some v ≡ None → ⊥
      some_none e = absurd cc

  -- where it doesn't, and the function is calm
  calm_suits : (a : Accepted) (reason : Obstacle) → obstacle_of w.width fn ≡ Some reason → IsCalm w.width fn →
      IsAnswerFor w fn a → AreWithinPowers fn a.program a.certificate (λ j. (numbers_of w.width fn).z) → Suits w fn a
  calm_suits a reason obstacle calm own within = record {
    answer = own;
    bounded =
        subst (λ o. IfSome (by_plans o (is_calm w.width fn)) (AreWithinPowers fn a.program a.certificate)) (sym obstacle)
        (subst (λ t. IfSome (by_plans (Some reason) t) (AreWithinPowers fn a.program a.certificate)) (sym calm) within);
    no_worse =
        λ none. absurd (some_none
        (subst (λ t. by_plans (Some reason) t ≡ None) calm
        (subst (λ o. by_plans o (is_calm w.width fn) ≡ None) obstacle none)));
  }
    where
      some_none : {v : ℕ → ℤ} → Some v ≡ None → ⊥
      some_none e = absurd cc

  -- neither serves
  unpromised : (reason : Obstacle) → obstacle_of w.width fn ≡ Some reason → (IsCalm w.width fn → ⊥) →
      promised_powers w.width fn ≡ None
  unpromised reason obstacle uncalm =
      subst (λ o. by_plans o (is_calm w.width fn) ≡ None) (sym obstacle) (by (is_calm w.width fn) refl)
    where
      by : (t : Bool) → is_calm w.width fn ≡ t → by_plans (Some reason) t ≡ None
      by true e = absurd (uncalm e)
      by false e = refl

  -- what the calm plan comes to, where the plain one doesn't serve
  pub calm_suits_first : (o : Option Accepted) (reason : Obstacle) → obstacle_of w.width fn ≡ Some reason →
      IfSome o (IsAnswerFor w fn) →
      IfSome o (λ a. AreWithinPowers fn a.program a.certificate (λ j. (numbers_of w.width fn).z))
      → IfSome o (λ a. IsCalm w.width fn) → (o ≡ None → IsCalm w.width fn → ⊥) → SuitsIfAny w fn o
  calm_suits_first None reason obstacle own within calm uncalm = unpromised reason obstacle (uncalm refl)
  calm_suits_first (Some a) reason obstacle own within calm uncalm = calm_suits a reason obstacle calm own within

-- ---- plans, certified
-- what a program and a certificate come to holds of what is accepted with them
of_accepted : (P : Accepted → Type 0) (fn : Function) (a : Accepted) (p q : Program) (cert like : Certificate) →
    a ≡ record { function = fn; program = p; certificate = cert } → p ≡ q → cert ≡ like →
    P (record { function = fn; program = q; certificate = like }) → P a
of_accepted P fn a p q cert like is program certificate h =
    subst P (sym (is ∙ (λ i. record { function = fn; program = program i; certificate = certificate i }))) h

-- the plain plan keeps what is promised, where its bounds are at most those powers of two
pub plain_plan_bounded : (w : Wanted) (fn : Function) (a : Accepted) (p : Program) (cert : Certificate) →
    a ≡ record { function = fn; program = p; certificate = cert } → p ≡ plain_program w.width (rounding_of w) fn →
    cert ≡ plain_certificate w.width fn →
    ((j : ℕ) → j < outputs fn →
    AtMost (certified_bound (plain_program w.width (rounding_of w) fn) (plain_certificate w.width fn) j)
    (dyadic_value (power_dyadic (output_power w.width fn j)))) →
    AreWithinPowers fn a.program a.certificate (output_power w.width fn)
unfolding power_value
plain_plan_bounded w fn a p cert is program certificate within =
    of_accepted (λ (x : Accepted). AreWithinPowers fn x.program x.certificate (output_power w.width fn))
    fn a p _ cert _ is program certificate within

-- the calm plan answers what is wanted, and keeps what is promised
pub calm_plan_answers : (w : Wanted) (fn : Function) → IsCalmPlan w.width (rounding_of w) fn →
    (a : Accepted) (p : Program) (cert : Certificate) →
    a ≡ record { function = fn; program = p; certificate = cert } → p ≡ calm_program w.width (rounding_of w) fn →
    cert ≡ calm_certificate w.width fn →
    IsAnswerFor w fn a × AreWithinPowers fn a.program a.certificate (λ j. (numbers_of w.width fn).z)
calm_plan_answers w fn plan a p cert is program certificate =
    of_accepted (λ (x : Accepted). IsAnswerFor w fn x ×
    AreWithinPowers fn x.program x.certificate (λ j. (numbers_of w.width fn).z))
    fn a p _ cert _ is program certificate
    (record { function_is = refl; named = refl; width_is = refl; rounded = plan.rounded }, plan.bounds)

-- a program and a certificate that come to accepted ones are accepted
pub accepted_as : (fn : Function) (p q : Program) (cert like : Certificate) → p ≡ q → cert ≡ like →
    IsAccepted rewrite fn q like → IsAccepted rewrite fn p cert
accepted_as fn p q cert like program certificate accepted =
    subst (λ (x : Program). IsAccepted rewrite fn x cert) (sym program)
    (subst (λ (y : Certificate). IsAccepted rewrite fn q y) (sym certificate) accepted)

-- of what is accepted no condition is told
pub untold : (fault : ConditionFault) (found : Option Fault) → found ≡ None → IsRefusal (Condition fault) found → ⊥
untold fault found none (inl memory) = absurd cc
untold fault found none (inr told) = absurd cc

-- what a value is seen as, where there is one
pub view_of_some : {A B : Type 0} (f : A → B) (o : Option A) (seen : Option B) → option_map f o ≡ seen →
    is_some o ≡ true → (b : B) × (seen ≡ Some b)
view_of_some f None seen e some = absurd cc
view_of_some f (Some a) seen e some = (f a, sym e)

pub view_of_none : {A B : Type 0} (f : A → B) (o : Option A) (seen : Option B) → option_map f o ≡ seen →
    is_some o ≡ false → seen ≡ None
view_of_none f None seen e none = sym e
view_of_none f (Some a) seen e none = absurd cc
