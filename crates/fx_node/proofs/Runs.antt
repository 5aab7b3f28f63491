-- A run by its first step, and with one more step behind it.
use Rattle.std.proofs.Common.{◌≡◌, ◌-◌, ℕ, zero, suc, ℤ, List, [], ◌∷◌, ◌++◌, length, get_or, Option, Some, None, refl, ap, subst, ◌∙◌, arith}
use Rattle.std.specs.Option.{option_map, option_and_then}
use Rattle.std.proofs.lemmas.Option.{same_Some}
use Rattle.std.proofs.lemmas.List.{length-append}
use Rattle.fx_rational.specs.Rational.{Rational}
use Rattle.fx_model.specs.Function.{Run, Step, run_of}

-- a step's outputs before those of the run behind it
abbrev pub joined_run : Step ℤ → Run ℤ → Run ℤ
joined_run s r = record { outputs = s.outputs ∷ r.outputs; last = r.last }

-- the first step of a run, and the run behind it
pub record FirstStep (first : Option (Step ℤ)) (behind : Step ℤ → Option (Run ℤ)) (run : Run ℤ) : Type 0 where
  pub made : Step ℤ
  pub later : Run ℤ
  pub steps : first ≡ Some made
  pub goes_on : behind made ≡ Some later
  pub all : joined_run made later ≡ run

pub first_step : (first : Option (Step ℤ)) (behind : Step ℤ → Option (Run ℤ)) (run : Run ℤ) →
    option_and_then (λ s. option_map (joined_run s) (behind s)) first ≡ Some run → FirstStep first behind run
first_step None behind run e = absurd cc
first_step (Some s) behind run e = second (behind s) refl e
  where
    second : (o : Option (Run ℤ)) → behind s ≡ o → option_map (joined_run s) o ≡ Some run → FirstStep (Some s) behind run
    second None h e = absurd cc
    second (Some later) h e =
        record { made = s; later = later; steps = refl; goes_on = h; all = same_Some (joined_run s later) run e }

module _ (step : List Rational → List ℤ → Option (Step ℤ)) where
  -- a run, and one step more
  pub run_more : (gs : List (List Rational)) (g : List Rational) (z : List ℤ) (r : Run ℤ) (s : Step ℤ) →
      run_of step gs z ≡ Some r → step g r.last ≡ Some s
      → run_of step (gs ++ g ∷ []) z ≡ Some record { outputs = r.outputs ++ s.outputs ∷ []; last = s.next }
  run_more [] g z r s e h =
      subst (λ (r : Run ℤ). step g r.last ≡ Some s →
      run_of step (g ∷ []) z ≡ Some record { outputs = r.outputs ++ s.outputs ∷ []; last = s.next })
      (same_Some record { outputs = []; last = z } r e) (λ h. rw h refl) h
  run_more (g' ∷ gs) g z r s e h =
      let f = first_step (step g' z) (λ s. run_of step gs s.next) r e in
      let last : f.later.last ≡ r.last = ap (λ (x : Run ℤ). x.last) f.all in
      let more = run_more gs g f.made.next f.later s f.goes_on (ap (step g) last ∙ h) in
      rw f.steps (rw more (ap (λ (x : Run ℤ). Some record {
        outputs = x.outputs ++ s.outputs ∷ [];
        last = s.next;
      }) f.all))

get_last : {X : Type 0} (xs : List X) (x d : X) (n : ℕ) → n ≡ length xs → get_or (xs ++ x ∷ []) n d ≡ x
get_last [] x d zero e = refl
get_last [] x d (suc n) e = absurd (omega arith)
get_last (y ∷ xs) x d zero e = absurd (omega arith)
get_last (y ∷ xs) x d (suc n) e = get_last xs x d n (omega arith)

-- the last of a list with one more
pub last_more : {X : Type 0} (xs : List X) (x d : X) → get_or (xs ++ x ∷ []) (length (xs ++ x ∷ []) - 1) d ≡ x
last_more xs x d = get_last xs x d (length (xs ++ x ∷ []) - 1) (omega (arith, length-append xs (x ∷ [])))
