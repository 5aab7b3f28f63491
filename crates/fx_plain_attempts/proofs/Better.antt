-- Bounds that are smaller, and answers that stand.
use Rattle.std.proofs.Common.{◌≡◌, ◌∙◌, ◌⊎◌, ⊎_elim, ℕ, zero, suc, ◌+◌, ◌<◌, ◌≤◌, List, [], ◌∷◌, ◌++◌, map, take, append_assoc, append-nil, true, Option, Some, None, length, refl, sym, ap, subst, arith, inl, inr}
use Rattle.std.specs.Prelude.{ℤ, IfSome}
use Rattle.std.specs.List.{All, Contains}
use Rattle.std.proofs.lemmas.List.Elements.{All-nil, All-head, All-tail, All-cons, All-push, All-map, All-contains, filter_passes}
use Rattle.fx_rational.proofs.Laws.{le_refl, le_trans, le_total}
use Rattle.fx_model.specs.Function.{Function, outputs}
use Rattle.fx_inequalities.specs.Rewriting.{Rewriting}
use Rattle.fx_rules.specs.SingleSteps.{single_steps, is_there, steps_in, trees_of}
use Rattle.fx_analysis.specs.PlainAttempt.{Attempt}
use Rattle.fx_checker.specs.CertifiedView.{Accepted}
use Rattle.fx_analysis.specs.Attempts.{IsAcceptedAfter, tried_steps}
use Rattle.fx_plain_attempts.specs.Bounds.{attempted, promised_powers, AreSmaller, AreNoGreater, AreWithinPowers}
use Rattle.fx_wanted.specs.declared.wanted.Wanted.{Wanted}
use Rattle.fx_checker.specs.Answers.{IsAnswerFor, IsOffered}
use Rattle.fx_plain_attempts.specs.Turns.{IsOutcome, IsTaken, Resists, Suits, SuitsIfAny, IsBestAfter}

-- ---- bounds
pub no_greater : (fn : Function) (a b : Attempt) → AreSmaller fn a b → AreNoGreater fn a b
no_greater fn a b h j l = ⊎_elim (λ is. is) (λ other. absurd (h j l other)) (le_total _ _)

-- with an output no bounds are smaller than such as are no greater
pub not_smaller : (fn : Function) (a b : Attempt) → 1 ≤ outputs fn → AreNoGreater fn b a → ¬ AreSmaller fn a b
not_smaller fn a b some h beats = beats 0 (omega (arith, some)) (h 0 (omega (arith, some)))

-- ---- one attempt
-- there is one attempt after the same steps
one_attempt : (w : Wanted) (fn : Function) (steps : List Rewriting) (s t : Attempt) → IsAcceptedAfter w fn steps s →
    IsAcceptedAfter w fn steps t → s ≡ t
one_attempt w fn steps s t h k = some_same (sym h.there ∙ k.there)
  where
    some_same : {x y : Attempt} → Some x ≡ Some y → x ≡ y
    some_same e = cc

-- ---- candidates
-- what came of an attempt is for its function
pub offered : (w : Wanted) (fn : Function) (steps : List Rewriting) (c : Option Accepted) → IsOutcome w fn steps c →
    IsOffered w fn c
offered w fn steps None out = tt
offered w fn steps (Some c) out = out.answer

-- ---- what a turn keeps
module _ (w : Wanted) (fn : Function) where
  -- of another attempt, once a candidate is looked at
  pub resists : (steps : List Rewriting) (o c r : Option Accepted) → SuitsIfAny w fn o → IsTaken o c r →
      Resists w fn o steps → Resists w fn r steps
  resists steps None None r suits is h = subst (λ x. Resists w fn x steps) (sym is) h
  resists steps None (Some c) r suits is h = subst (λ x. Resists w fn x steps) (sym is) (λ t acc. absurd (h t acc))
  resists steps (Some a) None r suits is h = subst (λ x. Resists w fn x steps) (sym is) h
  resists steps (Some a) (Some c) r suits (inr is) h = subst (λ x. Resists w fn x steps) (sym is.0) h
  resists steps (Some a) (Some c) r suits (inl is) h =
      let least : AreNoGreater fn (attempted c) (attempted a) =
      subst (λ f. AreNoGreater f (attempted c) (attempted a)) suits.answer.function_is is.1 in
      subst (λ x. Resists w fn x steps) (sym is.0)
      (λ t acc beats. h t acc (λ j l over. beats j l (le_trans (least j l) over)))

  -- of the candidate itself
  pub resists_own : (steps : List Rewriting) (o c r : Option Accepted) → 1 ≤ outputs fn → SuitsIfAny w fn o →
      IsOutcome w fn steps c → IsTaken o c r → Resists w fn r steps
  resists_own steps None None r some suits out is = subst (λ x. Resists w fn x steps) (sym is) out
  resists_own steps None (Some c) r some suits out is = subst (λ x. Resists w fn x steps) (sym is) (λ t acc.
      subst (λ x. ¬ AreSmaller fn t x) (sym (one_attempt w fn steps (attempted c) t out.accepted acc))
      (not_smaller fn t t some (λ j l. le_refl _)))
  resists_own steps (Some a) None r some suits out is =
      subst (λ x. Resists w fn x steps) (sym is) (λ t acc. absurd (out t acc))
  resists_own steps (Some a) (Some c) r some suits out (inl is) = subst (λ x. Resists w fn x steps) (sym is.0) (λ t acc.
      subst (λ x. ¬ AreSmaller fn t x) (sym (one_attempt w fn steps (attempted c) t out.accepted acc))
      (not_smaller fn t t some (λ j l. le_refl _)))
  resists_own steps (Some a) (Some c) r some suits out (inr is) =
      subst (λ x. Resists w fn x steps) (sym is.0) (λ t acc beats.
      is.1 (subst (λ f. AreSmaller f (attempted c) (attempted a)) (sym suits.answer.function_is)
      (subst (λ x. AreSmaller fn x (attempted a))
      (sym (one_attempt w fn steps (attempted c) t out.accepted acc)) beats)))

  -- a candidate with no greater bounds suits where the answer did
  least_suits : (a c : Accepted) → Suits w fn a → IsAnswerFor w fn c → AreNoGreater fn (attempted c) (attempted a) →
      Suits w fn c
  least_suits a c suits own least = record {
    answer = own;
    bounded = within_on (promised_powers w.width fn) suits.bounded;
    no_worse = λ unpromised t acc j l. le_trans (least j l) (suits.no_worse unpromised t acc j l);
  }
    where
      within_on : (o : Option (ℕ → ℤ)) → IfSome o (AreWithinPowers fn a.program a.certificate) →
          IfSome o (AreWithinPowers fn c.program c.certificate)
      within_on None h = tt
      within_on (Some v) h = λ j l. le_trans (least j l) (h j l)

  -- the first candidate suits where nothing is promised and it is no worse than the plain attempt
  first_suits : (c : Accepted) → promised_powers w.width fn ≡ None → IsAnswerFor w fn c →
      ((t : Attempt) → IsAcceptedAfter w fn [] t → AreNoGreater fn (attempted c) t) → Suits w fn c
  first_suits c unpromised own plain = record {
    answer = own;
    bounded = subst (λ o. IfSome o (AreWithinPowers fn c.program c.certificate)) (sym unpromised) tt;
    no_worse = λ other t acc. plain t acc;
  }

  -- any candidate, where the first one is no worse than the plain attempt
  suits_by : (o c r : Option Accepted) → SuitsIfAny w fn o → IsOffered w fn c → IsTaken o c r →
      ((a : Accepted) → o ≡ None → c ≡ Some a → (t : Attempt) → IsAcceptedAfter w fn [] t →
      AreNoGreater fn (attempted a) t) → SuitsIfAny w fn r
  suits_by None None r suits own is plain = subst (SuitsIfAny w fn) (sym is) suits
  suits_by None (Some c) r suits own is plain =
      subst (SuitsIfAny w fn) (sym is) (first_suits c suits own (plain c refl refl))
  suits_by (Some a) None r suits own is plain = subst (SuitsIfAny w fn) (sym is) suits
  suits_by (Some a) (Some c) r suits own (inr is) plain = subst (SuitsIfAny w fn) (sym is.0) suits
  suits_by (Some a) (Some c) r suits own (inl is) plain =
      subst (SuitsIfAny w fn) (sym is.0)
      (least_suits a c suits own
      (subst (λ f. AreNoGreater f (attempted c) (attempted a)) suits.answer.function_is is.1))

  -- after the plain attempt
  pub plain_suits : (o c r : Option Accepted) → SuitsIfAny w fn o → IsOutcome w fn [] c → IsTaken o c r →
      SuitsIfAny w fn r
  plain_suits o c r suits out is =
      suits_by o c r suits (offered w fn [] c out) is (λ a none e t acc. own a c e out t acc)
    where
      own : (a : Accepted) (c : Option Accepted) → c ≡ Some a → IsOutcome w fn [] c → (t : Attempt) →
          IsAcceptedAfter w fn [] t → AreNoGreater fn (attempted a) t
      own a None e out t acc = absurd cc
      own a (Some b) e out t acc =
          let same : b ≡ a = cc in
          subst (λ (x : Accepted). AreNoGreater fn (attempted x) t) same
          (subst (λ x. AreNoGreater fn (attempted b) x) (one_attempt w fn [] (attempted b) t out.accepted acc)
          (λ j l. le_refl _))

  -- after another one
  pub next_suits : (o c r : Option Accepted) → SuitsIfAny w fn o → Resists w fn o [] → IsOffered w fn c →
      IsTaken o c r → SuitsIfAny w fn r
  next_suits o c r suits plain own is =
      suits_by o c r suits own is (λ a none e t acc. absurd ((subst (λ x. Resists w fn x []) none plain) t acc))

-- ---- steps one after the other
element : {A : Type 0} (P : A → Type 0) (xs : List A) (y : A) (ys : List A) → All P (xs ++ y ∷ ys) → P y
element P [] y ys h = All-head P y ys h
element P (x ∷ xs) y ys h = element P xs y ys (All-tail P x (xs ++ y ∷ ys) h)

-- each single step is there
pub step_there : (fn : Function) (done : List Rewriting) (s : Rewriting) (left : List Rewriting) →
    single_steps fn ≡ done ++ s ∷ left → is_there fn s ≡ true
step_there fn done s left e =
    element (λ x. is_there fn x ≡ true) done s left
    (subst (All (λ x. is_there fn x ≡ true)) e (filter_passes (is_there fn) (steps_in 0 (trees_of fn))))

pub one_done : {A : Type 0} (xs : List A) (y : A) (ys : List A) → xs ++ y ∷ ys ≡ (xs ++ y ∷ []) ++ ys
one_done xs y ys = sym (append_assoc xs (y ∷ []) ys)

all_done : {A : Type 0} (n : ℕ) (done whole : List A) → whole ≡ done ++ [] → length done ≤ n → take n whole ≡ done
all_done n done whole e l = ap (take n) (e ∙ append-nil done) ∙ take_all n done l
  where
    take_all : {A : Type 0} (n : ℕ) (xs : List A) → length xs ≤ n → take n xs ≡ xs
    take_all zero [] l = refl
    take_all zero (x ∷ xs) l = absurd (omega arith)
    take_all (suc n) [] l = refl
    take_all (suc n) (x ∷ xs) l = ap (λ ys. x ∷ ys) (take_all n xs (omega arith))

-- ---- what stands
module _ (w : Wanted) (fn : Function) where
  each_resists : (xs : List Rewriting) (o c r : Option Accepted) → SuitsIfAny w fn o → IsTaken o c r →
      All (λ s. Resists w fn o (s ∷ [])) xs → All (λ s. Resists w fn r (s ∷ [])) xs
  each_resists [] o c r suits is a = All-nil _
  each_resists (x ∷ xs) o c r suits is a =
      All-cons (λ s. Resists w fn r (s ∷ [])) x xs
      (resists w fn (x ∷ []) o c r suits is (All-head (λ s. Resists w fn o (s ∷ [])) x xs a))
      (each_resists xs o c r suits is (All-tail (λ s. Resists w fn o (s ∷ [])) x xs a))

  pub stands_first : (o c r : Option Accepted) → 1 ≤ outputs fn → SuitsIfAny w fn o → IsOutcome w fn [] c →
      IsTaken o c r → IsBestAfter w fn [] r
  stands_first o c r some suits out is = record {
    suits = plain_suits w fn o c r suits out is;
    plain = resists_own w fn [] o c r some suits out is;
    each = All-nil _;
  }

  -- once a candidate is looked at, wherever it comes from
  pub stands_still : (done : List Rewriting) (o c r : Option Accepted) → IsBestAfter w fn done o → IsOffered w fn c →
      IsTaken o c r → IsBestAfter w fn done r
  stands_still done o c r h own is = record {
    suits = next_suits w fn o c r h.suits h.plain own is;
    plain = resists w fn [] o c r h.suits is h.plain;
    each = each_resists done o c r h.suits is h.each;
  }

  pub stands_next : (done : List Rewriting) (s : Rewriting) (o c r : Option Accepted) → 1 ≤ outputs fn →
      IsBestAfter w fn done o → IsOutcome w fn (s ∷ []) c → IsTaken o c r → IsBestAfter w fn (done ++ s ∷ []) r
  stands_next done s o c r some h out is =
      let still = stands_still done o c r h (offered w fn (s ∷ []) c out) is in
      record {
        suits = still.suits;
        plain = still.plain;
        each =
            All-push (λ x. Resists w fn r (x ∷ [])) done s still.each
            (resists_own w fn (s ∷ []) o c r some h.suits out is);
      }

-- ---- numbers up to one
pub next_below : (P : ℕ → Type 0) (j : ℕ) → ((k : ℕ) → k < j → P k) → P j → (k : ℕ) → k < j + 1 → P k
next_below P j h p k l = ⊎_elim (λ (e : k ≡ j). subst P (sym e) p) (λ (m : k < j). h k m) (either k j l)
  where
    either : (k j : ℕ) → k < j + 1 → (k ≡ j) ⊎ (k < j)
    either k j l = grind arith

-- ---- of all attempts that are made
pub each_tried : (w : Wanted) (fn : Function) (o : Option Accepted) →
    IsBestAfter w fn (take w.tries (single_steps fn)) o → (steps : List Rewriting) →
    Contains (tried_steps w.tries fn) steps → Resists w fn o steps
each_tried w fn o h steps c =
    let all = All-map (Resists w fn o) (λ (s : Rewriting). s ∷ []) (take w.tries (single_steps fn)) h.each in
    All-contains (Resists w fn o) (tried_steps w.tries fn) steps
    (All-cons (Resists w fn o) [] (map (λ (s : Rewriting). s ∷ []) (take w.tries (single_steps fn))) h.plain all) c
