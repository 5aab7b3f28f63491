-- What a turn over stored words comes to.
use Rattle.std.proofs.Common.{◌≡◌, ℕ, ◌+◌, ◌<◌, ℤ, pos, List, length, refl, sym, ap, subst, ◌∙◌, arith, Some}
use Rattle.fx_rational.specs.Rational.{Rational}
use Rattle.fx_model.specs.Machine.{IsWord, words_of}
use Rattle.fx_model.specs.Rows.{AreInputs, InRangeLaw, IsInRange, IsTrueOf}
use Rattle.fx_model.specs.Tree.{at}
use Rattle.fx_model.proofs.Words.{words_length}
use Rattle.fx_inequalities.specs.Near.{IsNear}
use Rattle.fx_inequalities.specs.Rewriting.{Rewrites}
use Rattle.fx_machine.specs.Steps.{TakenLaw, step_taken}
use Rattle.fx_sound.specs.Soundness.{IsCertified, StepIsNear, StepLaw}
use Rattle.fx_checker.specs.CertifiedView.{Accepted, IsStepReady}
use Rattle.fx_checker.proofs.Ready.{ready_after}
use Rattle.fx_statements.specs.Widths.{FitWidths}
use Rattle.fx_widths.specs.Laws.{OwnWidthLaw, StatesFitLaw}
use Rattle.fx_widths.proofs.Least.{width_at}
use Rattle.fx_mixed.specs.Mixing.{IsStored, carried, states_among, widths_of}
use Rattle.fx_mixed.proofs.Carried.{carried_states}
use Rattle.fx_mixed.proofs.Rows.{widths_counted}

-- words are stored, and some row is true of the row g
pub record Turning (rewrite : Rewrites) (a : Accepted) (g : List Rational) (ns : List ℕ) (ws : List ℤ) : Type 0 where
  pub certified : IsCertified rewrite a.function a.program a.certificate
  pub inputs : AreInputs a.function.inputs
  pub stored : IsStored a ns ws
  pub true_row : List Rational
  pub is_true : IsTrueOf a.function.inputs g true_row
  pub near : StepIsNear a.function a.program a.certificate g true_row (states_among a.program ws) stored.mixed.state

pub turning : {rewrite : Rewrites} {a : Accepted} {g : List Rational} {ns : List ℕ} {ws : List ℤ} → InRangeLaw →
    StepLaw → IsCertified rewrite a.function a.program a.certificate → IsStored a ns ws → AreInputs a.function.inputs →
    IsInRange a.function.inputs g → Turning rewrite a g ns ws
turning {rewrite} {a} {g} {ns} {ws} in_range step certified stored inputs row =
    let t = (in_range a.function.inputs g inputs).0 row in
    record {
      certified = certified;
      inputs = inputs;
      stored = stored;
      true_row = t.0;
      is_true = t.1;
      near =
          step rewrite a.function a.program a.certificate g t.0 (states_among a.program ws) stored.mixed.state certified
          t.1 stored.mixed.near;
    }

module _ {rewrite : Rewrites} {a : Accepted} {g : List Rational} {ns : List ℕ} {ws : List ℤ}
    (turn : Turning rewrite a g ns ws) where
  -- the words that are made lie in their own widths
  pub made_fit : {made : List ℤ} → OwnWidthLaw → words_of a.program g (states_among a.program ws) ≡ Some made →
      FitWidths (widths_of a) made
  made_fit {made} own words =
      own rewrite a.function a.program a.certificate g turn.true_row (states_among a.program ws) made
      turn.stored.mixed.state turn.certified turn.is_true turn.stored.mixed.near words

  ready : {made : List ℤ} → TakenLaw → words_of a.program g (states_among a.program ws) ≡ Some made →
      IsStepReady a made (step_taken a.program made).next
  ready {made} taken words =
      let z = states_among a.program ws in
      ready_after a g turn.true_row z made (step_taken a.program made).next turn.stored.mixed.state turn.near words
      (taken a.program g z made words) refl

  -- the next states' words lie in the widths of the states
  pub next_fit : {made : List ℤ} {ms : List ℕ} → TakenLaw → StatesFitLaw →
      words_of a.program g (states_among a.program ws) ≡ Some made → ms ≡ ns → (k : ℕ) → k < a.program.states →
      IsWord (at 0 ms (a.program.inputs + k)) (at (pos 0) (step_taken a.program made).next k)
  next_fit {made} taken fit words same k lt =
      let p = a.program in let next = (step_taken p made).next in let r = ready taken words in
      let enough = turn.certified.program.counts.enough in
      subst (λ (ns : List ℕ). IsWord (at 0 ns (p.inputs + k)) (at (pos 0) next k)) (sym (same ∙ turn.stored.widths))
      (subst (λ (m : ℕ). IsWord m (at (pos 0) next k)) (sym (width_at p a.certificate (p.inputs + k) (omega arith)))
      (fit rewrite a.function p a.certificate next r.state turn.certified turn.inputs r.near k lt))

  -- carried on, they are stored again
  pub stored_again : {made after : List ℤ} {ms : List ℕ} → TakenLaw →
      words_of a.program g (states_among a.program ws) ≡ Some made → after ≡ carried a.program made → ms ≡ ns →
      length after ≡ length ms → FitWidths ms after → IsStored a ms after
  stored_again {made} {after} taken words is same many fit =
      let p = a.program in let r = ready taken words in let widths = same ∙ turn.stored.widths in
      let states : states_among p after ≡ (step_taken p made).next = ap (states_among p) is
      ∙ carried_states p made turn.certified.program.counts (words_length p g (states_among p ws) made words) in
      record {
        widths = widths;
        mixed = record {
          counted = many ∙ ap length same ∙ widths_counted rewrite a turn.certified ns ws turn.stored;
          fit = subst (λ ms. FitWidths ms after) widths fit;
          state = r.state;
          near = subst (λ v. IsNear a.function p a.certificate v r.state) (sym states) r.near;
        };
      }
