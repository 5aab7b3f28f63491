-- Each time that the source is asked, what is printed of the lines so far is written.
use Rattle.std.proofs.Common.{◌≡◌, ℕ, Bool, true, false, not, List, [], Option, refl, sym, ap, subst, ◌∙◌, inl}
use Rattle.fx_base.specs.LineSteps.{LinesState}
use Rattle.fx_base.specs.Moments.{Moment, HoldsEachTime, IsSought}
use Rattle.fx_base.proofs.Noting.{noted_as, same_noted}
use Rattle.fx_stream.specs.Outcome.{Outcome}
use Rattle.fx_stream.specs.Promise.{IsAnswered, PrintsWholeLines}
use Rattle.fx_stream.specs.Running.{IsFlushed, IsUrgent, Ran}
use Rattle.fx_stream.proofs.Exits.{lines-printed}
use Rattle.fx_stream.proofs.Steps.{flushed}
use Rattle.fx_stream.proofs.Turns.{all-written}

module _ {T : Type 0} (o now : List (List ℕ) →
    Outcome T) (r : LinesState) (left left1 before after mid : Option (List ℕ)) (page page' : List ℕ) (count bound : ℕ)
    (held : Bool)
    (none : IsUrgent (not held) page →
    (now []).text ≡ []) (ran : Ran o now r left left1 before after page count bound) (flush : IsFlushed
    (not held) after mid page page') where
  -- at a read behind a flush, where the input hasn't ended
  at_read : held ≡ false → r.is_ended ≡ false → (m : Moment) → IsSought r.held left1 mid m → IsAnswered o left before m
  at_read unheld unended m sought =
      let fresh = flushed o now r left left1 before after mid page page' count bound (not held) none ran flush in
      let empty : page' ≡ [] = all-written after mid page page' held flush (λ e. let z : true ≡ false = sym e
      ∙ unheld in absurd cc) in
      subst (λ t. PrintsWholeLines o left m.left before t) (sym sought.3)
      (lines-printed o now r left left1 m.left before mid page' sought.0 count bound
      (none (inl (ap not unheld))) fresh.ran empty unended sought.1 sought.2)

  -- where a line is held, or the input has ended, the source isn't asked
  pub answered : (was is : List Moment) (ended : Bool) → r.is_ended ≡ ended → (held ≡ true → is ≡ was) →
      (r.is_ended ≡ true → is ≡ was)
      → HoldsEachTime (IsSought r.held left1 mid) was is → HoldsEachTime (IsAnswered o left before) was is
  answered was is true e lazy over sought = same_noted (IsAnswered o left before) was is (over e)
  answered was is false e lazy over sought = by_held held refl
    where
      by_held : (h : Bool) → held ≡ h → HoldsEachTime (IsAnswered o left before) was is
      by_held true f = same_noted (IsAnswered o left before) was is (lazy f)
      by_held false f = noted_as (IsSought r.held left1 mid) (IsAnswered o left before) was is (at_read f e) sought
