-- What comes of asking for the next line, after a flush.
use Rattle.std.proofs.Common.{◌≡◌, ℕ, ◌+◌, ◌<◌, ◌≤◌, Bool, true, false, not, min, List, [], ◌++◌, Option, Result, Ok, Err, length, arith, refl, sym, ap, subst, ◌∙◌}
use Rattle.std.specs.Prelude.{◌==◌, ◌⊎◌, ◌↔◌, None, OnOk, OnErr, IsErrOf, MatchResult, position}
use Rattle.std.specs.Result.{is_err}
use Rattle.std.specs.Io.KnownBytes.{Consumes, IsAtEnd}
use Rattle.std.proofs.Common.{inl, inr}
use Rattle.std.proofs.lemmas.Bool.{false_from_ne_true}
use Rattle.fx_base.specs.Text.{text_at}
use Rattle.fx_base.specs.LineSteps.{LinesState, TakesLine}
use Rattle.fx_base.specs.Moments.{Moment, HoldsEachTime, IsSought}
use Rattle.fx_base.specs.declared.lines.LineStep.{LineStep}
use Rattle.fx_base.specs.declared.lines.LineStep.TheVariants.{Line, End}
use Rattle.fx_base.specs.declared.answers.LineFault.{LineFault}
use Rattle.fx_base.specs.declared.answers.LineFault.TheVariants as cause
use Rattle.fx_stream.specs.Outcome.{Outcome}
use Rattle.fx_stream.specs.Promise.{IsAnswered, IsFailed}
use Rattle.fx_stream.specs.Running.{Asked, GoesOut, IsAsked, IsFlushed, IsUrgent, Ran, as_run}
use Rattle.fx_stream.specs.declared.fault.RunFault.TheVariants.{ReadFault, TooLong}
use Rattle.fx_stream.proofs.Exits.{cut-here, read-failed}
use Rattle.fx_stream.proofs.Prompt.{answered}
use Rattle.fx_stream.proofs.Turns.{all-written, asked-of, on-err, on-ok, right-of, total, up-to, urgent}

-- what the flush and the call that takes the next line say, where `held` tells whether it is held whole, and the source
-- was asked at the moments `was` before and at `is` since the start
pub record Turn (r r' : LinesState) (left1 left2 after mid : Option (List ℕ)) (page page' more : List ℕ)
    (was is : List Moment) (held : Bool) (result : Result LineStep LineFault) : Type 0 where
  pub flush : IsFlushed (not held) after mid page page'
  pub took : Consumes left1 left2 more
  pub sum : r'.taken ≡ min (r.taken + length more) 18446744073709551615
  pub few : length r.held + length more ≤ 131072
  pub line : result ≡ Ok Line → TakesLine r r' more
  pub none : result ≡ Ok End → text_at (r.number == 0) (r.held ++ more) ≡ []
  pub kept : OnErr result (r'.held ≡ r.held ++ more)
  pub counts : result ≡ Ok Line → r'.is_ready ≡ true → r'.number + length r'.held ≤ r'.taken
  pub end : r'.is_ended ≡ true → (r.is_ended ≡ true) ⊎ IsAtEnd left2
  pub ended : result ≡ Ok End → r'.is_ended ≡ true
  pub number : (result ≡ Ok Line → ⊥) → r'.number ≡ r.number
  pub nowhere : IsErrOf result cause.ReadFault → position (λ b. b == 10) r'.held ≡ None
  pub over : IsErrOf result cause.TooLong ↔ (r.limit < r'.taken)
  pub within : OnOk result (r'.taken ≤ r.limit)
  pub limit : r'.limit ≡ r.limit
  pub lazy : held ≡ true → (is ≡ was) × (r'.taken ≡ r.taken) × (result ≡ Ok Line)
  pub unheld : held ≡ false → position (λ b. b == 10) r.held ≡ None
  pub after_end : r.is_ended ≡ true → (left2 ≡ left1) × (is ≡ was) × (r'.taken ≡ r.taken) × (result ≡ Ok End)
  pub sought : HoldsEachTime (IsSought r.held left1 mid) was is

module _ {T : Type 0} {o now : List (List ℕ) → Outcome T} {r r' : LinesState}
    {left left1 left2 before after mid : Option (List ℕ)} {page page' more : List ℕ} {was is : List Moment}
    {count : ℕ} {held : Bool} {result : Result LineStep LineFault} (none : GoesOut r page → (now []).text ≡ [])
    (ran : Ran o now r left left1 before after page count r.limit) (small : r.limit < 18446744073709551615)
    (t : Turn r r' left1 left2 after mid page page' more was is held result) where
  quiet : IsUrgent (not held) page → (now []).text ≡ []
  quiet = urgent held r page t.unheld none

  asked : Asked o now r left left1 left2 before mid page' more count r.limit
  asked =
      asked-of o now r left left1 left2 before after mid page page' more count r.limit r'.taken held quiet ran t.flush
      small t.took t.sum t.few
      (λ e. (t.lazy e).1) (λ e. (t.after_end e).2)

  unended : (result ≡ Ok End → ⊥) → r.is_ended ≡ false
  unended other = false_from_ne_true r.is_ended (λ e. other (t.after_end e).3)

  written : (result ≡ Ok Line → ⊥) → page' ≡ []
  written other = all-written after mid page page' held t.flush (λ e. other (t.lazy e).2)

  nothing-held : (result ≡ Ok Line → ⊥) → held ≡ false
  nothing-held other = false_from_ne_true held (λ e. other (t.lazy e).2)

  within : (step : LineStep) → result ≡ Ok step → r'.taken ≤ r.limit
  within step e = on-ok result (ap is_err e) t.within

  at_end : result ≡ Ok End → IsAtEnd left2
  at_end e = elim (t.end (t.ended e)) as (λ _. IsAtEnd left2) [
    | inl was ↦ subst IsAtEnd (sym (t.after_end was).0) (ran.ended was).1
    | inr here ↦ here
  ]

  summed : r'.taken ≤ r.limit → r'.taken ≡ r.taken + length more
  summed le = let sum = t.sum in omega arith

  gave : (step : LineStep) → result ≡ Ok step →
      IsAsked o now r r' left left1 left2 before mid page' count r.limit step
  gave Line e = record {
    more = more;
    asked = asked;
    sum = summed (within Line e);
    few = t.few;
    within = within Line e;
    limit = t.limit;
    stepped = record {
      unended = unended (λ f. let z = sym e ∙ f in absurd cc);
      takes = t.line e;
      ended = λ f. right-of r.is_ended (unended (λ g. let z = sym e ∙ g in absurd cc)) (t.end f);
      counts = t.counts e;
    };
  }
  gave End e = record {
    more = more;
    asked = asked;
    sum = summed (within End e);
    few = t.few;
    within = within End e;
    limit = t.limit;
    stepped = record {
      empty = written (λ f. let z = sym e ∙ f in absurd cc);
      none = t.none e;
      end = at_end e;
      number = t.number (λ f. let z = sym e ∙ f in absurd cc);
      unheld = t.unheld (nothing-held (λ f. let z = sym e ∙ f in absurd cc));
    };
  }

  -- a read failed: nothing is held, and so all was written
  failed : {F : Type 0} (told : F → T) → result ≡ Err cause.ReadFault →
      IsFailed told o left left2 before mid r.limit ReadFault
  failed told e =
      let kept : r'.held ≡ r.held ++ more = on-err result (ap is_err e) t.kept in
      let other : result ≡ Ok Line → ⊥ = λ f. let z = sym e ∙ f in absurd cc in
      let not_over : r.limit < r'.taken → ⊥ = λ h. let z = sym e ∙ t.over.1 h in absurd cc in
      let under : r'.taken ≤ r.limit = omega (arith, not_over) in (
        read-failed told o now r left left1 left2 before mid page' more count r.limit
            (quiet (inl (ap not (nothing-held other)))) asked.ran (written other)
            (unended (λ f. let z = sym e ∙ f in absurd cc)) t.took
            (subst (λ h. position (λ b. b == 10) h ≡ None) kept (t.nowhere e)),
        up-to o now r left left1 left2 before mid page' more count r.limit ReadFault asked.ran t.took
            (let sum : r'.taken ≡ r.taken + length more = summed under in omega arith) (λ f. absurd cc),
      )

  -- more came than the limit lets through
  past_limit : {F : Type 0} (told : F → T) → r.limit < r'.taken → IsFailed told o left left2 before mid r.limit TooLong
  past_limit told more_than =
      let all = total o now r left left1 left2 before mid page' more count r.limit asked.ran t.took in
      let size : length all.0 ≡ r.taken + length more = all.2 in
      let sum = t.sum in (
        cut-here o now r left left1 before mid page' count r.limit asked.ran,
        (all.0, all.1, ((λ _. omega arith), (λ _. refl))),
      )

  -- what comes of it: a line, no line, or how the run ends
  pub comes : {F : Type 0} (told : F → T) → MatchResult (as_run {F = F} result)
      (λ step. IsAsked o now r r' left left1 left2 before mid page' count r.limit step)
      (λ fault. IsFailed told o left left2 before mid r.limit fault)
  comes {F = F} told = by result refl
    where
      by : (x : Result LineStep LineFault) → result ≡ x → MatchResult (as_run {F = F} x)
          (λ step. IsAsked o now r r' left left1 left2 before mid page' count r.limit step)
          (λ fault. IsFailed told o left left2 before mid r.limit fault)
      by (Ok step) e = gave step e
      by (Err cause.ReadFault) e = failed told e
      by (Err cause.TooLong) e = past_limit told (t.over.0 e)

  -- each time that the source was asked, what was printed of the lines so far was written
  pub prompt : HoldsEachTime (IsAnswered o left before) was is
  prompt =
      answered o now r left left1 before after mid page page' count r.limit held quiet ran t.flush was is
      r.is_ended refl (λ e. (t.lazy e).0) (λ e. (t.after_end e).1) t.sought
