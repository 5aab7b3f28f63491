-- What a turn of the loop over lines comes to, once the next line was asked for.
use Rattle.std.proofs.Common.{◌≡◌, ℕ, ◌+◌, ◌-◌, ◌^◌, ◌<◌, ◌≤◌, Bool, List, [], ◌∷◌, ◌++◌, Option, Result, Err, length, arith, sym, ap, subst, ◌∙◌, true}
use Rattle.std.specs.Prelude.{None, position, ◌==◌, IsErrOf}
use Rattle.fx_base.specs.Causes.{Rose}
use Rattle.fx_base.specs.LineSteps.{LinesState}
use Rattle.fx_base.specs.Moments.{Moment, HoldsEachTime}
use Rattle.fx_base.specs.declared.lines.LineStep.{LineStep}
use Rattle.fx_base.specs.declared.lines.LineStep.TheVariants.{Line, End}
use Rattle.fx_base.proofs.Noting.{none_noted, noted_on}
use Rattle.fx_stream.specs.Ending.{EndsRun, Streams}
use Rattle.fx_stream.specs.Outcome.{Outcome, behind_lines, one, IfBad}
use Rattle.fx_stream.specs.Promise.{Grows, IsAnswered, IsFailed}
use Rattle.fx_stream.specs.Running.{EndsAs, HasLine, HasNoLine, IsAnswer, IsAsked, IsBadLine, IsOver, Ran, StopsAs, fresh_lines}
use Rattle.fx_stream.specs.declared.fault.RunFault.{RunFault}
use Rattle.fx_stream.specs.declared.fault.RunFault.TheVariants.{ReadFault, WriteFault}
use Rattle.fx_stream.specs.declared.printer.Stop.{Stop}
use Rattle.fx_stream.proofs.Exits.{line-stopped, lines-ended, of-result}
use Rattle.fx_stream.proofs.Grown.{none_grown, grown_on, stopped_grows}
use Rattle.fx_stream.proofs.Steps.{start, stepped}
use Rattle.fx_stream.proofs.Turns.{one-few}

-- the step that was asked for is this one
asked-as : {T : Type 0} {o now : List (List ℕ) → Outcome T} {r r' : LinesState}
    {left left1 left2 before mid : Option (List ℕ)} {page : List ℕ} {count bound : ℕ} {step is : LineStep} → step ≡ is →
    IsAsked o now r r' left left1 left2 before mid page count bound step →
    IsAsked o now r r' left left1 left2 before mid page count bound is
asked-as {o = o} {now} {r} {r'} {left} {left1} {left2} {before} {mid} {page} {count} {bound} same asked =
    subst (IsAsked o now r r' left left1 left2 before mid page count bound) same asked

module _ {T : Type 0} {o now : List (List ℕ) → Outcome T} {r r' : LinesState}
    {left left1 left2 before mid : Option (List ℕ)} {page : List ℕ} {count : ℕ} where
  -- a line came: so many fewer may come
  line_smaller : {limit : ℕ} → IsAsked o now r r' left left1 left2 before mid page count r.limit Line →
      r'.is_ready ≡ true → r.limit ≡ limit → limit - r'.number < limit - r.number
  line_smaller a ready bound =
      let line : HasLine r r' left2 a.more = a.stepped in
      let number = line.takes.number in
      let counts = line.counts ready in
      omega (arith, a.within, bound)

  -- a line came, and was taken: the run stands behind it
  goes-on : (now' : List (List ℕ) → Outcome T) (page' : List ℕ) (is_row : Bool) (k : ℕ) →
      (a : IsAsked o now r r' left left1 left2 before mid page count r.limit Line) → r'.is_ready ≡ true →
      (text : List ℕ) × (page' ≡ page ++ text) ×
      ((rest : List (List ℕ)) → now (r'.line ∷ rest) ≡ behind_lines 1 text (one is_row) (now' rest)) →
      k ≡ one is_row → Ran o now' r' left left2 before mid page' (count + k) r'.limit
  goes-on now' page' is_row k a ready took row =
      let line : HasLine r r' left2 a.more = a.stepped in
      subst (λ l. Ran o now' r' left left2 before mid page' (count + k) l) (sym a.limit)
      (subst (λ k. Ran o now' r' left left2 before mid page' (count + k) r.limit) (sym row)
      (subst (λ p. Ran o now' r' left left2 before mid p (count + one is_row) r.limit) (sym took.1)
      (stepped o now now' r r' left left1 left2 before mid page took.0 a.more count (one is_row) r.limit a.asked.ran
      line.unended a.asked.took line.takes a.sum (line.counts ready) a.limit a.within ready line.ended
      (a.asked.near line.unended) took.2 (one-few is_row))))

  -- a line came that stops the run
  stops-at : {F : Type 0} (told : F → T) (limit number : ℕ) (last : Option (List ℕ)) (page' : List ℕ)
      (stop : Stop F) (f : RunFault F) → IsAsked o now r r' left left1 left2 before mid page count r.limit Line →
      number ≡ r'.number →
      StopsAs stop number mid last page' f →
      IfBad (λ g. (text : List ℕ) × (page' ≡ page ++ text) × IsBadLine told now r' text g) stop → r.limit ≡ limit →
      IsFailed told o left left2 before last limit f
  stops-at told limit number last page' stop f a same stops bad bound =
      let line : HasLine r r' left2 a.more = a.stepped in
      let within : r.taken + length a.more ≤ r.limit = omega (arith, a.sum, a.within) in
      subst (λ l. IsFailed told o left left2 before last l f) bound
      (line-stopped told o now r r' left left1 left2 before mid last page page' a.more count r.limit stop f a.asked line
      a.few within (subst (λ n. StopsAs stop n mid last page' f) same stops) bad)

  -- no line is left: the number of the last one has a successor
  end_below : {limit number : ℕ} → IsAsked o now r r' left left1 left2 before mid page count r.limit End →
      number ≡ r'.number → r.limit ≡ limit → limit < 2 ^ 64 - 1 → number < 2 ^ 64 - 1
  end_below a number bound few =
      let over : HasNoLine r r' left2 page a.more = a.stepped in
      let ran = a.asked.ran in
      omega (arith, number, over.number, ran.counts, ran.within, bound, few)

  -- no line is left, and the run is over
  ends-at : {F : Type 0} (told : F → T) {limit number : ℕ} {result : Result ℕ (RunFault F)} →
      IsAsked o now r r' left left1 left2 before mid page count r.limit End →
      (position (λ b. b == 10) r.held ≡ None → ((now []).text ≡ []) × ((now []).rows ≡ 0)) → number ≡ r'.number →
      EndsAs told (now []) number count result → r.limit ≡ limit → IsAnswer told o left left2 before mid limit result
  ends-at told {result = result} a none number ends bound =
      let over : HasNoLine r r' left2 page a.more = a.stepped in
      let within : r.taken + length a.more ≤ r.limit = omega (arith, a.sum, a.within) in
      subst (λ l. IsAnswer told o left left2 before mid l result) bound
      (lines-ended told o now r r' left left1 left2 before mid page a.more count r.limit result (none over.unheld)
      a.asked over within (subst (λ n. EndsAs told (now []) n count result) number ends))

-- the run ends with this fault
fault-over : {T F : Type 0} (told : F → T) (o : List (List ℕ) → Outcome T) (left left' before after : Option (List ℕ))
    (limit : ℕ) (was is : List Moment) (f : RunFault F) → IsFailed told o left left' before after limit f →
    Grows before after → HoldsEachTime (IsAnswered o left before) was is →
    IsOver told o left left' before after limit was is (Err f)
fault-over told o left left' before after limit was is f failed grown prompt = record {
  answer = record { done = tt; end = tt; due = failed.0; taken = of-result left left' limit f failed.1 };
  grown = grown;
  prompt = prompt;
}

-- what holds between two turns
pub record SoFar {T : Type 0} (o now : List (List ℕ) → Outcome T) (r : LinesState)
    (left left' before after : Option (List ℕ)) (page : List ℕ) (count limit : ℕ)
    (was is : List Moment) : Type 0 where
  pub ran : Ran o now r left left' before after page count r.limit
  pub bound : r.limit ≡ limit
  pub grown : Grows before after
  pub prompt : HoldsEachTime (IsAnswered o left before) was is

-- before the first turn
pub run_starts : {T : Type 0} (o : List (List ℕ) → Outcome T) (left before : Option (List ℕ)) (was : List Moment)
    {r : LinesState} {page : List ℕ} {limit : ℕ} → (o []).text ≡ [] → r ≡ fresh_lines limit → page ≡ [] →
    SoFar o o r left left before before page 0 limit was was
run_starts o left before was {r} {page} {limit} none fresh empty = record {
  ran = subst (λ r. Ran o o r left left before before page 0 r.limit) (sym fresh)
      (subst (λ p. Ran o o (fresh_lines limit) left left before before p 0 limit) (sym empty)
      (start o left before limit none));
  bound = ap (λ r. r.limit) fresh;
  grown = none_grown before;
  prompt = none_noted (IsAnswered o left before) was;
}

module _ {T : Type 0} {o earlier now : List (List ℕ) → Outcome T} {r r' : LinesState}
    {left left1 left2 before after mid : Option (List ℕ)} {old page : List ℕ} {count limit : ℕ}
    {was is : List Moment} {step : LineStep}
    (so_far : SoFar o earlier r left left1 before after old count limit was is)
    (asked : IsAsked o now r r' left left1 left2 before mid page count r.limit step) where
  -- a line came: so many fewer may come
  pub smaller : step ≡ Line → r'.is_ready ≡ true → limit - r'.number < limit - r.number
  smaller line ready = line_smaller (asked-as line asked) ready so_far.bound

  -- no line is left: the number of the last one has a successor
  pub below : {number : ℕ} → step ≡ End → number ≡ r'.number → limit < 2 ^ 64 - 1 → number < 2 ^ 64 - 1
  below end number few = end_below (asked-as end asked) number so_far.bound few

  module _ {is' : List Moment} (grown : Grows after mid)
      (prompt : HoldsEachTime (IsAnswered o left before) is is') where
    all-grown : Grows before mid
    all-grown = grown_on before after mid so_far.grown grown

    all-prompt : HoldsEachTime (IsAnswered o left before) was is'
    all-prompt = noted_on (IsAnswered o left before) was is is' so_far.prompt prompt

    -- a line came, and was taken: the run stands behind it
    pub turned : (now' : List (List ℕ) → Outcome T) (page' : List ℕ) (is_row : Bool) (k : ℕ) → step ≡ Line →
        r'.is_ready ≡ true →
        (text : List ℕ) × (page' ≡ page ++ text) ×
        ((rest : List (List ℕ)) → now (r'.line ∷ rest) ≡ behind_lines 1 text (one is_row) (now' rest)) →
        k ≡ one is_row → SoFar o now' r' left left2 before mid page' (count + k) limit was is'
    turned now' page' is_row k line ready took row = record {
      ran = goes-on now' page' is_row k (asked-as line asked) ready took row;
      bound = asked.limit ∙ so_far.bound;
      grown = all-grown;
      prompt = all-prompt;
    }

    -- a line came that stops the run
    pub stopped : {F : Type 0} (told : F → T) (number : ℕ) (last : Option (List ℕ)) (page' : List ℕ) (stop : Stop F)
        (f : RunFault F) → step ≡ Line → number ≡ r'.number → StopsAs stop number mid last page' f →
        IfBad (λ g. (text : List ℕ) × (page' ≡ page ++ text) × IsBadLine told now r' text g) stop →
        IsOver told o left left2 before last limit was is' (Err f)
    stopped told number last page' stop f line same stops bad =
        fault-over told o left left2 before last limit was is' f
        (stops-at told limit number last page' stop f (asked-as line asked) same stops bad so_far.bound)
        (grown_on before mid last all-grown (stopped_grows stop number mid last page' f stops)) all-prompt

    -- no line is left, and the run is over
    pub ended : {F : Type 0} (told : F → T) {number : ℕ} {result : Result ℕ (RunFault F)} → step ≡ End →
        (position (λ b. b == 10) r.held ≡ None → ((now []).text ≡ []) × ((now []).rows ≡ 0)) → number ≡ r'.number →
        EndsAs told (now []) number count result → IsOver told o left left2 before mid limit was is' result
    ended told end none number ends = record {
      answer = ends-at told (asked-as end asked) none number ends so_far.bound;
      grown = all-grown;
      prompt = all-prompt;
    }

-- asking for a line ended the run
pub asking-failed : {T F : Type 0} (told : F → T) {o now : List (List ℕ) → Outcome T} {r : LinesState}
    {left left1 left2 before after mid : Option (List ℕ)} {page : List ℕ} {count limit : ℕ} {was is is' : List Moment}
    (f : RunFault F) → SoFar o now r left left1 before after page count limit was is → Grows after mid →
    HoldsEachTime (IsAnswered o left before) is is' → IsFailed told o left left2 before mid r.limit f →
    IsOver told o left left2 before mid limit was is' (Err f)
asking-failed told {o} {now} {r} {left} {left1} {left2} {before} {after} {mid} {page} {count} {limit} {was} {is} {is'} f
    so_far grown prompt failed =
    fault-over told o left left2 before mid limit was is' f
    (subst (λ l. IsFailed told o left left2 before mid l f) so_far.bound failed)
    (grown_on before after mid so_far.grown grown)
    (noted_on (IsAnswered o left before) was is is' so_far.prompt prompt)

-- ---- the whole promise of a run
-- faults are told only where the streams had them
pub record IsCaused {F : Type 0} (old new : Streams) (result : Result ℕ (RunFault F)) : Type 0 where
  pub read_fault : IsErrOf result ReadFault → Rose old.source.faults new.source.faults
  pub write_fault : IsErrOf result WriteFault → Rose old.sink.faults new.sink.faults
  pub later : old.source.faults ≤ new.source.faults
  pub later_sink : old.sink.faults ≤ new.sink.faults

pub ends_run : {T F : Type 0} {told : F → T} {o : List (List ℕ) → Outcome T} {limit : ℕ} {old new : Streams}
    {result : Result ℕ (RunFault F)} →
    IsOver told o old.source.left new.source.left old.sink.taken new.sink.taken limit old.source.asked new.source.asked
    result → IsCaused old new result → EndsRun told o limit old new result
ends_run over caused = record {
  done = over.answer.done;
  end = over.answer.end;
  due = over.answer.due;
  prompt = over.prompt;
  taken = over.answer.taken;
  grown = over.grown;
  read_fault = caused.read_fault;
  write_fault = caused.write_fault;
  later = caused.later;
  later_sink = caused.later_sink;
}
