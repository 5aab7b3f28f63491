-- What a run over lines has done so far. No clause of a public call rests on this.
use Rattle.std.specs.Prelude.{ℕ, ◌≡◌, ◌+◌, ◌≤◌, ◌==◌, ◌⊎◌, take, nat_lt, List, [], ◌∷◌, ◌++◌, length, position, Bool, true, false, Option, Some, None, Result, Ok, Err, IfOk, IfErr, OnOk, IsErrOf, IfSome, ◌<◌, ◌↔◌}
use Rattle.std.specs.Io.KnownBytes.{Consumes, Appends, IsAtEnd}
use Rattle.std.specs.Str.Lines.{lines}
use Rattle.fx_base.specs.Text.{text_at, lines_in}
use Rattle.fx_base.specs.LineSteps.{LinesState, TakesLine}
use Rattle.fx_base.specs.Calls.{AppendsFront}
use Rattle.fx_base.specs.declared.answers.LineFault.{LineFault}
use Rattle.fx_base.specs.declared.answers.LineFault.TheVariants as line
use Rattle.fx_base.specs.declared.lines.LineStep.{LineStep}
use Rattle.fx_base.specs.declared.lines.LineStep.TheVariants.{Line, End}
use Rattle.fx_stream.specs.Outcome.{Outcome, behind_lines, behind_text, stopped_lines}
use Rattle.fx_base.specs.Moments.{Moment, HoldsEachTime}
use Rattle.fx_stream.specs.Promise.{AreWholeLines, Grows, IsAnswered, IsDone, IsDue}
use Rattle.fx_stream.specs.Rooms.{HasRoom}
use Rattle.fx_stream.specs.declared.fault.RunFault.{RunFault}
use Rattle.fx_stream.specs.declared.fault.RunFault.TheVariants as fault
use Rattle.fx_stream.specs.declared.printer.Stop.{Stop}
use Rattle.fx_stream.specs.declared.printer.Stop.TheVariants.{Bad, Memory}

-- no line is taken yet
abbrev pub fresh_lines : ℕ → LinesState
fresh_lines bound =
    record { line = []; held = []; number = 0; taken = 0; limit = bound; is_ready = true; is_ended = false }

-- the bytes of the lines that were answered, and those lines
pub record Ran {T : Type 0} (first now : List (List ℕ) →
    Outcome T) (r : LinesState) (left left' before after : Option (List ℕ)) (page : List ℕ)
    (count bound : ℕ) : Type 0 where
  pub front : List ℕ
  pub done : List (List ℕ)
  pub sent : List ℕ
  pub taken : Consumes left left' (front ++ r.held)
  pub size : r.taken ≡ length front + length r.held
  pub cuts : (rest : List ℕ) → (r.is_ended ≡ true → rest ≡ []) →
      lines_in (front ++ rest) ≡ done ++ lines (text_at (r.number == 0) rest)
  pub whole : r.is_ended ≡ false → AreWholeLines front
  pub ended : r.is_ended ≡ true → (r.held ≡ []) × IsAtEnd left'
  pub printed : (rest : List (List ℕ)) →
      first (done ++ rest) ≡ behind_lines (length done) (sent ++ page) count (now rest)
  pub written : Appends before after sent
  pub number : r.number ≡ length done
  pub counts : r.number + length r.held ≤ r.taken
  pub limit : r.limit ≡ bound
  pub within : r.taken ≤ bound
  pub ready : r.is_ready ≡ true
  pub few : count ≤ r.number
  -- the lines whose text is written, and the bytes behind them
  pub early : List ℕ
  pub late : List ℕ
  pub parts : front ≡ early ++ late
  pub early_whole : AreWholeLines early
  pub extra : List ℕ
  pub early_text : sent ≡ (first (lines_in early)).text ++ extra
  pub prompt : length late + length r.held ≤ 131072

-- what is printed is to be written: no whole line is held, or there is no room for what the next one prints
abbrev pub GoesOut : LinesState → List ℕ → Type 0
GoesOut r page = (position (λ b. b == 10) r.held ≡ None) ⊎ (HasRoom page → ⊥)

-- why text is written: it has to be, or there is no room for what the next line prints
abbrev pub IsUrgent : Bool → List ℕ → Type 0
IsUrgent must page = (must ≡ true) ⊎ (HasRoom page → ⊥)

-- all is written with reason, or nothing where that isn't asked for
abbrev pub IsFlushed : Bool → Option (List ℕ) → Option (List ℕ) → List ℕ → List ℕ → Type 0
IsFlushed must before after old new =
    (IsUrgent must old × (new ≡ []) × Appends before after old) ⊎ ((must ≡ false) × (new ≡ old) × (after ≡ before))

-- the next line was asked for: what was printed before is written or kept, and these bytes more were taken
pub record Asked {T : Type 0} (o now : List (List ℕ) →
    Outcome T) (r : LinesState) (left left1 left2 before mid : Option (List ℕ)) (page more : List ℕ)
    (count bound : ℕ) : Type 0 where
  pub ran : Ran o now r left left1 before mid page count bound
  pub took : Consumes left1 left2 more
  pub near : r.is_ended ≡ false → length ran.late + (length r.held + length more) ≤ 131072
  pub quiet : r.is_ended ≡ true → length more ≡ 0

-- a line came
pub record HasLine (r r' : LinesState) (left : Option (List ℕ)) (more : List ℕ) : Type 0 where
  pub unended : r.is_ended ≡ false
  pub takes : TakesLine r r' more
  pub ended : r'.is_ended ≡ true → IsAtEnd left
  pub counts : r'.is_ready ≡ true → r'.number + length r'.held ≤ r'.taken

-- no line is left, and all is written
pub record HasNoLine (r r' : LinesState) (left : Option (List ℕ)) (page more : List ℕ) : Type 0 where
  pub empty : page ≡ []
  pub none : text_at (r.number == 0) (r.held ++ more) ≡ []
  pub end : IsAtEnd left
  pub number : r'.number ≡ r.number
  pub unheld : position (λ b. b == 10) r.held ≡ None

abbrev pub HasStepped : LineStep → LinesState → LinesState → Option (List ℕ) → List ℕ → List ℕ → Type 0
HasStepped Line r r' left page more = HasLine r r' left more
HasStepped End r r' left page more = HasNoLine r r' left page more

-- what a call for a line gave, as a run tells it
abbrev pub as_run : {F : Type 0} → Result LineStep LineFault → Result LineStep (RunFault F)
as_run (Ok step) = Ok step
as_run (Err line.ReadFault) = Err fault.ReadFault
as_run (Err line.TooLong) = Err fault.TooLong

-- what asking for a line gives
pub record IsAsked {T : Type 0} (o now : List (List ℕ) →
    Outcome T) (r r' : LinesState) (left left1 left2 before mid : Option (List ℕ)) (page : List ℕ) (count bound : ℕ)
    (step : LineStep) : Type 0 where
  pub more : List ℕ
  pub asked : Asked o now r left left1 left2 before mid page more count bound
  pub sum : r'.taken ≡ r.taken + length more
  pub few : length r.held + length more ≤ 131072
  pub within : r'.taken ≤ bound
  pub limit : r'.limit ≡ r.limit
  pub stepped : HasStepped step r r' left2 page more

-- the line that is shown is this one, but for the bytes behind 65,537
abbrev pub IsShown : LinesState → List ℕ → Type 0
IsShown r whole = (r.line ≡ take 65537 whole) × (r.is_ready ≡ nat_lt (length whole) 65537)

-- what a bad line comes to behind what was held back, told of the lines that it may be
abbrev pub IsBadLine : {T F : Type 0} → (F → T) → (List (List ℕ) → Outcome T) → LinesState → List ℕ → F → Type 0
IsBadLine told now r text f = (whole : List ℕ) (rest : List (List ℕ)) → IsShown r whole →
    now (whole ∷ rest) ≡ behind_text text (stopped_lines (told f))

-- how the run ends at a line that stops it: what was printed before is written, or the write fails
abbrev pub StopsAs : {F : Type 0} → Stop F → ℕ → Option (List ℕ) → Option (List ℕ) → List ℕ → RunFault F → Type 0
StopsAs (Bad f) number before after page g =
    ((g ≡ fault.Row number f) × Appends before after page) ⊎ ((g ≡ fault.WriteFault) × AppendsFront before after page)
StopsAs Memory number before after page g = (g ≡ fault.Memory) × (after ≡ before)

-- how it ends where no line is left: with the number of rows, or with what is missing
abbrev pub EndsAs : {T F : Type 0} → (F → T) → Outcome T → ℕ → ℕ → Result ℕ (RunFault F) → Type 0
EndsAs told o number count (Ok n) = (o.bad ≡ None) × (n ≡ count)
EndsAs {F = F} told o number count (Err g) = (f : F) × (g ≡ fault.Row (number + 1) f) × (o.bad ≡ Some (0, told f))

-- what a run's answer says of what was printed and taken
pub record IsAnswer {T F : Type 0} (told : F → T) (o : List (List ℕ) →
    Outcome T) (left left' before after : Option (List ℕ)) (limit : ℕ) (result : Result ℕ (RunFault F)) : Type 0 where
  pub done : IfOk result (λ n. IfSome left (λ all. IsDone (o (lines_in all)) n before after))
  pub end : OnOk result (IsAtEnd left')
  pub due : IfErr result (IsDue told o left left' before after)
  pub taken : (taken : List ℕ) × Consumes left left' taken × (IsErrOf result fault.TooLong ↔ (limit < length taken))

-- a run is over, and the source was asked at the moments `was` before and at `is` since the start
pub record IsOver {T F : Type 0} (told : F → T) (o : List (List ℕ) →
    Outcome T) (left left' before after : Option (List ℕ)) (limit : ℕ) (was is : List Moment)
    (result : Result ℕ (RunFault F)) : Type 0 where
  pub answer : IsAnswer told o left left' before after limit result
  pub grown : Grows before after
  pub prompt : HoldsEachTime (IsAnswered o left before) was is
