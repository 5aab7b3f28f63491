-- What stands written, and what was taken, when a run over lines ends.
use Rattle.std.specs.Prelude.{ℕ, ◌≡◌, ◌+◌, ◌≤◌, ◌<◌, ◌==◌, ◌⊎◌, ◌↔◌, List, [], ◌++◌, length, position, Option, Some, None, IfSome}
use Rattle.std.specs.Io.KnownBytes.{Consumes, Appends}
use Rattle.fx_base.specs.Text.{lines_in}
use Rattle.fx_base.specs.LineSteps.{EndsLine}
use Rattle.fx_base.specs.Moments.{Moment}
use Rattle.fx_stream.specs.Outcome.{Outcome}
use Rattle.fx_stream.specs.declared.fault.RunFault.{RunFault}
use Rattle.fx_stream.specs.declared.fault.RunFault.TheVariants.{Row, ReadFault, WriteFault, TooLong, Memory}

-- all is printed, and no line is bad
pub record IsDone {T : Type 0} (o : Outcome T) (count : ℕ) (before after : Option (List ℕ)) : Type 0 where
  pub good : o.bad ≡ None
  pub rows : o.rows ≡ count
  pub printed : Appends before after o.text

-- the line of this number, from 1, is the first bad one, and all before it is printed
pub record IsBadAt {T : Type 0} (o : Outcome T) (line : ℕ) (fault : T) (before after : Option (List ℕ)) : Type 0 where
  pub place : ℕ
  pub number : line ≡ place + 1
  pub bad : o.bad ≡ Some (place, fault)
  pub printed : Appends before after o.text

-- what was printed before stands, and some bytes behind it
abbrev pub Grows : Option (List ℕ) → Option (List ℕ) → Type 0
Grows before after = (sent : List ℕ) × Appends before after sent

-- a front of the text was printed
pub record PrintsFront (text : List ℕ) (before after : Option (List ℕ)) : Type 0 where
  pub sent : List ℕ
  pub rest : List ℕ
  pub parts : text ≡ sent ++ rest
  pub printed : Appends before after sent

-- the bytes are whole lines, or none
abbrev pub AreWholeLines : List ℕ → Type 0
AreWholeLines bytes = (bytes ≡ []) ⊎ EndsLine bytes

-- exactly the text of the taken lines that end with a line feed is printed
pub record PrintsWholeLines {T : Type 0} (o : List (List ℕ) →
    Outcome T) (left left' before after : Option (List ℕ)) : Type 0 where
  pub front : List ℕ
  pub rest : List ℕ
  pub taken : Consumes left left' (front ++ rest)
  pub whole : AreWholeLines front
  pub none : position (λ b. b == 10) rest ≡ None
  pub printed : Appends before after (o (lines_in front)).text

-- when it was asked for more, exactly the text of the taken lines that end with a line feed was printed
abbrev pub IsAnswered : {T : Type 0} → (List (List ℕ) → Outcome T) → Option (List ℕ) → Option (List ℕ) → Moment → Type 0
IsAnswered o left before m = PrintsWholeLines o left m.left before m.taken

-- of the taken bytes all but the last 131,072 at most are lines whose text is printed whole
pub record IsPrompt {T : Type 0} (o : List (List ℕ) →
    Outcome T) (left left' before after : Option (List ℕ)) : Type 0 where
  pub front : List ℕ
  pub rest : List ℕ
  pub more : List ℕ
  pub taken : Consumes left left' (front ++ rest)
  pub whole : AreWholeLines front
  pub few : length rest ≤ 131072
  pub printed : Appends before after ((o (lines_in front)).text ++ more)

-- of the taken bytes the last 131,072 at most begin with the line of this number
pub record IsLineNear (line : ℕ) (left left' : Option (List ℕ)) : Type 0 where
  pub front : List ℕ
  pub rest : List ℕ
  pub taken : Consumes left left' (front ++ rest)
  pub number : line ≡ length (lines_in front) + 1
  pub few : length rest ≤ 131072

-- what holds after each fault, where `told` is what the definitions call what is wrong with a line
abbrev pub IsDue : {T F : Type 0} → (F → T) → (List (List ℕ) → Outcome T) → Option (List ℕ) → Option (List ℕ) →
    Option (List ℕ) → Option (List ℕ) → RunFault F → Type 0
IsDue told o left left' before after (Row line fault) =
    IfSome left (λ all. IsBadAt (o (lines_in all)) line (told fault) before after) × IsLineNear line left left'
IsDue told o left left' before after ReadFault =
    IfSome left (λ all. PrintsFront (o (lines_in all)).text before after) × PrintsWholeLines o left left' before after
IsDue told o left left' before after WriteFault =
    IfSome left (λ all. PrintsFront (o (lines_in all)).text before after) × IsPrompt o left left' before after
IsDue told o left left' before after TooLong = IfSome left (λ all. PrintsFront (o (lines_in all)).text before after)
IsDue told o left left' before after Memory = IfSome left (λ all. PrintsFront (o (lines_in all)).text before after)

-- bytes were taken from the front, and more than `limit` of them exactly where the fault is TooLong
abbrev pub RunTakesUpTo : {F : Type 0} → Option (List ℕ) → Option (List ℕ) → ℕ → RunFault F → Type 0
RunTakesUpTo left left' limit fault =
    (taken : List ℕ) × Consumes left left' taken × ((fault ≡ TooLong) ↔ (limit < length taken))

-- both
abbrev pub IsFailed : {T F : Type 0} → (F → T) → (List (List ℕ) → Outcome T) → Option (List ℕ) → Option (List ℕ) →
    Option (List ℕ) → Option (List ℕ) → ℕ → RunFault F → Type 0
IsFailed told o left left' before after limit fault =
    IsDue told o left left' before after fault × RunTakesUpTo left left' limit fault
