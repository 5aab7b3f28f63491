-- Lemmas on how a run over lines ends.
use Rattle.std.proofs.Common.{◌≡◌, ℕ, ◌+◌, ◌≤◌, true, false, List, [], ◌∷◌, ◌++◌, Option, length, take, drop, arith, refl, sym, ap, subst, ◌∙◌, append_assoc, append-nil, inl, inr}
use Rattle.std.specs.Prelude.{◌==◌, ◌<◌, ◌↔◌, None, Some, position, Result, Ok, Err, IsErrOf, IfSome}
use Rattle.std.specs.Io.KnownBytes.{Consumes, Appends, IsAtEnd}
use Rattle.std.specs.Str.Lines.{lines}
use Rattle.std.proofs.KnownBytes.{Consumes-nil, Consumes-trans, Appends-nil, Appends-trans}
use Rattle.std.proofs.lemmas.List.{length-append, take-append-drop, nil_from_length}
use Rattle.fx_base.specs.Calls.{AppendsFront}
use Rattle.fx_base.specs.Text.{text_at, lines_in}
use Rattle.fx_base.specs.LineSteps.{LinesState, IsFirstLine, TakesLine}
use Rattle.fx_stream.specs.Outcome.{Outcome, behind_lines, stopped_lines}
use Rattle.fx_rows.specs.ReadRows.{moved_down}
use Rattle.fx_stream.specs.Promise.{IsDone, IsBadAt, IsPrompt, PrintsFront, PrintsWholeLines, IsDue, IsFailed, RunTakesUpTo}
use Rattle.fx_stream.specs.Outcome.{IfBad}
use Rattle.fx_stream.specs.Running.{Ran, Asked, EndsAs, HasNoLine, HasLine, IsAnswer, IsBadLine, StopsAs}
use Rattle.fx_stream.specs.declared.printer.Stop.{Stop}
use Rattle.fx_stream.specs.declared.printer.Stop.TheVariants.{Bad}
use Rattle.fx_stream.specs.declared.printer.Stop.TheVariants as stop
use Rattle.fx_stream.specs.declared.fault.RunFault.{RunFault}
use Rattle.fx_stream.proofs.Turns.{total, up-to}
use Rattle.fx_stream.specs.declared.fault.RunFault.TheVariants as fault
use Rattle.fx_stream.specs.declared.fault.RunFault.TheVariants.{Row, ReadFault, WriteFault}
use Rattle.fx_stream.proofs.Outcomes.{behind-held, behind-same}
use Rattle.fx_stream.proofs.Steps.{lines-front, text-front}

-- bytes that were taken of known ones stand in front of what is left
known : (a b : Option (List ℕ)) (bytes : List ℕ) (P : List ℕ → Type 0) → Consumes a b bytes →
    ((ys : List ℕ) → b ≡ Some ys → P (bytes ++ ys)) → IfSome a P
known None b bytes P c f = tt
known (Some xs) None bytes P c f = absurd c
known (Some xs) (Some ys) bytes P c f = subst P (sym c) (f ys refl)

-- nothing is left at the end
ended-rest : (held ys : List ℕ) (left : Option (List ℕ)) → held ≡ [] → IsAtEnd left → left ≡ Some ys → held ++ ys ≡ []
ended-rest held ys left h end e = ap (λ t. t ++ ys) h ∙ subst IsAtEnd e end

regrouped : (s a b x : List ℕ) → (s ++ (a ++ b)) ++ x ≡ (s ++ a) ++ (b ++ x)
regrouped s a b x = ap (λ t. t ++ x) (sym (append_assoc s a b)) ∙ append_assoc (s ++ a) b x

-- what was written is a front of the text, whatever comes
pub cut-short : {T : Type 0} (o now : List (List ℕ) →
    Outcome T) (r : LinesState) (left left1 before after after' : Option (List ℕ)) (page : List ℕ) (count bound n : ℕ)
    → Ran o now r left left1 before after page count bound → Appends after after' (take n page) →
    IfSome left (λ all. PrintsFront (o (lines_in all)).text before after')
cut-short {T = T} o now r left left1 before after after' page count bound n ran put =
    known left left1 (ran.front ++ r.held) (λ all. PrintsFront (o (lines_in all)).text before after') ran.taken (λ ys e.
    let rest = lines (text_at (r.number == 0) (r.held ++ ys)) in
    let more = (now rest).text in
    let all : lines_in ((ran.front ++ r.held) ++ ys) ≡ ran.done ++ rest =
    ap lines_in (append_assoc ran.front r.held ys)
    ∙ ran.cuts (r.held ++ ys) (λ f. ended-rest r.held ys left1 (ran.ended f).0 (ran.ended f).1 e) in
    record {
      sent = ran.sent ++ take n page;
      rest = drop n page ++ more;
      parts = ap (λ t. (o t).text) all ∙ ap (λ (x : Outcome T). x.text) (ran.printed rest)
          ∙ ap (λ p. (ran.sent ++ p) ++ more) (sym (take-append-drop n page))
          ∙ regrouped ran.sent (take n page) (drop n page) more;
      printed = Appends-trans before after after' ran.sent (take n page) ran.written put;
    })

-- the same where nothing more was written
pub cut-here : {T : Type 0} (o now : List (List ℕ) →
    Outcome T) (r : LinesState) (left left1 before after : Option (List ℕ)) (page : List ℕ) (count bound : ℕ)
    → Ran o now r left left1 before after page count bound →
    IfSome left (λ all. PrintsFront (o (lines_in all)).text before after)
cut-here o now r left left1 before after page count bound ran =
    cut-short o now r left left1 before after after page count bound 0 ran (Appends-nil after)

-- where a write failed, what was written before it stands for all but the last bytes
prompt-so-far : {T : Type 0} (o now : List (List ℕ) →
    Outcome T) (r : LinesState) (left left1 left2 before after after' : Option (List ℕ)) (page page' more : List ℕ)
    (count bound : ℕ)
    → (ran : Ran o now r left left1 before after page count bound) → Consumes left1 left2 more →
    length ran.late + (length r.held + length more) ≤ 131072
    → AppendsFront after after' page' → IsPrompt o left left2 before after'
prompt-so-far o now r left left1 left2 before after after' page page' more count bound ran took few put = record {
  front = ran.early;
  rest = ran.late ++ (r.held ++ more);
  more = ran.extra ++ take put.0 page';
  taken = subst (Consumes left left2)
      (append_assoc ran.front r.held more ∙ ap (λ t. t ++ (r.held ++ more)) ran.parts
      ∙ append_assoc ran.early ran.late (r.held ++ more))
      (Consumes-trans left left1 left2 (ran.front ++ r.held) more ran.taken took);
  whole = ran.early_whole;
  few = omega (arith, length-append ran.late (r.held ++ more), length-append r.held more);
  printed = subst (Appends before after')
      (ap (λ t. t ++ take put.0 page') ran.early_text
      ∙ append_assoc (o (lines_in ran.early)).text ran.extra (take put.0 page'))
      (Appends-trans before after after' ran.sent (take put.0 page') ran.written put.2);
}

-- a write failed
pub write-failed : {T F : Type 0} (told : F → T) (o now : List (List ℕ) →
    Outcome T) (r : LinesState) (left left1 left2 before after after' : Option (List ℕ)) (page more : List ℕ)
    (count bound : ℕ)
    → (ran : Ran o now r left left1 before after page count bound) → Consumes left1 left2 more →
    length ran.late + (length r.held + length more) ≤ 131072
    → AppendsFront after after' page → IsDue told o left left2 before after' WriteFault
write-failed told o now r left left1 left2 before after after' page more count bound ran took few put = (
  cut-short o now r left left1 before after after' page count bound put.0 ran put.2,
  prompt-so-far o now r left left1 left2 before after after' page page more count bound ran took few put,
)

-- a write failed before the source was asked
pub not-written : {T F : Type 0} (told : F → T) {o now : List (List ℕ) → Outcome T} {r : LinesState}
    {left left1 before after after' : Option (List ℕ)} {page : List ℕ} {count bound : ℕ}
    → Ran o now r left left1 before after page count bound → AppendsFront after after' page →
    IsFailed told o left left1 before after' bound WriteFault
not-written told {o} {now} {r} {left} {left1} {before} {after} {after'} {page} {count} {bound} ran put =
    let within = ran.within in (
      write-failed told o now r left left1 left1 before after after' page [] count bound ran (Consumes-nil left1)
          (omega (arith, ran.prompt)) put,
      up-to o now r left left1 left1 before after page [] count bound WriteFault ran (Consumes-nil left1) (omega arith)
          (λ e. absurd cc),
    )

-- all is printed of the lines that were taken
pub lines-printed : {T : Type 0} (o now : List (List ℕ) →
    Outcome T) (r : LinesState) (left left1 left2 before after : Option (List ℕ)) (page more : List ℕ) (count bound : ℕ)
    → (now []).text ≡ [] → (ran : Ran o now r left left1 before after page count bound) → page ≡ [] →
    r.is_ended ≡ false → Consumes left1 left2 more
    → position (λ b. b == 10) (r.held ++ more) ≡ None → PrintsWholeLines o left left2 before after
lines-printed o now r left left1 left2 before after page more count bound none ran empty unended took nowhere = record {
  front = ran.front;
  rest = r.held ++ more;
  taken =
      subst (Consumes left left2) (append_assoc ran.front r.held more)
      (Consumes-trans left left1 left2 (ran.front ++ r.held) more ran.taken took);
  whole = ran.whole unended;
  none = nowhere;
  printed = subst (Appends before after)
      (sym (append-nil ran.sent) ∙ ap (λ t. ran.sent ++ t) (sym empty)
      ∙ sym (text-front o now r left left1 before after page count bound none ran)) ran.written;
}

-- a read failed
pub read-failed : {T F : Type 0} (told : F → T) (o now : List (List ℕ) →
    Outcome T) (r : LinesState) (left left1 left2 before after : Option (List ℕ)) (page more : List ℕ) (count bound : ℕ)
    → (now []).text ≡ [] → (ran : Ran o now r left left1 before after page count bound) → page ≡ [] →
    r.is_ended ≡ false → Consumes left1 left2 more
    → position (λ b. b == 10) (r.held ++ more) ≡ None → IsDue told o left left2 before after ReadFault
read-failed told o now r left left1 left2 before after page more count bound none ran empty unended took nowhere = (
  cut-here o now r left left1 before after page count bound ran,
  lines-printed o now r left left1 left2 before after page more count bound none ran empty unended took nowhere,
)

-- the next line is bad, and this text was held back
module _ {T F : Type 0} (told : F → T) (o now : List (List ℕ) →
    Outcome T) (r r' : LinesState) (left left1 left2 before after after' : Option (List ℕ)) (page text more : List ℕ)
    (count bound : ℕ) (fault : F)
    (ran : Ran o now r left left1 before after page count bound) (unended : r.is_ended ≡ false)
    (took : Consumes left1 left2 more) (t : TakesLine r r' more)
    (ended : r'.is_ended ≡ true →
    IsAtEnd left2) (few : length r.held + length more ≤ 131072) (stops : IsBadLine told now r' text fault) where
  abbrev bytes : List ℕ
  bytes = ran.front ++ (r.held ++ more)

  bytes-taken : Consumes left left2 bytes
  bytes-taken =
      subst (Consumes left left2) (append_assoc ran.front r.held more)
      (Consumes-trans left left1 left2 (ran.front ++ r.held) more ran.taken took)

  next : r'.number ≡ length ran.done + 1
  next = t.number ∙ ap (λ k. k + 1) ran.number

  all-cut : (ys : List ℕ) → left2 ≡ Some ys →
      o (lines_in (bytes ++ ys)) ≡ behind_lines (length ran.done) (ran.sent ++ (page ++ text)) count
      (stopped_lines (told fault))
  all-cut ys e =
      let raw = t.raw in
      let rest = r'.held ++ ys in
      let first : IsFirstLine r' (lines (text_at (r.number == 0) (raw ++ rest))) (lines rest) =
      t.line rest (λ f. ended-rest r'.held ys left2 (t.ended f) (ended f) e) in
      let split : bytes ++ ys ≡ ran.front ++ (raw ++ rest) =
      append_assoc ran.front (r.held ++ more) ys ∙ ap (λ x. ran.front ++ (x ++ ys)) t.parts
      ∙ ap (λ x. ran.front ++ x) (append_assoc raw r'.held ys) in
      let stop = stopped_lines (told fault) in
      ap (λ x. o (lines_in x)) split
      ∙ ap o (ran.cuts (raw ++ rest) (λ f. absurd (cc)) ∙ ap (λ x. ran.done ++ x) first.cut)
      ∙ ran.printed (first.whole ∷ first.behind)
      ∙ ap (behind_lines (length ran.done) (ran.sent ++ page) count)
      (stops first.whole first.behind (first.line, first.ready))
      ∙ behind-held (length ran.done) (ran.sent ++ page) text count stop
      ∙ behind-same _ _ _ _ _ _ stop refl (append_assoc ran.sent page text) refl

  all-text : (ys : List ℕ) → left2 ≡ Some ys → (o (lines_in (bytes ++ ys))).text ≡ ran.sent ++ (page ++ text)
  all-text ys e = ap (λ (x : Outcome T). x.text) (all-cut ys e) ∙ append-nil (ran.sent ++ (page ++ text))

  -- what was printed before it is written
  pub line-failed : Appends after after' (page ++ text) → IsDue told o left left2 before after' (Row r'.number fault)
  line-failed put = (
    known left left2 bytes (λ all. IsBadAt (o (lines_in all)) r'.number (told fault) before after') bytes-taken
        (λ ys e. record {
          place = length ran.done;
          number = next;
          bad = ap (λ (x : Outcome T). x.bad) (all-cut ys e)
              ∙ ap (λ k. Some (k, told fault)) (let z : length ran.done + 0 ≡ length ran.done = omega arith in z);
          printed =
              subst (Appends before after') (sym (all-text ys e))
              (Appends-trans before after after' ran.sent (page ++ text) ran.written put);
        }),
    record {
      front = ran.front;
      rest = r.held ++ more;
      taken = bytes-taken;
      number = next ∙ ap (λ x. length x + 1) (sym (lines-front o now r left left1 before after page count bound ran));
      few = omega (arith, length-append r.held more);
    },
  )

  -- the write of that failed
  pub line-cut : length ran.late + (length r.held + length more) ≤ 131072 → AppendsFront after after' (page ++ text) →
      IsDue told o left left2 before after' WriteFault
  line-cut near put =
      let n = put.0 in (
        known left left2 bytes (λ all. PrintsFront (o (lines_in all)).text before after') bytes-taken (λ ys e. record {
          sent = ran.sent ++ take n (page ++ text);
          rest = drop n (page ++ text);
          parts = all-text ys e ∙ ap (λ p. ran.sent ++ p) (sym (take-append-drop n (page ++ text)))
              ∙ sym (append_assoc ran.sent (take n (page ++ text)) (drop n (page ++ text)));
          printed = Appends-trans before after after' ran.sent (take n (page ++ text)) ran.written put.2;
        }),
        prompt-so-far o now r left left1 left2 before after after' page
            (page ++ text) more count bound ran took near put,
      )

-- the lines of an input that has ended
all-lines : {T : Type 0} (o now : List (List ℕ) →
    Outcome T) (r : LinesState) (left left1 before after : Option (List ℕ)) (page more : List ℕ) (count bound : ℕ)
    → (ran : Ran o now r left left1 before after page count bound) → text_at (r.number == 0) (r.held ++ more) ≡ [] →
    (r.is_ended ≡ true → length more ≡ 0)
    → lines_in (ran.front ++ (r.held ++ more)) ≡ ran.done
all-lines o now r left left1 before after page more count bound ran none quiet =
    ran.cuts (r.held ++ more) (λ f. ap (λ t. t ++ more) (ran.ended f).0 ∙ nil_from_length more (quiet f))
    ∙ ap (λ t. ran.done ++ lines t) none ∙ append-nil ran.done

all-outcome : {T : Type 0} (o now : List (List ℕ) →
    Outcome T) (r : LinesState) (left left1 left2 before after : Option (List ℕ)) (page more ys : List ℕ)
    (count bound : ℕ)
    → (ran : Ran o now r left left1 before after page count bound) → text_at (r.number == 0) (r.held ++ more) ≡ [] →
    (r.is_ended ≡ true → length more ≡ 0)
    → IsAtEnd left2 → left2 ≡ Some ys
    → o (lines_in ((ran.front ++ (r.held ++ more)) ++ ys))
    ≡ behind_lines (length ran.done) (ran.sent ++ page) count (now [])
all-outcome o now r left left1 left2 before after page more ys count bound ran none quiet end e =
    ap (λ t. o (lines_in t)) (ap (λ t. (ran.front ++ (r.held ++ more)) ++ t) (subst IsAtEnd e end)
    ∙ append-nil (ran.front ++ (r.held ++ more)))
    ∙ ap o (all-lines o now r left left1 before after page more count bound ran none quiet ∙ sym (append-nil ran.done))
    ∙ ran.printed []

-- the input has ended, and all is well
pub all-done : {T : Type 0} (o now : List (List ℕ) →
    Outcome T) (r : LinesState) (left left1 left2 before after : Option (List ℕ)) (page more : List ℕ) (count bound : ℕ)
    → ((now []).text ≡ []) × ((now []).rows ≡ 0) → (now []).bad ≡ None →
    (ran : Ran o now r left left1 before after page count bound) → page ≡ []
    → Consumes left1 left2 more → text_at (r.number == 0) (r.held ++ more) ≡ [] →
    (r.is_ended ≡ true → length more ≡ 0) → IsAtEnd left2
    → IfSome left (λ all. IsDone (o (lines_in all)) count before after)
all-done {T = T} o now r left left1 left2 before after page more count bound nothing good ran empty took none quiet
    end =
    known left left2 (ran.front ++ (r.held ++ more)) (λ all. IsDone (o (lines_in all)) count before after)
    (subst (Consumes left left2) (append_assoc ran.front r.held more)
    (Consumes-trans left left1 left2 (ran.front ++ r.held) more ran.taken took)) (λ ys e.
    let all = all-outcome o now r left left1 left2 before after page more ys count bound ran none quiet end e in
    record {
      good = ap (λ (x : Outcome T). x.bad) all ∙ ap (moved_down (length ran.done)) good;
      rows = ap (λ (x : Outcome T). x.rows) all ∙ ap (λ n. count + n) nothing.1
          ∙ (let z : count + 0 ≡ count = omega arith in z);
      printed = subst (Appends before after)
          (sym (ap (λ (x : Outcome T). x.text) all ∙ ap (λ t. (ran.sent ++ page) ++ t) nothing.0
          ∙ append-nil (ran.sent ++ page) ∙ ap (λ t. ran.sent ++ t) empty ∙ append-nil ran.sent))
          ran.written;
    })

-- the input has ended, and something is missing
pub end-failed : {T F : Type 0} (told : F → T) (o now : List (List ℕ) →
    Outcome T) (r : LinesState) (left left1 left2 before after : Option (List ℕ)) (page more : List ℕ) (count bound : ℕ)
    (fault : F)
    → ((now []).text ≡ []) × ((now []).rows ≡ 0) → (now []).bad ≡ Some (0, told fault) →
    (ran : Ran o now r left left1 before after page count bound) → page ≡ []
    → Consumes left1 left2 more → text_at (r.number == 0) (r.held ++ more) ≡ [] →
    (r.is_ended ≡ true → length more ≡ 0) → IsAtEnd left2
    → IsDue told o left left2 before after (Row (r.number + 1) fault)
end-failed {T = T} told o now r left left1 left2 before after page more count bound fault nothing bad ran empty took
    none quiet end =
    let bytes = ran.front ++ (r.held ++ more) in
    let taken : Consumes left left2 bytes =
    subst (Consumes left left2) (append_assoc ran.front r.held more)
    (Consumes-trans left left1 left2 (ran.front ++ r.held) more ran.taken took) in (
      known left left2 bytes (λ all. IsBadAt (o (lines_in all)) (r.number + 1) (told fault) before after) taken (λ ys e.
          let all = all-outcome o now r left left1 left2 before after page more ys count bound ran none quiet end e in
          record {
            place = length ran.done;
            number = ap (λ k. k + 1) ran.number;
            bad = ap (λ (x : Outcome T). x.bad) all ∙ ap (moved_down (length ran.done)) bad
                ∙ ap (λ k. Some (k, told fault)) (let z : length ran.done + 0 ≡ length ran.done = omega arith in z);
            printed = subst (Appends before after)
                (sym (ap (λ (x : Outcome T). x.text) all ∙ ap (λ t. (ran.sent ++ page) ++ t) nothing.0
                ∙ append-nil (ran.sent ++ page) ∙ ap (λ t. ran.sent ++ t) empty ∙ append-nil ran.sent))
                ran.written;
          }),
      record {
        front = bytes;
        rest = [];
        taken = subst (Consumes left left2) (sym (append-nil bytes)) taken;
        number = ap (λ k. k + 1) ran.number
            ∙ ap (λ x. length x + 1)
            (sym (all-lines o now r left left1 before after page more count bound ran none quiet));
        few = omega arith;
      },
    )

-- how the run ends at a line that stops it
pub line-stopped : {T F : Type 0} (told : F → T) (o now : List (List ℕ) →
    Outcome T) (r r' : LinesState) (left left1 left2 before mid last : Option (List ℕ)) (page page' more : List ℕ)
    (count bound : ℕ) (stop : Stop F) (f : RunFault F)
    → (asked : Asked o now r left left1 left2 before mid page more count bound) → HasLine r r' left2 more →
    length r.held + length more ≤ 131072 → r.taken + length more ≤ bound
    → StopsAs stop r'.number mid last page' f →
    IfBad (λ g. (text : List ℕ) × (page' ≡ page ++ text) × IsBadLine told now r' text g) stop →
    IsFailed told o left left2 before last bound f
line-stopped told o now r r' left left1 left2 before mid last page page' more count bound
    (Bad g) f asked line few within (inl whole) bad = (
      subst (IsDue told o left left2 before last) (sym whole.0)
          (line-failed told o now r r' left left1 left2 before mid last page bad.0 more count bound g asked.ran
          line.unended asked.took line.takes line.ended few bad.2 (subst (Appends mid last) bad.1 whole.1)),
      up-to o now r left left1 left2 before mid page more count bound f asked.ran asked.took within
          (λ e. let z = sym whole.0 ∙ e in absurd cc),
    )
line-stopped told o now r r' left left1 left2 before mid last page page' more count bound
    (Bad g) f asked line few within (inr cut) bad = (
      subst (IsDue told o left left2 before last) (sym cut.0)
          (line-cut told o now r r' left left1 left2 before mid last page bad.0 more count bound g asked.ran
          line.unended asked.took line.takes line.ended few bad.2 (asked.near line.unended)
          (subst (AppendsFront mid last) bad.1 cut.1)),
      up-to o now r left left1 left2 before mid page more count bound f asked.ran asked.took within
          (λ e. let z = sym cut.0 ∙ e in absurd cc),
    )
line-stopped told o now r r' left left1 left2 before mid last page page' more count bound stop.Memory f asked line few
    within stops bad = (
      subst (IsDue told o left left2 before last) (sym stops.0)
          (subst (λ a. IfSome left (λ all. PrintsFront (o (lines_in all)).text before a)) (sym stops.1)
          (cut-here o now r left left1 before mid page count bound asked.ran)),
      up-to o now r left left1 left2 before mid page more count bound f asked.ran asked.took within
          (λ e. let z = sym stops.0 ∙ e in absurd cc),
    )

-- the same told of the answer
pub of-result : {F : Type 0} (left left' : Option (List ℕ)) (limit : ℕ) (f : RunFault F) →
    RunTakesUpTo left left' limit f
    → (taken : List ℕ) × Consumes left left' taken × (IsErrOf {T = ℕ} (Err f) fault.TooLong ↔ (limit < length taken))
of-result left left' limit f t =
    (t.0, t.1, ((λ e. t.2.0 (let same : f ≡ fault.TooLong = cc in same)), (λ h. ap Err (t.2.1 h))))

-- no line is left
pub lines-ended : {T F : Type 0} (told : F → T) (o now : List (List ℕ) →
    Outcome T) (r r' : LinesState) (left left1 left2 before mid : Option (List ℕ)) (page more : List ℕ)
    (count bound : ℕ) (result : Result ℕ (RunFault F))
    → ((now []).text ≡ []) × ((now []).rows ≡ 0) →
    (asked : Asked o now r left left1 left2 before mid page more count bound) → HasNoLine r r' left2 page more →
    r.taken + length more ≤ bound
    → EndsAs told (now []) r'.number count result → IsAnswer told o left left2 before mid bound result
lines-ended told o now r r' left left1 left2 before mid page more count bound (Ok n) nothing asked over within ends =
    record {
      done = subst (λ k. IfSome left (λ all. IsDone (o (lines_in all)) k before mid)) (sym ends.1)
          (all-done o now r left left1 left2 before mid page more count bound nothing ends.0 asked.ran over.empty
          asked.took over.none asked.quiet over.end);
      end = over.end;
      due = tt;
      taken =
          let all = total o now r left left1 left2 before mid page more count bound asked.ran asked.took in
          let size : length all.0 ≡ r.taken + length more = all.2 in
          (all.0, all.1, ((λ e. absurd cc), (λ h. absurd (omega arith))));
    }
lines-ended told o now r r' left left1 left2 before mid page more count bound (Err f) nothing asked over within ends =
    record {
      done = tt;
      end = tt;
      due = subst (IsDue told o left left2 before mid) (ap (λ k. Row (k + 1) ends.0) (sym over.number) ∙ sym ends.1)
          (end-failed told o now r left left1 left2 before mid page more count bound ends.0 nothing ends.2 asked.ran
          over.empty asked.took over.none asked.quiet over.end);
      taken =
          of-result left left2 bound f
          (up-to o now r left left1 left2 before mid page more count bound f asked.ran asked.took within
          (λ e. let z = sym ends.1 ∙ e in absurd cc));
    }
