-- Lemmas on a run over lines: its start, a flush, and a line that is taken.
use Rattle.std.proofs.Common.{◌≡◌, ℕ, ◌+◌, ◌<◌, ◌≤◌, Bool, true, false, List, [], ◌∷◌, ◌++◌, Option, length, arith, refl, sym, ap, subst, ◌∙◌, append_assoc, append-nil}
use Rattle.std.specs.Prelude.{◌==◌}
use Rattle.std.specs.Io.KnownBytes.{Consumes, Appends, IsAtEnd}
use Rattle.std.specs.Str.Lines.{lines}
use Rattle.std.proofs.KnownBytes.{Consumes-nil, Consumes-trans, Appends-nil, Appends-trans}
use Rattle.std.proofs.lemmas.List.{length-append, take_all}
use Rattle.std.proofs.Common.{inl, inr}
use borrow.Author.Tests.{ltb-true}
use Rattle.fx_base.specs.Text.{text_at, lines_in}
use Rattle.fx_base.specs.LineSteps.{LinesState, IsFirstLine, EndsLine, TakesLine}
use Rattle.fx_stream.specs.Outcome.{Outcome, behind_lines, behind_text}
use Rattle.fx_stream.specs.Promise.{AreWholeLines}
use Rattle.fx_stream.specs.Running.{Ran, IsFlushed, IsUrgent, fresh_lines}
use Rattle.fx_stream.proofs.Outcomes.{behind-held, behind-twice, behind-same, behind-nothing}

-- no line is left in nothing
pub nothing-left : (is_first : Bool) → lines (text_at is_first []) ≡ []
nothing-left true = refl
nothing-left false = refl

pub start : {T : Type 0} (o : List (List ℕ) → Outcome T) (left before : Option (List ℕ)) (bound : ℕ) →
    (o []).text ≡ [] → Ran o o (fresh_lines bound) left left before before [] 0 bound
start o left before bound none = record {
  front = [];
  done = [];
  sent = [];
  taken = Consumes-nil left;
  size = refl;
  cuts = λ rest _. refl;
  whole = λ _. inl refl;
  ended = λ e. absurd (cc);
  printed = λ rest. behind-nothing (o rest);
  written = Appends-nil before;
  number = refl;
  counts = omega arith;
  limit = refl;
  within = omega arith;
  ready = refl;
  few = omega arith;
  early = [];
  late = [];
  parts = refl;
  early_whole = inl refl;
  extra = [];
  early_text = sym (ap (λ t. t ++ []) none);
  prompt = omega arith;
}

-- the lines that were answered are those of their bytes
pub lines-front : {T : Type 0} (o now : List (List ℕ) →
    Outcome T) (r : LinesState) (left left' before after : Option (List ℕ)) (page : List ℕ) (count bound : ℕ)
    → (ran : Ran o now r left left' before after page count bound) → lines_in ran.front ≡ ran.done
lines-front o now r left left' before after page count bound ran =
    ap lines_in (sym (append-nil ran.front)) ∙ ran.cuts [] (λ _. refl)
    ∙ ap (λ t. ran.done ++ t) (nothing-left (r.number == 0)) ∙ append-nil ran.done

-- their text
pub text-front : {T : Type 0} (o now : List (List ℕ) →
    Outcome T) (r : LinesState) (left left' before after : Option (List ℕ)) (page : List ℕ) (count bound : ℕ) →
    (now []).text ≡ []
    → (ran : Ran o now r left left' before after page count bound) → (o (lines_in ran.front)).text ≡ ran.sent ++ page
text-front {T = T} o now r left left' before after page count bound none ran =
    ap (λ t. (o t).text) (lines-front o now r left left' before after page count bound ran ∙ sym (append-nil ran.done))
    ∙ ap (λ (x : Outcome T). x.text) (ran.printed []) ∙ ap (λ t. (ran.sent ++ page) ++ t) none
    ∙ append-nil (ran.sent ++ page)

-- all text is written
pub record Fresh {T : Type 0} (o now : List (List ℕ) →
    Outcome T) (r : LinesState) (left left' before after : Option (List ℕ)) (page : List ℕ) (count bound : ℕ)
    (must : Bool) : Type 0 where
  pub ran : Ran o now r left left' before after page count bound
  pub empty : must ≡ true → page ≡ []
  pub late : must ≡ true → r.is_ended ≡ false → ran.late ≡ []

written-by : {T : Type 0} (o now : List (List ℕ) →
    Outcome T) (r : LinesState) (left left' before after after' : Option (List ℕ)) (page : List ℕ) (count bound : ℕ)
    (must : Bool) (is_ended : Bool)
    → r.is_ended ≡ is_ended → (now []).text ≡ [] → Ran o now r left left' before after page count bound →
    Appends after after' page
    → Fresh o now r left left' before after' [] count bound must
written-by o now r left left' before after after' page count bound must true e none ran put = record {
  ran = record {
    front = ran.front;
    done = ran.done;
    taken = ran.taken;
    size = ran.size;
    cuts = ran.cuts;
    whole = ran.whole;
    ended = ran.ended;
    number = ran.number;
    counts = ran.counts;
    limit = ran.limit;
    within = ran.within;
    ready = ran.ready;
    few = ran.few;
    early = ran.early;
    late = ran.late;
    parts = ran.parts;
    early_whole = ran.early_whole;
    prompt = ran.prompt;
    sent = ran.sent ++ page;
    printed =
        λ rest. ran.printed rest ∙ behind-same _ _ _ _ _ _ (now rest) refl (sym (append-nil (ran.sent ++ page))) refl;
    written = Appends-trans before after after' ran.sent page ran.written put;
    extra = ran.extra ++ page;
    early_text = ap (λ t. t ++ page) ran.early_text ∙ append_assoc (o (lines_in ran.early)).text ran.extra page;
  };
  empty = λ _. refl;
  late = λ _ f. absurd (cc);
}
written-by o now r left left' before after after' page count bound must false e none ran put = record {
  ran = record {
    front = ran.front;
    done = ran.done;
    taken = ran.taken;
    size = ran.size;
    cuts = ran.cuts;
    whole = ran.whole;
    ended = ran.ended;
    number = ran.number;
    counts = ran.counts;
    limit = ran.limit;
    within = ran.within;
    ready = ran.ready;
    few = ran.few;
    sent = ran.sent ++ page;
    printed =
        λ rest. ran.printed rest ∙ behind-same _ _ _ _ _ _ (now rest) refl (sym (append-nil (ran.sent ++ page))) refl;
    written = Appends-trans before after after' ran.sent page ran.written put;
    early = ran.front;
    late = [];
    parts = sym (append-nil ran.front);
    early_whole = ran.whole e;
    extra = [];
    early_text = sym (text-front o now r left left' before after page count bound none ran)
        ∙ sym (append-nil (o (lines_in ran.front)).text);
    prompt = omega (arith, ran.prompt);
  };
  empty = λ _. refl;
  late = λ _ _. refl;
}

-- a flush, or none
pub flushed : {T : Type 0} (o now : List (List ℕ) →
    Outcome T) (r : LinesState) (left left' before after after' : Option (List ℕ)) (page page' : List ℕ)
    (count bound : ℕ) (must : Bool)
    → (IsUrgent must page → (now []).text ≡ []) → Ran o now r left left' before after page count bound →
    IsFlushed must after after' page page'
    → Fresh o now r left left' before after' page' count bound must
flushed o now r left left' before after after' page page' count bound must none ran (inl done) =
    subst (λ p. Fresh o now r left left' before after' p count bound must) (sym done.1)
    (written-by o now r left left' before after after' page count bound must r.is_ended refl (none done.0) ran done.2)
flushed o now r left left' before after after' page page' count bound must none ran (inr kept) =
    subst (λ p. Fresh o now r left left' before after' p count bound must) (sym kept.1)
    (subst (λ a. Fresh o now r left left' before a page count bound must) (sym kept.2)
    (record { ran = ran; empty = λ e. absurd (cc); late = λ e _. absurd (cc) }))

-- what was held back is printed
pub put-out : {T : Type 0} (o now now' : List (List ℕ) →
    Outcome T) (r : LinesState) (left left' before after : Option (List ℕ)) (page page' : List ℕ) (count bound : ℕ)
    → Ran o now r left left' before after page count bound
    → (text : List ℕ) × (page' ≡ page ++ text) × ((rest : List (List ℕ)) → now rest ≡ behind_text text (now' rest))
    → Ran o now' r left left' before after page' count bound
put-out o now now' r left left' before after page page' count bound ran put =
    subst (λ p. Ran o now' r left left' before after p count bound) (sym put.1) (record {
      front = ran.front;
      done = ran.done;
      sent = ran.sent;
      taken = ran.taken;
      size = ran.size;
      cuts = ran.cuts;
      whole = ran.whole;
      ended = ran.ended;
      printed = λ rest. ran.printed rest ∙ ap (behind_lines (length ran.done) (ran.sent ++ page) count) (put.2 rest)
          ∙ behind-held (length ran.done) (ran.sent ++ page) put.0 count (now' rest)
          ∙ behind-same _ _ _ _ _ _ (now' rest) refl (append_assoc ran.sent page put.0) refl;
      written = ran.written;
      number = ran.number;
      counts = ran.counts;
      limit = ran.limit;
      within = ran.within;
      ready = ran.ready;
      few = ran.few;
      early = ran.early;
      late = ran.late;
      parts = ran.parts;
      early_whole = ran.early_whole;
      extra = ran.extra;
      early_text = ran.early_text;
      prompt = ran.prompt;
    })

-- the bytes of a line behind others
fed-behind : (front raw : List ℕ) → EndsLine raw → AreWholeLines (front ++ raw)
fed-behind front raw fed = inr (front ++ fed.0, ap (λ t. front ++ t) fed.1 ∙ sym (append_assoc front fed.0 (10 ∷ [])))

-- a line was taken
pub stepped : {T : Type 0} (o now now' : List (List ℕ) →
    Outcome T) (r r' : LinesState) (left left1 left2 before after : Option (List ℕ)) (page text more : List ℕ)
    (count n bound : ℕ)
    → (ran : Ran o now r left left1 before after page count bound) → r.is_ended ≡ false → Consumes left1 left2 more →
    TakesLine r r' more
    → r'.taken ≡ r.taken + length more → r'.number + length r'.held ≤ r'.taken → r'.limit ≡ r.limit → r'.taken ≤ bound →
    r'.is_ready ≡ true
    → (r'.is_ended ≡ true → IsAtEnd left2) → length ran.late + (length r.held + length more) ≤ 131072
    → ((rest : List (List ℕ)) → now (r'.line ∷ rest) ≡ behind_lines 1 text n (now' rest)) → n ≤ 1
    → Ran o now' r' left left2 before after (page ++ text) (count + n) bound
stepped o now now' r r' left left1 left2 before after page text more count n bound ran unended took t taken counts limit
    within ready ended prompt prints few =
    let raw = t.raw in
    let held : r.held ++ more ≡ raw ++ r'.held = t.parts in
    let sizes : length r.held + length more ≡ length raw + length r'.held = sym (length-append r.held more)
    ∙ ap length held ∙ length-append raw r'.held in
    let next : r'.number ≡ r.number + 1 = t.number in
    let later : (r'.number == 0) ≡ false = grind arith in
    record {
      front = ran.front ++ raw;
      done = ran.done ++ r'.line ∷ [];
      sent = ran.sent;
      taken = subst (Consumes left left2)
          (append_assoc ran.front r.held more ∙ ap (λ x. ran.front ++ x) held
          ∙ sym (append_assoc ran.front raw r'.held))
          (Consumes-trans left left1 left2 (ran.front ++ r.held) more ran.taken took);
      size = omega (arith, ran.size, length-append ran.front raw);
      cuts = λ rest end.
          let first : IsFirstLine r' (lines (text_at (r.number == 0) (raw ++ rest))) (lines rest) = t.line rest end in
          let short : length first.whole < 65537 = ltb-true (length first.whole) 65537 (sym first.ready ∙ ready) in
          let line : r'.line ≡ first.whole = first.line ∙ take_all 65537 first.whole (omega arith) in
          ap lines_in (append_assoc ran.front raw rest)
          ∙ ran.cuts (raw ++ rest) (λ e. absurd (cc))
          ∙ ap (λ x. ran.done ++ x) (first.cut ∙ ap (λ x. x ∷ first.behind) (sym line)
          ∙ ap (λ x. r'.line ∷ x) (first.rest ready))
          ∙ sym (append_assoc ran.done (r'.line ∷ []) (lines rest))
          ∙ ap (λ b. (ran.done ++ r'.line ∷ []) ++ lines (text_at b rest)) (sym later);
      whole = λ e. fed-behind ran.front raw (t.fed ready e);
      ended = λ e. (t.ended e, ended e);
      printed = λ rest. ap o (append_assoc ran.done (r'.line ∷ []) rest) ∙ ran.printed (r'.line ∷ rest)
          ∙ ap (behind_lines (length ran.done) (ran.sent ++ page) count) (prints rest)
          ∙ behind-twice (length ran.done) 1 (ran.sent ++ page) text count n (now' rest)
          ∙ behind-same _ _ _ _ _ _ (now' rest) (sym (length-append ran.done (r'.line ∷ [])))
          (append_assoc ran.sent page text) refl;
      written = ran.written;
      number = next ∙ ap (λ k. k + 1) ran.number ∙ sym (length-append ran.done (r'.line ∷ []));
      counts = counts;
      limit = limit ∙ ran.limit;
      within = within;
      ready = ready;
      few = omega (arith, ran.few);
      early = ran.early;
      late = ran.late ++ raw;
      parts = ap (λ x. x ++ raw) ran.parts ∙ append_assoc ran.early ran.late raw;
      early_whole = ran.early_whole;
      extra = ran.extra;
      early_text = ran.early_text;
      prompt = omega (arith, length-append ran.late raw);
    }
