-- Lemmas on what a step answers.
use Rattle.std.proofs.Common.{◌≡◌, ℕ, ◌+◌, ◌-◌, ◌<◌, ◌≤◌, Bool, true, false, nat_lt, min, List, [], ◌∷◌, ◌++◌, Option, Result, Ok, length, take, drop, arith, refl, sym, ap, subst, ◌∙◌, append_assoc, append-nil}
use Rattle.std.specs.Prelude.{◌==◌, None, Some, position}
use Rattle.std.specs.Io.KnownBytes.{Consumes}
use Rattle.std.specs.Str.Lines.{lines, strip_carriage_return}
use Rattle.std.proofs.lemmas.List.{drop-take, length-take-le, length-drop, length-append, take-append-le, take_all}
use Rattle.std.proofs.lemmas.List.Elements.{All-drop, All-append}
use Rattle.std.proofs.lemmas.Bool.{false_from_ne_true}
use lib.Seq.{take-take}
use borrow.Author.Tests.{ltb-true, ltb-false}
use Rattle.fx_base.specs.Text.{text_at}
use Rattle.fx_base.specs.LineCuts.{IsCut, IsLeftBy}
use Rattle.fx_base.specs.declared.cut.Cut.{Cut}
use Rattle.fx_base.specs.LineSteps.{LinesState, IsFirstLine, TakesLine}
use Rattle.fx_base.specs.declared.answers.LineFault.{LineFault}
use Rattle.fx_base.specs.declared.lines.LineStep.{LineStep}
use Rattle.fx_base.specs.declared.lines.LineStep.TheVariants.{Line, End}
use Rattle.fx_base.proofs.Cutting.{is_feed, Plain, IsFeedAt, feed-at, feed-nowhere, lines-cut, lines-last, text_at-cut, text_at-more, stripped}

-- a front of a front
take-min : (n k : ℕ) (xs : List ℕ) → k ≤ length xs → take (min k n) xs ≡ take n (take k xs)
take-min n k xs h =
    sym (take-take (min k n) k xs (omega arith)) ∙ by (nat_lt n k) refl
  where
    by : (t : Bool) → nat_lt n k ≡ t → take (min k n) (take k xs) ≡ take n (take k xs)
    by true e = ap (λ i. take i (take k xs)) (let less : n < k = ltb-true n k e in omega arith)
    by false e =
        let more : k ≤ n = ltb-false n k e in
        ap (λ i. take i (take k xs)) (let same : min k n ≡ k = omega arith in same)
        ∙ take_all k (take k xs) (omega (arith, length-take-le k xs h))
        ∙ sym (take_all n (take k xs) (omega (arith, length-take-le k xs h)))

-- a line whose end is held
pub takes-whole : (old new : LinesState) (more bytes : List ℕ) (end from len : ℕ)
    → bytes ≡ old.held ++ more → position is_feed bytes ≡ Some end
    → text_at (old.number == 0) (take end bytes) ≡ drop from (take end bytes)
    → strip_carriage_return (drop from (take end bytes)) ≡ take len (drop from (take end bytes)) →
    from + len ≤ length (take end bytes)
    → new.held ≡ drop (end + 1) bytes → new.number ≡ old.number + 1 → new.is_ready ≡ nat_lt len 65537 →
    new.is_ended ≡ false
    → new.line ≡ take (min len 65537) (drop from bytes) → TakesLine old new more
takes-whole old new more bytes end from len whole found text strip inside held number ready ended line =
    let p : IsFeedAt bytes end = feed-at bytes end found in
    let body = take end bytes in
    let behind = drop from bytes in
    let size : length body ≡ end = let within : end < length bytes = p.within in
    length-take-le end bytes (omega arith) in
    let len_in : from + len ≤ end = omega arith in
    let piece : drop from body ≡ take (end - from) behind =
    ap (λ n. drop from (take n bytes)) (let e : end ≡ from + (end - from) = omega arith in e)
    ∙ drop-take from (end - from) bytes in
    let long : end - from ≤ length behind = let within : end < length bytes = p.within in
    omega (arith, length-drop from bytes) in
    let short : strip_carriage_return (drop from body) ≡ take len behind =
    strip ∙ ap (take len) piece ∙ take-take len (end - from) behind (omega arith) in
    let wide : length (take len behind) ≡ len = length-take-le len behind (omega arith) in
    record {
      raw = body ++ 10 ∷ [];
      parts = sym whole ∙ p.parts ∙ ap (λ t. body ++ 10 ∷ t) (sym held) ∙ sym (append_assoc body (10 ∷ []) new.held);
      some = omega (arith, length-append body (10 ∷ []));
      number = number;
      line = λ rest _. record {
        whole = take len behind;
        behind = lines rest;
        cut = ap (λ t. lines (text_at (old.number == 0) t)) (append_assoc body (10 ∷ []) rest)
            ∙ ap lines (text_at-cut (old.number == 0) body rest p.plain)
            ∙ ap (λ t. lines (t ++ 10 ∷ rest)) text
            ∙ lines-cut (drop from body) rest (All-drop (λ b. is_feed b ≡ false) from body p.plain)
            ∙ ap (λ t. t ∷ lines rest) short;
        line = line ∙ take-min 65537 len behind (omega arith);
        ready = ready ∙ ap (λ n. nat_lt n 65537) (sym wide);
        rest = λ _. refl;
      };
      fed = λ _ _. (body, refl);
      ended = λ e. absurd (cc);
    }

-- the last line, which no line feed ends
pub takes-last : (old new : LinesState) (more bytes : List ℕ) (from : ℕ)
    → bytes ≡ old.held ++ more → position is_feed bytes ≡ None → text_at (old.number == 0) bytes ≡ drop from bytes →
    0 < length bytes - from
    → new.held ≡ [] → new.number ≡ old.number + 1 → new.is_ready ≡ nat_lt (length bytes - from) 65537 →
    new.is_ended ≡ true
    → new.line ≡ take (min (length bytes - from) 65537) (drop from bytes) → TakesLine old new more
takes-last old new more bytes from whole none text some held number ready ended line =
    let plain : Plain bytes = feed-nowhere bytes none in
    let last = drop from bytes in
    let size : length last ≡ length bytes - from = length-drop from bytes in
    record {
      raw = bytes;
      parts = sym whole ∙ sym (append-nil bytes) ∙ ap (λ t. bytes ++ t) (sym held);
      some = omega arith;
      number = number;
      line = λ rest end. record {
        whole = last;
        behind = [];
        cut = ap (λ t. lines (text_at (old.number == 0) t)) (ap (λ t. bytes ++ t) (end ended) ∙ append-nil bytes)
            ∙ ap lines text ∙ lines-last last (All-drop (λ b. is_feed b ≡ false) from bytes plain)
            (omega (arith, size));
        line = line ∙ take-min 65537 (length bytes - from) last (omega (arith, size))
            ∙ ap (take 65537) (take_all (length bytes - from) last (omega (arith, size)));
        ready = ready ∙ ap (λ n. nat_lt n 65537) (sym size);
        rest = λ _. ap lines (sym (end ended));
      };
      fed = λ _ e. absurd (cc);
      ended = λ _. held;
    }

at-least : (n : ℕ) → 65537 ≤ n → nat_lt n 65537 ≡ false
at-least n h = false_from_ne_true (nat_lt n 65537) (λ e. let less : n < 65537 = ltb-true n 65537 e in omega arith)

-- what stands behind a long front: the line goes on to the next line feed
long-line : (new : LinesState) (front rest : List ℕ) (o : Option ℕ) → position is_feed rest ≡ o → Plain front →
    65537 < length front
    → new.line ≡ take 65537 front → new.is_ready ≡ false → IsFirstLine new (lines (front ++ rest)) (lines rest)
long-line new front rest None none plain long line ready =
    let all = front ++ rest in
    let size : length all ≡ length front + length rest = length-append front rest in
    record {
      whole = all;
      behind = [];
      cut =
          lines-last all (All-append (λ b. is_feed b ≡ false) front rest plain (feed-nowhere rest none))
          (omega (arith, size));
      line = line ∙ sym (take-append-le 65537 front rest (omega arith));
      ready = ready ∙ sym (at-least (length all) (omega (arith, size)));
      rest = λ e. absurd (cc);
    }
long-line new front rest (Some end) found plain long line ready =
    let p : IsFeedAt rest end = feed-at rest end found in
    let all = front ++ take end rest in
    let size : length all ≡ length front + length (take end rest) = length-append front (take end rest) in
    let s = stripped all in
    let n = s.0 in
    let short : length (take n all) ≡ n = length-take-le n all s.2 in
    record {
      whole = take n all;
      behind = lines (drop (end + 1) rest);
      cut =
          ap lines (ap (λ t. front ++ t) p.parts ∙ sym (append_assoc front (take end rest) (10 ∷ drop (end + 1) rest)))
          ∙ lines-cut all (drop (end + 1) rest)
          (All-append (λ b. is_feed b ≡ false) front (take end rest) plain p.plain)
          ∙ ap (λ t. t ∷ lines (drop (end + 1) rest)) s.1;
      line = line ∙ sym (take-append-le 65537 front (take end rest) (omega arith))
          ∙ sym (take-take 65537 n all (let h : length all ≤ n + 1 = s.3 in omega arith));
      ready = ready ∙ sym (at-least (length (take n all)) (let h : length all ≤ n + 1 = s.3 in omega arith));
      rest = λ e. absurd (cc);
    }

-- a line that is too long and whose end isn't held
pub takes-long : (old new : LinesState) (more bytes : List ℕ) (from : ℕ)
    → bytes ≡ old.held ++ more → position is_feed bytes ≡ None → text_at (old.number == 0) bytes ≡ drop from bytes →
    65540 < length bytes → from ≤ 3
    → new.held ≡ [] → new.number ≡ old.number + 1 → new.is_ready ≡ false → new.is_ended ≡ false
    → new.line ≡ take 65537 (drop from bytes) → TakesLine old new more
takes-long old new more bytes from whole none text long few held number ready ended line =
    let plain : Plain bytes = feed-nowhere bytes none in
    let front = drop from bytes in
    let size : length front ≡ length bytes - from = length-drop from bytes in
    record {
      raw = bytes;
      parts = sym whole ∙ sym (append-nil bytes) ∙ ap (λ t. bytes ++ t) (sym held);
      some = omega arith;
      number = number;
      line =
          λ rest _. subst (λ t. IsFirstLine new (lines t) (lines rest))
          (sym (text_at-more (old.number == 0) bytes rest (omega arith) ∙ ap (λ t. t ++ rest) text))
          (long-line new front rest (position is_feed rest) refl (All-drop (λ b. is_feed b ≡ false) from bytes plain)
          (omega (arith, size)) line ready);
      fed = λ e _. absurd (cc);
      ended = λ e. absurd (cc);
    }

-- the next line's end, sought behind this one's
pub ahead-of : (bytes : List ℕ) (n : ℕ) (place : Option ℕ) →
    place ≡ position is_feed (take (length bytes - n) (drop n bytes)) → place ≡ position is_feed (drop n bytes)
ahead-of bytes n place found =
    found ∙ ap (position is_feed) (take_all (length bytes - n) (drop n bytes) (omega (arith, length-drop n bytes)))

-- what was fetched behind what was held, where so many lines were answered
pub record HasMore (old : LinesState) (left left' : Option (List ℕ)) (number taken : ℕ) (bytes more : List ℕ) :
    Type 0 where
  pub took : Consumes left left' more
  pub whole : bytes ≡ old.held ++ more
  pub sum : taken ≡ min (old.taken + length more) 18446744073709551615
  pub few : length bytes ≤ 131072
  pub count : number ≡ old.number

-- what a step that gives a line says of what it took
abbrev pub TakesMore : LinesState → LinesState → Option (List ℕ) → Option (List ℕ) → Type 0
TakesMore old new left left' =
    (more : List ℕ) × Consumes left left' more × (new.taken ≡ min (old.taken + length more) 18446744073709551615)
    × (length old.held + length more ≤ 131072)
    × (◌≡◌ {A = Result LineStep LineFault} (Ok Line) (Ok Line) → TakesLine old new more)
    × (◌≡◌ {A = Result LineStep LineFault} (Ok Line) (Ok End) → text_at (old.number == 0) (old.held ++ more) ≡ [])
    × Unit {0}

-- a state that a cut of what was fetched leaves has taken a line
pub taken-cut : {old : LinesState} (new : LinesState) {left left' : Option (List ℕ)} {number taken : ℕ}
    {bytes more : List ℕ} {cut : Cut} → HasMore old left left' number taken bytes more → new.taken ≡ taken →
    new.number ≡ number + 1 → IsCut (number == 0) bytes cut → IsLeftBy bytes cut new → TakesMore old new left left'
taken-cut {old} new {more = more} f same next cut left = (
  more,
  f.took,
  same ∙ f.sum,
  omega (arith, ap length f.whole, length-append old.held more, f.few),
  (λ _. cut.takes old new more f.whole (ap (λ n. n == 0) (sym f.count)) (next ∙ ap (λ n. n + 1) f.count) left),
  (λ e. absurd cc),
  tt,
)
