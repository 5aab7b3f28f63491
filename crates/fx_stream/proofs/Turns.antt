-- Lemmas on one turn of the loop: a flush, and the call that asks for the next line.
use Rattle.std.proofs.Common.{◌≡◌, ℕ, ◌+◌, ◌<◌, ◌≤◌, Bool, true, false, not, min, nat_lt, List, [], ◌∷◌, ◌++◌, Option, Result, Ok, Err, length, take, arith, refl, sym, ap, ◌∙◌, inl, inr}
use Rattle.std.specs.Prelude.{◌≢◌, ◌==◌, ◌⊎◌, ◌↔◌, None, Some, position, OnOk, OnErr, IfErr}
use Rattle.std.specs.Result.{is_err}
use Rattle.std.specs.Io.KnownBytes.{Consumes}
use Rattle.std.proofs.KnownBytes.{Consumes-trans}
use Rattle.std.proofs.lemmas.List.{length-append, take_all}
use borrow.Author.Tests.{ltb-true, ltb-false}
use Rattle.fx_model.specs.Limits.{line_limit}
use Rattle.fx_base.specs.LineSteps.{LinesState}
use Rattle.fx_stream.specs.Outcome.{Outcome, behind_text, one, stopped_lines, IfBad}
use Rattle.fx_stream.specs.Promise.{RunTakesUpTo}
use Rattle.fx_stream.specs.Running.{Asked, GoesOut, IsBadLine, Ran, IsFlushed, IsUrgent}
use Rattle.fx_stream.specs.declared.printer.Stop.{Stop}
use Rattle.fx_stream.specs.declared.printer.Stop.TheVariants.{Bad, Memory}
use Rattle.fx_stream.specs.declared.fault.RunFault.{RunFault}
use Rattle.fx_stream.specs.declared.fault.RunFault.TheVariants as fault
use Rattle.fx_stream.proofs.Steps.{Fresh, flushed}

pub on-ok : {T E P : Type 0} (r : Result T E) → is_err r ≡ false → OnOk r P → P
on-ok (Ok x) e p = p
on-ok (Err f) e p = absurd (cc)

pub on-err : {T E P : Type 0} (r : Result T E) → is_err r ≡ true → OnErr r P → P
on-err (Ok x) e p = absurd (cc)
on-err (Err f) e p = p

pub right-of : {P : Type 0} (b : Bool) → b ≡ false → (b ≡ true) ⊎ P → P
right-of b e (inl t) = absurd (cc)
right-of b e (inr p) = p

-- what isn't held is nowhere
pub unheld : {B : Type 0} (held : Bool) (place : Option B) → held ≡ true ↔ (place ≢ None) → held ≡ false → place ≡ None
unheld held None say e = refl
unheld held (Some n) say e =
    let t : held ≡ true = say.1 (λ f. absurd cc) in let z : true ≡ false = sym t ∙ e in absurd cc

-- text goes out where that is due
pub urgent : {P : Type 0} (held : Bool) (r : LinesState) (page : List ℕ) →
    (held ≡ false → position (λ b. b == 10) r.held ≡ None) → (GoesOut r page → P) → IsUrgent (not held) page → P
urgent true r page unheld due (inl must) = let z : false ≡ true = must in absurd cc
urgent false r page unheld due (inl must) = due (inl (unheld refl))
urgent held r page unheld due (inr full) = due (inr full)

-- a line that is told whole
pub whole-line : (line whole : List ℕ) → line ≡ take 65537 whole → true ≡ nat_lt (length whole) 65537 → whole ≡ line
whole-line line whole cut ready =
    let short : length whole < 65537 = ltb-true (length whole) 65537 (sym ready) in
    sym (cut ∙ take_all 65537 whole (omega arith))

pub at-least : (whole : List ℕ) → false ≡ nat_lt (length whole) 65537 → 65536 < length whole
at-least whole ready = let much : 65537 ≤ length whole = ltb-false (length whole) 65537 (sym ready) in omega arith

none-more : (taken more : ℕ) → taken < 18446744073709551615 → taken ≡ min (taken + more) 18446744073709551615 → more ≡ 0
none-more taken more h e = omega arith

near-by : {T : Type 0} (o now : List (List ℕ) →
    Outcome T) (r : LinesState) (left left1 before mid : Option (List ℕ)) (page more : List ℕ) (count bound taken : ℕ)
    (held : Bool) (h : Bool) → held ≡ h
    → (fresh : Fresh o now r left left1 before mid page count bound (not held)) → bound < 18446744073709551615 →
    taken ≡ min (r.taken + length more) 18446744073709551615
    → length r.held + length more ≤ 131072 → (held ≡ true → taken ≡ r.taken) → r.is_ended ≡ false →
    length fresh.ran.late + (length r.held + length more) ≤ 131072
near-by o now r left left1 before mid page more count bound taken held true e fresh small sum few lazy unended =
    let within : r.taken ≤ bound = fresh.ran.within in
    let none : length more ≡ 0 = none-more r.taken (length more) (omega arith) (sym (lazy e) ∙ sum) in
    omega (arith, fresh.ran.prompt)
near-by o now r left left1 before mid page more count bound taken held false e fresh small sum few lazy unended =
    omega (arith, ap length (fresh.late (ap not e) unended))

pub asked-of : {T : Type 0} (o now : List (List ℕ) →
    Outcome T) (r : LinesState) (left left1 left2 before after mid : Option (List ℕ)) (page page' more : List ℕ)
    (count bound taken : ℕ) (held : Bool)
    → (IsUrgent (not held) page → (now []).text ≡ []) → Ran o now r left left1 before after page count bound →
    IsFlushed (not held) after mid page page' → bound < 18446744073709551615
    → Consumes left1 left2 more → taken ≡ min (r.taken + length more) 18446744073709551615 →
    length r.held + length more ≤ 131072
    → (held ≡ true → taken ≡ r.taken) → (r.is_ended ≡ true → taken ≡ r.taken)
    → Asked o now r left left1 left2 before mid page' more count bound
asked-of o now r left left1 left2 before after mid page page' more count bound taken held none ran flush small took sum
    few lazy over =
    let fresh = flushed o now r left left1 before after mid page page' count bound (not held) none ran flush in
    record {
      ran = fresh.ran;
      took = took;
      near = near-by o now r left left1 before mid page' more count bound taken held held refl fresh small sum few lazy;
      quiet = λ e. let within : r.taken ≤ bound = ran.within in
          none-more r.taken (length more) (omega arith) (sym (over e) ∙ sum);
    }

-- what had to be written is written
pub all-written : (before after : Option (List ℕ)) (page page' : List ℕ) (held : Bool) →
    IsFlushed (not held) before after page page' → (held ≡ true → ⊥) → page' ≡ []
all-written before after page page' held (inl done) unheld = done.1
all-written before after page page' true (inr kept) unheld = absurd (unheld refl)
all-written before after page page' false (inr kept) unheld = absurd (let e : true ≡ false = kept.0 in cc)

pub one-few : (b : Bool) → one b ≤ 1
one-few true = omega arith
one-few false = omega arith

-- a line that is shown whole is bad where it is as it was shown
pub told-bad : {T F : Type 0} (told : F → T) (r : Result Bool (Stop F)) (page' page : List ℕ) (now : List (List ℕ) →
    Outcome T) (lines : LinesState) (line : List ℕ)
    → line ≡ lines.line → lines.is_ready ≡ true
    → IfErr r (IfBad (λ f. (text : List ℕ) × (page' ≡ page ++ text) ×
    ((rest : List (List ℕ)) → now (line ∷ rest) ≡ behind_text text (stopped_lines (told f)))))
    → IfErr r (IfBad (λ f. (text : List ℕ) × (page' ≡ page ++ text) × IsBadLine told now lines text f))
told-bad told (Ok x) page' page now lines line same ready h = tt
told-bad told (Err Memory) page' page now lines line same ready h = tt
told-bad told (Err (Bad f)) page' page now lines line same ready h = (
  h.0,
  h.1,
  λ whole rest shown. ap (λ l. now (l ∷ rest)) (whole-line lines.line whole shown.0 (sym ready ∙ shown.1)
      ∙ sym same) ∙ h.2 rest,
)

-- a line that isn't shown whole is bad, since it is too long
pub long-bad : {T F : Type 0} (told : F → T) (now now' : List (List ℕ) →
    Outcome T) (lines : LinesState) (text : List ℕ) (f : F) → false ≡ lines.is_ready
    → ((rest : List (List ℕ)) → now rest ≡ behind_text text (now' rest))
    → ((line : List ℕ) (rest : List (List ℕ)) → line_limit < length line → now' (line ∷ rest) ≡ stopped_lines (told f))
    → IsBadLine told now lines text f
long-bad told now now' lines text f unready puts long =
    λ whole rest shown. puts (whole ∷ rest)
    ∙ ap (behind_text text) (long whole rest (at-least whole (unready ∙ shown.1)))

-- all bytes that were taken
pub total : {T : Type 0} (o now : List (List ℕ) →
    Outcome T) (r : LinesState) (left left1 left2 before after : Option (List ℕ)) (page more : List ℕ) (count bound : ℕ)
    → Ran o now r left left1 before after page count bound → Consumes left1 left2 more
    → (taken : List ℕ) × Consumes left left2 taken × (length taken ≡ r.taken + length more)
total o now r left left1 left2 before after page more count bound ran took = (
  (ran.front ++ r.held) ++ more,
  Consumes-trans left left1 left2 (ran.front ++ r.held) more ran.taken took,
  omega (arith, length-append (ran.front ++ r.held) more, length-append ran.front r.held, ran.size),
)

-- all bytes that were taken, and that they are within the limit
pub up-to : {T F : Type 0} (o now : List (List ℕ) →
    Outcome T) (r : LinesState) (left left1 left2 before after : Option (List ℕ)) (page more : List ℕ) (count bound : ℕ)
    (f : RunFault F)
    → Ran o now r left left1 before after page count bound → Consumes left1 left2 more → r.taken + length more ≤ bound →
    (f ≡ fault.TooLong → ⊥)
    → RunTakesUpTo left left2 bound f
up-to o now r left left1 left2 before after page more count bound f ran took within other =
    let all = total o now r left left1 left2 before after page more count bound ran took in
    let size : length all.0 ≡ r.taken + length more = all.2 in
    (all.0, all.1, ((λ e. absurd (other e)), (λ h. absurd (omega arith))))
