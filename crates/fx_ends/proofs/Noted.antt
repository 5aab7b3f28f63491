-- Lines that go out in pieces: what was appended, and a front of it where a piece failed.
use Rattle.std.proofs.Common.{◌≡◌, ◌∙◌, ap, ℕ, suc, ◌+◌, ◌<◌, List, ◌++◌, length, map, take, drop, get_or, Option, Result, Ok, Err, OnOk, OnErr, sym, subst, arith}
use Rattle.std.specs.Io.KnownBytes.{Appends}
use Rattle.std.proofs.KnownBytes.{Appends-trans}
use Rattle.std.proofs.Math.Seq.{take-append-add, take-length, drop-cons}
use Rattle.std.specs.List.{concat}
use Rattle.std.proofs.lemmas.List.{take-append-le, length-append}
use Rattle.fx_base.specs.Causes.{HasCause}
use Rattle.fx_base.specs.Calls.{AppendsFront}
use Rattle.fx_base.specs.Views.{SinkView}
use Rattle.fx_ends.specs.Notes.{IsNoted}

-- a front of the first piece is one of the whole
pub front_more : (old new : Option (List ℕ)) (text more : List ℕ) → AppendsFront old new text →
    AppendsFront old new (text ++ more)
front_more old new text more front = (
  front.0,
  omega (arith, front.1, length-append text more),
  subst (Appends old new) (sym (take-append-le front.0 text more front.1)) front.2,
)

-- behind a piece that was appended, a front of the next
pub front_behind : (old mid new : Option (List ℕ)) (text more : List ℕ) → Appends old mid text →
    AppendsFront mid new more → AppendsFront old new (text ++ more)
front_behind old mid new text more put front = (
  length text + front.0,
  omega (arith, front.1, length-append text more),
  subst (Appends old new) (sym (take-append-add text more front.0))
      (Appends-trans old mid new text (take front.0 more) put front.2),
)

-- a line that a call wrote
pub noted : {T E : Type 0} {old new : SinkView} (line : List ℕ) (r : Result T E) →
    OnOk r (Appends old.taken new.taken line) → OnErr r (AppendsFront old.taken new.taken line) →
    HasCause old.faults new.faults r → IsNoted old new line
noted {old = old} {new = new} line (Ok x) all front cause =
    record {
      front = (length line, omega arith, subst (Appends old.taken new.taken) (sym (take-length line)) all);
      whole = λ _. all;
    }
noted line (Err e) all front cause = record { front = front; whole = λ none. absurd (none cause.failed) }

-- a piece that goes out, and those that are left behind it
pub next_piece : {A : Type 0} (text : A → List ℕ) (pieces : List A) (sent whole : List ℕ) (i : ℕ) (d : A) →
    i < length pieces → whole ≡ sent ++ concat (map text (drop i pieces)) →
    whole ≡ sent ++ (text (get_or pieces i d) ++ concat (map text (drop (i + 1) pieces)))
next_piece text pieces sent whole i d l all =
    let one : i + 1 ≡ suc i = omega arith in
    all ∙ ap (λ ps. sent ++ concat (map text ps)) (drop-cons pieces i d l)
    ∙ ap (λ k. sent ++ (text (get_or pieces i d) ++ concat (map text (drop k pieces)))) (sym one)

-- what a call says of its refusal, where it says it in any case
pub on_err : {T E P : Type 0} (r : Result T E) → P → OnErr r P
on_err (Ok x) p = tt
on_err (Err e) p = p

pub err_more : {T E P Q : Type 0} (r : Result T E) → (P → Q) → OnErr r P → OnErr r Q
err_more (Ok x) f p = tt
err_more (Err e) f p = f p
