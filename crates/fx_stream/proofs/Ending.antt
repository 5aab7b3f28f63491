-- A run that has ended is one told in other words.
use Rattle.std.proofs.Common.{◌≡◌, ℕ, List, ◌++◌, Option, subst}
use Rattle.std.specs.Prelude.{None, Some, IfErr, IfOk, IfSome, Result, Ok, Err}
use Rattle.std.specs.Io.KnownBytes.{Appends}
use Rattle.fx_base.specs.Moments.{Moment, HoldsEachTime}
use Rattle.fx_base.specs.Text.{lines_in}
use Rattle.fx_base.proofs.Noting.{noted_as}
use Rattle.fx_stream.specs.Ending.{EndsRun, Streams}
use Rattle.fx_stream.specs.Outcome.{Outcome}
use Rattle.fx_stream.specs.Promise.{IsAnswered, IsBadAt, IsDone, IsDue, PrintsFront, PrintsWholeLines}
use Rattle.fx_stream.specs.declared.fault.RunFault.{RunFault}
use Rattle.fx_stream.specs.declared.fault.RunFault.TheVariants.{Row, ReadFault, WriteFault, TooLong, Memory}

known : (left : Option (List ℕ)) (P Q : List ℕ → Type 0) → ((all : List ℕ) → P all → Q all) → IfSome left P →
    IfSome left Q
known None P Q f h = tt
known (Some all) P Q f h = f all h

-- the text of whole lines
whole-lines : {T : Type 0} (o o' : List (List ℕ) → Outcome T) → ((ls : List (List ℕ)) → o ls ≡ o' ls) →
    (left left' before after : Option (List ℕ)) → PrintsWholeLines o left left' before after →
    PrintsWholeLines o' left left' before after
whole-lines {T = T} o o' same left left' before after h = record {
  front = h.front;
  rest = h.rest;
  taken = h.taken;
  whole = h.whole;
  none = h.none;
  printed = subst (λ (x : Outcome T). Appends before after x.text) (same (lines_in h.front)) h.printed;
}

-- lines come to the same by o and by o'
module _ {T F : Type 0} (line_told : F → T) (o o' : List (List ℕ) → Outcome T) (same : (ls : List (List ℕ)) →
    o ls ≡ o' ls) where
  -- what is answered each time
  prompt-told : (left before : Option (List ℕ)) (was is : List Moment) →
      HoldsEachTime (IsAnswered o left before) was is → HoldsEachTime (IsAnswered o' left before) was is
  prompt-told left before was is =
      noted_as (IsAnswered o left before) (IsAnswered o' left before) was is
      (λ m. whole-lines o o' same left m.left before m.taken)

  module _ (left left' before after : Option (List ℕ)) where
    front : IfSome left (λ all. PrintsFront (o (lines_in all)).text before after) →
        IfSome left (λ all. PrintsFront (o' (lines_in all)).text before after)
    front = known left _ _ (λ all. subst (λ (x : Outcome T). PrintsFront x.text before after) (same (lines_in all)))

    done-told : (n : Result ℕ (RunFault F)) →
        IfOk n (λ k. IfSome left (λ all. IsDone (o (lines_in all)) k before after)) →
        IfOk n (λ k. IfSome left (λ all. IsDone (o' (lines_in all)) k before after))
    done-told (Ok k) h =
        known left _ _ (λ all. subst (λ (x : Outcome T). IsDone x k before after) (same (lines_in all))) h
    done-told (Err f) h = tt

    told : (f : RunFault F) → IsDue line_told o left left' before after f →
        IsDue line_told o' left left' before after f
    told (Row line f) h = (
      known left _ _ (λ all. subst (λ (x : Outcome T). IsBadAt x line (line_told f) before after)
          (same (lines_in all))) h.0,
      h.1,
    )
    told ReadFault h = (front h.0, whole-lines o o' same left left' before after h.1)
    told WriteFault h = (
      front h.0,
      record {
        front = h.1.front;
        rest = h.1.rest;
        more = h.1.more;
        taken = h.1.taken;
        whole = h.1.whole;
        few = h.1.few;
        printed =
            subst (λ (x : Outcome T). Appends before after (x.text ++ h.1.more)) (same (lines_in h.1.front))
            h.1.printed;
      },
    )
    told TooLong h = front h
    told Memory h = front h

    due-told : (n : Result ℕ (RunFault F)) → IfErr n (IsDue line_told o left left' before after) →
        IfErr n (IsDue line_told o' left left' before after)
    due-told (Ok k) h = tt
    due-told (Err f) h = told f h

  pub ends-told : (limit : ℕ) (old new : Streams) (result : Result ℕ (RunFault F)) →
      EndsRun line_told o limit old new result → EndsRun line_told o' limit old new result
  ends-told limit old new result e = record {
    done = done-told old.source.left new.source.left old.sink.taken new.sink.taken result e.done;
    end = e.end;
    due = due-told old.source.left new.source.left old.sink.taken new.sink.taken result e.due;
    prompt = prompt-told old.source.left old.sink.taken old.source.asked new.source.asked e.prompt;
    taken = e.taken;
    grown = e.grown;
    read_fault = e.read_fault;
    write_fault = e.write_fault;
    later = e.later;
    later_sink = e.later_sink;
  }
