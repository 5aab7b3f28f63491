-- A call did what the words ask for, and its line is written: the promise follows.
use Rattle.std.proofs.Common.{◌≡◌, ◌⊎◌, ℕ, Option, Some, None, refl, subst, inl, inr}
use Rattle.std.specs.Prelude.{⊤}
use Rattle.fx_base.specs.Causes.{Rose}
use Rattle.fx_base.specs.Views.{SinkView}
use Rattle.fx_cert_text.specs.BundleView.{Parts}
use Rattle.fx_cert_text.specs.Laws.{BundleAgain}
use Rattle.fx_model.specs.Function.{Function}
use Rattle.fx_stream.proofs.Grown.{none_grown}
use Rattle.fx_ends.specs.Ends.{End, Done, Usage, NoMemory, status_of}
use Rattle.fx_ends.specs.Notes.{AreNotes}
use Rattle.fx_bundle_commands.specs.Calls.{Desk, beside}
use Rattle.fx_bundle_commands.specs.Outside.{World}
use Rattle.fx_bundle_commands.specs.Opening.{OpensThen}
use Rattle.fx_bundle_commands.specs.Exact.{OrNoMemory}
use Rattle.fx_bundle_commands.proofs.FileEnds.{text_decides}
use Rattle.fx_bundle_commands.proofs.Missing.{missing_bundle}
use Rattle.fx_bundle_commands.proofs.SameEnd.{either}
use Rattle.fx_bundle_commands.proofs.Silent.{silent_is_silent}
use Rattle.fx_bundle_commands.proofs.Verdict.{completed, exact_opening}
use Rattle.fx_c_command.specs.Words.{TextRequest}
use Rattle.fx_c_command.specs.Printed.{PrintsC}
use Rattle.fx_c_command.specs.Promise.{CBehaves, CEnds, IsCAnswer, c_line, empty_input}
use Rattle.fx_c_command.specs.Calls.{Printing}

-- words that ask for nothing touch nothing
pub no_printing : {K : Type 0} (d : Desk K) → Printing None d d Usage
no_printing d = record {
  ended = refl;
  quiet = λ silent. refl;
  unopened = λ r is. inr refl;
  asked = refl;
  appended = none_grown d.sink.taken;
}

-- a request may be told in another way
pub printing_as : {K : Type 0} {asks told : Option TextRequest} {old new : Desk K} {end : End} → asks ≡ told →
    Printing asks old new end → Printing told old new end
printing_as {old = old} {new = new} {end = end} is printing =
    subst (λ (asks : Option TextRequest). Printing asks old new end) is printing

-- the outside of a call, with the notes
abbrev world_of : {K : Type 0} → Desk K → SinkView → World ⊤ K
world_of d noted = record { seen = beside empty_input d; notes = noted; input = tt; output = d.output }

module _ {K : Type 0} (again : BundleAgain) (asks : Option TextRequest) (old new : Desk K) (noted now : SinkView)
    (end : End) (status : ℕ) (printing : Printing asks old new end) (status_is : status ≡ status_of end)
    (line : AreNotes noted now (c_line end)) where
  abbrev IsEnd : End → Type 0
  IsEnd = IsCAnswer (world_of old noted) (world_of new now) status

  answer : IsEnd end
  answer = record { status_is = status_is; line = line }

  opens : (r : TextRequest) → asks ≡ Some r →
      OpensThen (beside empty_input old) (beside empty_input new) r.file (PrintsC r.text old.sink new.sink) end
  opens r is = subst (λ (x : Option TextRequest). CEnds (beside empty_input old) (beside empty_input new) x end) is
      printing.ended

  finished : (r : TextRequest) (b : Parts) (fn : Function) →
      ¬ Rose old.sink.faults new.sink.faults →
      (end ≡ NoMemory) ⊎ PrintsC r.text old.sink new.sink b fn end → OrNoMemory IsEnd Done
  finished r b fn writes (inl none) = inr (subst IsEnd none answer)
  finished r b fn writes (inr prints) =
      either IsEnd end Done answer (text_decides _ old.sink new.sink end writes prints.ends)

  pub behaves : CBehaves asks (world_of old noted) (world_of new now) status
  behaves = record {
    ended = record { end = end; answer = answer; cause = printing.ended };
    exact = λ r is file found e other cause. exact_opening again (beside empty_input old) (beside empty_input new) r.file file
        found IsEnd end e answer (opens r is) other cause;
    complete = λ r is b fn ready writes. finished r b fn writes
        (completed again (beside empty_input old) (beside empty_input new) r.file ready.file ready.found
        (PrintsC r.text old.sink new.sink) b fn end ready.is_bundle ready.accepted (opens r is));
    silent = λ silent. printing.quiet (silent_is_silent end status status_is silent);
    unopened = printing.unopened;
    asked = printing.asked;
    missing = λ r is missing. missing_bundle (beside empty_input old) (beside empty_input new) r.file _ end status status_is
        missing (opens r is);
    appended = printing.appended;
  }
