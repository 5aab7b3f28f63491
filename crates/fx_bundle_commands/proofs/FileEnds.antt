-- How a command ends that reads FILE and prints a text.
use Rattle.std.proofs.Common.{◌≡◌, ◌⊎◌, ℕ, List, take, refl, sym, subst, inl, inr}
use Rattle.fx_base.specs.Causes.{Rose}
use Rattle.fx_base.specs.Requests.{AsksInOrder}
use Rattle.fx_base.specs.Views.{SinkView, ShelfView}
use Rattle.fx_checker.specs.CertifiedView.{Accepted}
use Rattle.fx_stream.specs.Promise.{Grows}
use Rattle.fx_stream.proofs.Grown.{none_grown}
use Rattle.fx_ends.specs.Ends.{End, Done, NoMemory}
use Rattle.fx_bundle_commands.specs.declared.commands.sheet.Sheet.{Sheet}
use Rattle.fx_bundle_commands.specs.Calls.{PrintsFile}
use Rattle.fx_bundle_commands.specs.Opening.{OpeningEnds, unopened, opened}
use Rattle.fx_bundle_commands.specs.OpeningView.{IsOpened, IsSilent, with_source}
use Rattle.fx_bundle_commands.specs.Tasks.{BundleEnds, Prints}
use Rattle.fx_bundle_commands.specs.commands.Sheets.{PrintsSheet, TextEnds, written, unwritten, no_memory}

-- what the output held stands before a text, or before a front of it
pub text_grows : (text : List ℕ) (old new : SinkView) (end : End) → TextEnds text old new end → Grows old.taken new.taken
text_grows text old new end (written put) = (text, put)
text_grows text old new end (unwritten rose put) = (take put.0 text, put.2)
text_grows text old new end (no_memory same) = subst (Grows old.taken) (sym same) (none_grown old.taken)

-- where no write fails, the printing of a text is done, or memory lacked
pub text_decides : (text : List ℕ) (old new : SinkView) (end : End) → ¬ Rose old.faults new.faults →
    TextEnds text old new end → (end ≡ Done) ⊎ (end ≡ NoMemory)
text_decides text old new end writes (written put) = inl refl
text_decides text old new end writes (unwritten rose put) = absurd (writes rose)
text_decides text old new end writes (no_memory same) = inr refl

module _ {K : Type 0} (sheet : Sheet) (name : List ℕ) (old new : ShelfView) (end : End)
    (asked : AsksInOrder name old.asked new.asked) where
  -- FILE isn't opened, and the output is as it was
  pub file_unopened : (sink : SinkView) (output : K) → OpeningEnds old new name end →
      PrintsFile name (λ old new. BundleEnds (Prints sheet) old new name)
      (record { shelf = old; sink = sink; output = output }) (record { shelf = new; sink = sink; output = output }) end
  file_unopened sink output why = record {
    ended = λ input. unopened end why (record { left = refl; taken = refl });
    asked = asked;
    appended = none_grown sink.taken;
    quiet = λ silent. refl;
  }

  -- FILE is opened, and the text is printed
  pub file_opened : (before after : SinkView) (output now : K) (a : Accepted) (source : List ℕ) →
      IsOpened old.files name source a → PrintsSheet sheet before after (with_source a source) a.function end →
      (IsSilent end → now ≡ output) →
      PrintsFile name (λ old new. BundleEnds (Prints sheet) old new name)
      (record { shelf = old; sink = before; output = output }) (record { shelf = new; sink = after; output = now }) end
  file_opened before after output now a source o prints quiet = record {
    ended = λ input. opened end (with_source a source) a.function o.is_bundle o.accepted prints;
    asked = asked;
    appended = text_grows _ before after end prints.ends;
    quiet = quiet;
  }
