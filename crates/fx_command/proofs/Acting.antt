-- A call did what its command says: each command's own promise, told of the whole outside.
use Rattle.std.proofs.Common.{◌≡◌, ◌⊎◌, refl, sym, ap, subst, ◌∙◌, ℕ, List, [], true, false, Option, Some, None, inl, inr}
use Rattle.std.specs.Prelude.{String, option_map}
use Rattle.std.specs.Option.{option_and_then}
use Rattle.std.specs.declared.alloc.Global.{Global}
use Rattle.std.specs.Io.KnownBytes.{Consumes}
use Rattle.fx_base.specs.Moments.{HoldsEachTime}
use Rattle.fx_base.specs.Requests.{Request, AsksInOrder}
use Rattle.fx_base.specs.Views.{ShelfView}
use Rattle.fx_base.proofs.Noting.{none_noted}
use Rattle.fx_base.proofs.Requested.{none_asked}
use Rattle.fx_cert_text.specs.Laws.{BundleAgain}
use Rattle.fx_rows.specs.ReadRows.{RowsInRangeLaw}
use Rattle.fx_node.specs.Events.{EventsInRangeLaw}
use Rattle.fx_stream.specs.Promise.{Grows}
use Rattle.fx_stream.proofs.Grown.{none_grown}
use Rattle.fx_arguments.specs.Command.{Command, command_of, texts}
use Rattle.fx_ends.specs.Ends.{End, NoMemory}
use Rattle.fx_bundle_commands.specs.declared.commands.run.Rows.{Rows}
use Rattle.fx_bundle_commands.specs.declared.commands.run.Rows.TheVariants.{Alike, Apart, Units}
use Rattle.fx_bundle_commands.specs.declared.commands.sheet.Sheet.{Sheet}
use Rattle.fx_bundle_commands.specs.Calls.{RunsFile}
use Rattle.fx_bundle_commands.specs.Outside.{Outside, World, IsUntouched, Asks}
use Rattle.fx_bundle_commands.specs.Opening as opening
use Rattle.fx_bundle_commands.specs.Opening.{IsOpen, OpeningEnds}
use Rattle.fx_bundle_commands.specs.OpeningView.{IsSilent}
use Rattle.fx_bundle_commands.specs.RowsView.{rows_task}
use Rattle.fx_bundle_commands.specs.Tasks.{Task, Prints, BundleEnds, IsPromptAt, IsAnswer, is_silent}
use Rattle.fx_bundle_commands.proofs.Silent.{silent_is_silent}
use Rattle.fx_command.specs.Source as source
use Rattle.fx_command.specs.commands.Synth as synth
use Rattle.fx_command.specs.commands.Demo as demo
use Rattle.fx_command.specs.Promise.{Deed, OnBundle, Synthesises, Demonstrates, Behaves, CallEnds, file_of, HasEnded, deed_of, is_early, leaves_input}
use Rattle.fx_command.proofs.Early.{early_is_quiet, quiet_is_silent}
use Rattle.fx_command.proofs.Exact.{complete, exact}
use Rattle.fx_command.proofs.Honest.{honest, honest_node}
use Rattle.fx_command.proofs.Missing.{missing_file}

-- what the promise says of the one call; the rest of it follows
pub record Acts {S K : Type 0} (deed : Option Deed) (old new : World S K) (status : ℕ) : Type 0 where
  pub ended : HasEnded deed old new status
  pub prompt : (task : Task) (name : List ℕ) → deed ≡ Some (OnBundle task name) →
      HoldsEachTime (IsPromptAt task old.seen.shelf.files name old.seen.streams) old.seen.streams.source.asked
      new.seen.streams.source.asked
  pub early : is_early status ≡ true → IsUntouched old new
  pub silent : (d : Deed) → deed ≡ Some d → leaves_input d ≡ true → is_silent status ≡ true → new.output ≡ old.output
  pub unopened : (task : Task) (name : List ℕ) → deed ≡ Some (OnBundle task name) →
      IsOpen old.seen.shelf.files name ⊎ IsUntouched old new
  pub asked : Asks (option_and_then file_of deed) old.seen.shelf.asked new.seen.shelf.asked
  pub consumed : (taken : List ℕ) × Consumes old.seen.streams.source.left new.seen.streams.source.left taken
  pub appended : Grows old.seen.streams.sink.taken new.seen.streams.sink.taken
  pub aside : (d : Deed) → deed ≡ Some d → leaves_input d ≡ true → new.input ≡ old.input

behaves : {S K : Type 0} {deed : Option Deed} {old new : World S K} {status : ℕ} → RowsInRangeLaw → EventsInRangeLaw →
    BundleAgain → Acts deed old new status → Behaves deed old new status
behaves {deed = deed} {old = old} {new = new} {status = status} rows events again a = record {
  honest = honest deed old new status a.ended rows;
  honest_node = honest_node deed old new status a.ended events;
  prompt = a.prompt;
  ended = a.ended;
  exact = exact again deed old new status a.ended;
  complete = complete again deed old new status a.ended;
  early = a.early;
  silent = a.silent;
  unopened = a.unopened;
  asked = a.asked;
  missing = missing_file deed old new status a.ended;
  consumed = a.consumed;
  appended = a.appended;
  aside = a.aside;
}

-- the words are this command
module _ {S K : Type 0} {old new : World S K} {status : ℕ} (rows : RowsInRangeLaw) (events : EventsInRangeLaw)
    (again : BundleAgain) (words read : List (String Global)) (same : read ≡ words) where
  pub by_command : (c : Command) → command_of (texts read) ≡ Some c → Acts (Some (deed_of c)) old new status →
      Behaves (option_map deed_of (command_of (texts words))) old new status
  by_command c is a =
      behaves rows events again
      (subst (λ (d : Option Deed). Acts d old new status) (sym (ap (option_map deed_of)
      (sym (ap (λ ws. command_of (texts ws)) same) ∙ is))) a)

  -- or none
  pub by_none : command_of (texts read) ≡ None → Acts None old new status →
      Behaves (option_map deed_of (command_of (texts words))) old new status
  by_none is a =
      behaves rows events again
      (subst (λ (d : Option Deed). Acts d old new status) (sym (ap (option_map deed_of)
      (sym (ap (λ ws. command_of (texts ws)) same) ∙ is))) a)

-- ---- a command that reads the input
one_bundle : (t t' : Task) (n n' : List ℕ) → Some (OnBundle t n) ≡ Some (OnBundle t' n') → (t ≡ t') × (n ≡ n')
one_bundle t t' n n' e = (cc, cc)

-- however its lines are run
rows_read : (rows : Rows) (file : List ℕ) → leaves_input (OnBundle (rows_task rows) file) ≡ false
rows_read Alike file = refl
rows_read Apart file = refl
rows_read (Units units) file = refl

module _ {S K : Type 0} (task : Task) (old new : World S K) (name : List ℕ) (status : ℕ) where
  did : ((file : List ℕ) → leaves_input (OnBundle task file) ≡ false) → RunsFile task old new name status →
      Acts (Some (OnBundle task name)) old new status
  did reads r = record {
    ended = record { end = r.end; answer = r.answer; cause = r.ends };
    prompt = λ t n e. let same = one_bundle task t name n e in
        subst (λ (x : Task). HoldsEachTime (IsPromptAt x old.seen.shelf.files n old.seen.streams)
        old.seen.streams.source.asked
        new.seen.streams.source.asked) same.0
        (subst (λ x. HoldsEachTime (IsPromptAt task old.seen.shelf.files x old.seen.streams)
        old.seen.streams.source.asked
        new.seen.streams.source.asked) same.1 r.prompt);
    early = λ early. r.quiet (early_is_quiet r.end status r.answer.status_is early);
    silent = λ d e leaves. absurd (never d e leaves);
    unopened = λ t n e. let same = one_bundle task t name n e in
        subst (λ x. IsOpen old.seen.shelf.files x ⊎ IsUntouched old new) same.1 r.unopened;
    asked = r.asked;
    consumed = r.consumed;
    appended = r.appended;
    aside = λ d e leaves. absurd (never d e leaves);
  }
    where
      never : (d : Deed) → Some (OnBundle task name) ≡ Some d → leaves_input d ≡ true → ⊥
      never d e leaves =
          let is : OnBundle task name ≡ d = cc in
          let z = sym (reads name) ∙ ap leaves_input is ∙ leaves in absurd cc

pub ran : {S K : Type 0} (rows : Rows) (task : Task) → rows_task rows ≡ task → (old new : World S K) (name : List ℕ)
    (status : ℕ) → RunsFile (rows_task rows) old new name status → Acts (Some (OnBundle task name)) old new status
ran rows task is old new name status r =
    subst (λ t. Acts (Some (OnBundle t name)) old new status) is
    (did (rows_task rows) old new name status (rows_read rows) r)

-- ---- a command that leaves the input alone
-- nothing was asked of the shelf, whatever file is named
none_asked_of : (name : Option (List ℕ)) (old new : List Request) → new ≡ old → Asks name old new
none_asked_of None old new same = same
none_asked_of (Some name) old new same = subst (AsksInOrder name old) (sym same) (none_asked name 0 old).order

-- the input is what it was
pub record Stays {S K : Type 0} (old new : World S K) : Type 0 where
  pub input : new.input ≡ old.input
  pub left : new.seen.streams.source.left ≡ old.seen.streams.source.left
  pub asked : new.seen.streams.source.asked ≡ old.seen.streams.source.asked

-- why there is no accepted bundle is no end at which something is printed
opening_silent : (old new : ShelfView) (name : List ℕ) (end : End) → OpeningEnds old new name end → IsSilent end
opening_silent old new name end (opening.unread cause) = tt
opening_silent old new name end (opening.long over) = tt
opening_silent old new name end (opening.no_bundle fault is) = tt
opening_silent old new name end (opening.misread b fault is meant) = tt
opening_silent old new name end (opening.rejected b fn fault is meant first) = tt
opening_silent old new name end opening.no_memory = tt

opens : (old new : Outside) (deed : Option Deed) (end : End) → CallEnds old new deed end → (task : Task)
    (name : List ℕ) → deed ≡ Some (OnBundle task name) → IsOpen old.shelf.files name ⊎ IsSilent end
opens old new None end cause task name e = absurd cc
opens old new (Some (Synthesises wanted)) end cause task name e = absurd cc
opens old new (Some (Demonstrates n)) end cause task name e = absurd cc
opens old new (Some (OnBundle t n)) end (opening.unopened end' why same) task name e =
    inr (opening_silent _ _ n end why)
opens old new (Some (OnBundle t n)) end (opening.opened end' b fn is accepted does) task name e =
    let same = one_bundle t task n name e in
    inl (subst (IsOpen old.shelf.files) same.1 (b, fn, is, accepted))

module _ {S K : Type 0} (deed : Option Deed) (old new : World S K) (status : ℕ) (end : End) where
  pub acted : Stays old new → IsAnswer old new status end → CallEnds old.seen new.seen deed end →
      Asks (option_and_then file_of deed) old.seen.shelf.asked new.seen.shelf.asked →
      Grows old.seen.streams.sink.taken new.seen.streams.sink.taken → (IsSilent end → new.output ≡ old.output) →
      Acts deed old new status
  acted stays answer cause asked grown quiet = record {
    ended = record { end = end; answer = answer; cause = cause };
    prompt = λ task name e. subst (λ asked. HoldsEachTime (IsPromptAt task old.seen.shelf.files name old.seen.streams)
        old.seen.streams.source.asked asked) (sym stays.asked)
        (none_noted (IsPromptAt task old.seen.shelf.files name old.seen.streams) _);
    early = λ early. record {
      input = stays.input;
      output = quiet (quiet_is_silent end (early_is_quiet end status answer.status_is early));
    };
    silent = λ d e leaves silent. quiet (silent_is_silent end status answer.status_is silent);
    unopened = λ task name e. untouched task name (opens old.seen new.seen deed end cause task name e);
    asked = asked;
    consumed = subst (λ left. (taken : List ℕ) × Consumes old.seen.streams.source.left left taken) (sym stays.left)
        (none_taken old.seen.streams.source.left);
    appended = grown;
    aside = λ d e leaves. stays.input;
  }
    where
      untouched : (task : Task) (name : List ℕ) → IsOpen old.seen.shelf.files name ⊎ IsSilent end →
          IsOpen old.seen.shelf.files name ⊎ IsUntouched old new
      untouched task name (inl is) = inl is
      untouched task name (inr silent) = inr (record { input = stays.input; output = quiet silent })

      none_taken : (left : Option (List ℕ)) → (taken : List ℕ) × Consumes left left taken
      none_taken None = ([], tt)
      none_taken (Some bytes) = ([], refl)

-- a text of the bundle in FILE was printed
module _ {S K : Type 0} (sheet : Sheet) (task : Task) (is : Prints sheet ≡ task) (old new : World S K)
    (name : List ℕ) (status : ℕ) (end : End) where
  pub printed : Stays old new → IsAnswer old new status end → BundleEnds (Prints sheet) old.seen new.seen name end →
      AsksInOrder name old.seen.shelf.asked new.seen.shelf.asked →
      Grows old.seen.streams.sink.taken new.seen.streams.sink.taken → (IsSilent end → new.output ≡ old.output) →
      Acts (Some (OnBundle task name)) old new status
  printed stays answer cause asked grown quiet =
      subst (λ t. Acts (Some (OnBundle t name)) old new status) is
      (acted (Some (OnBundle (Prints sheet) name)) old new status end stays answer cause asked grown quiet)

-- ---- the words weren't read for want of memory
unread : (old new : Outside) → new.streams.source.left ≡ old.streams.source.left →
    new.streams.sink.taken ≡ old.streams.sink.taken → (deed : Option Deed) → CallEnds old new deed NoMemory
unread old new left taken None = inr refl
unread old new left taken (Some (OnBundle task name)) =
    opening.unopened _ opening.no_memory (record { left = left; taken = taken })
unread old new left taken (Some (Synthesises wanted)) =
    synth.unopened _ source.no_memory (record { left = left; taken = taken })
unread old new left taken (Some (Demonstrates n)) = demo.no_memory taken

module _ {S K : Type 0} (old new : World S K) (status : ℕ) where
  pub unread_words : RowsInRangeLaw → EventsInRangeLaw → BundleAgain → (deed : Option Deed) → Stays old new →
      new.output ≡ old.output → new.seen.streams.sink.taken ≡ old.seen.streams.sink.taken →
      new.seen.shelf.asked ≡ old.seen.shelf.asked → IsAnswer old new status NoMemory → Behaves deed old new status
  unread_words rows events again deed stays output taken same answer =
      behaves rows events again (acted deed old new status NoMemory stays answer
      (unread old.seen new.seen stays.left taken deed) (none_asked_of (option_and_then file_of deed) _ _ same)
      (subst (λ t. Grows old.seen.streams.sink.taken t) (sym taken) (none_grown _)) (λ silent. output))
