-- What `fixd-c` promises.
use Rattle.std.specs.Prelude.{◌≡◌, ◌⊎◌, ⊤, true, ℕ, List, [], Option, Some, None, option_map, codes}
use Rattle.fx_base.specs.Causes.{Rose}
use Rattle.fx_base.specs.Shelf.{IsMissing}
use Rattle.fx_base.specs.Views.{SourceView, SinkView, ShelfView}
use Rattle.fx_model.specs.Function.{Function}
use Rattle.fx_cert_text.specs.BundleView.{Parts}
use Rattle.fx_stream.specs.Promise.{Grows}
use Rattle.fx_ends.specs.Ends.{End, Done, Usage, status_of, line_of}
use Rattle.fx_ends.specs.Notes.{AreNotes}
use Rattle.fx_bundle_commands.specs.Outside.{Outside, World, world, Asks}
use Rattle.fx_bundle_commands.specs.Opening.{IsOpen, OpeningEnds, OpensThen}
use Rattle.fx_bundle_commands.specs.Exact.{EndsExactly, IsReady, OrNoMemory}
use Rattle.fx_bundle_commands.specs.Tasks.{is_silent, IsUnopened}
use Rattle.fx_c_command.specs.Words.{TextRequest}
use Rattle.fx_c_command.specs.Printed.{PrintsC}

-- ---- the outside
-- the program gets no input: an empty one stands in its place
abbrev pub empty_input : SourceView
empty_input = record { left = Some []; asked = []; faults = 0 }

-- the outside at one time: what shelf, output and notes tell, and the output itself
abbrev pub c_world : {H K N : Type 0} → (H → ShelfView) → (K → SinkView) → (N → SinkView) → H → K → N → World ⊤ K
c_world shelf sink noted h k n = world shelf (λ _. empty_input) sink noted h tt k n

-- ---- how a call ends
-- its line on the notes, where there is one
abbrev pub c_line : End → Option (List ℕ)
c_line end = line_of (codes "fixd-c") (codes "usage: fixd-c [--header] FILE") end

-- the status and the line on the notes are those of this end
pub record IsCAnswer {K : Type 0} (old new : World ⊤ K) (status : ℕ) (end : End) : Type 0 where
  pub status_is : status ≡ status_of end
  pub line : AreNotes old.notes new.notes (c_line end)

-- the causes of an end; words that ask for nothing have theirs
abbrev pub CEnds : Outside → Outside → Option TextRequest → End → Type 0
CEnds old new None end = end ≡ Usage
CEnds old new (Some r) end = OpensThen old new r.file (PrintsC r.text old.streams.sink new.streams.sink) end

-- the call answers with one end, whose cause holds
pub record HasCEnded {K : Type 0} (asks : Option TextRequest) (old new : World ⊤ K) (status : ℕ) : Type 0 where
  pub end : End
  pub answer : IsCAnswer old new status end
  pub cause : CEnds old.seen new.seen asks end

-- ---- the promise
-- a call of words that ask for this found the outside as `old`, left it as `new`, and answered this status
pub record CBehaves {K : Type 0} (asks : Option TextRequest) (old new : World ⊤ K) (status : ℕ) : Type 0 where
  -- Each status, with its line on the notes, has its cause.
  pub ended : HasCEnded asks old new status
  -- A cause that FILE gives is how the call ends, where the shelf tells its files and doesn't fail, and there is
  -- memory.
  pub exact : (r : TextRequest) → asks ≡ Some r →
      EndsExactly old.seen new.seen r.file (OpeningEnds old.seen.shelf new.seen.shelf r.file) (IsCAnswer old new status)
  -- Where nothing outside fails and there is memory, the text of an accepted bundle is printed.
  pub complete : (r : TextRequest) → asks ≡ Some r → (b : Parts) (fn : Function) →
      IsReady old.seen new.seen r.file b fn → ¬ Rose old.seen.streams.sink.faults new.seen.streams.sink.faults →
      OrNoMemory (IsCAnswer old new status) Done
  -- Nothing is printed at a status but 0 and 7: so neither where the words ask for nothing, nor where FILE is no
  -- accepted bundle.
  pub silent : is_silent status ≡ true → new.output ≡ old.output
  -- It prints only where FILE is a bundle that is accepted, at whatever status it ends.
  pub unopened : (r : TextRequest) → asks ≡ Some r →
      IsOpen old.seen.shelf.files r.file ⊎ (new.output ≡ old.output)
  -- Of all files FILE alone is read, each place of it once and in order, and none where the words ask for nothing.
  pub asked : Asks (option_map (λ r. r.file) asks) old.seen.shelf.asked new.seen.shelf.asked
  -- Where the shelf tells its files and FILE is none of them, nothing is printed.
  pub missing : (r : TextRequest) → asks ≡ Some r → IsMissing old.seen.shelf.files r.file →
      IsUnopened old.seen.streams new.seen.streams status
  -- At every status what the output held stands before what it got.
  pub appended : Grows old.seen.streams.sink.taken new.seen.streams.sink.taken
