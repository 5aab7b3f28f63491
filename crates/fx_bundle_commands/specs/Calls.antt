-- What the calls below `fixd` promise. No clause of `fixd` rests on this.
use Rattle.std.specs.Prelude.{◌≡◌, ◌⊎◌, ℕ, List}
use Rattle.std.specs.Io.KnownBytes.{Consumes}
use Rattle.fx_base.specs.Moments.{HoldsEachTime}
use Rattle.fx_base.specs.Requests.{AsksInOrder}
use Rattle.fx_base.specs.Views.{SourceView, SinkView, ShelfView}
use Rattle.fx_checker.specs.CertifiedView.{Accepted}
use Rattle.fx_stream.specs.Ending.{Streams}
use Rattle.fx_stream.specs.Promise.{Grows}
use Rattle.fx_ends.specs.Ends.{End}
use Rattle.fx_bundle_commands.specs.Outside.{Outside, World, IsUntouched}
use Rattle.fx_bundle_commands.specs.Opening.{IsOpen}
use Rattle.fx_bundle_commands.specs.OpeningView.{IsQuiet, IsSilent, with_source}
use Rattle.fx_bundle_commands.specs.Tasks.{Task, Does, BundleEnds, HasAnswered, IsPromptAt, IsAnswer}

-- ---- of a command that runs the lines of the input
-- a command that runs the lines of the input is over, and has answered this status
pub record RunsFile {S K : Type 0} (task : Task) (old new : World S K) (name : List ℕ) (status : ℕ) : Type 0 where
  -- it answers with one end, whose cause holds
  pub end : End
  pub answer : IsAnswer old new status end
  pub ends : BundleEnds task old.seen new.seen name end
  -- where FILE is no accepted bundle, nothing is read and nothing printed
  pub quiet : IsQuiet end → IsUntouched old new
  pub unopened : IsOpen old.seen.shelf.files name ⊎ IsUntouched old new
  -- FILE alone is read, each place of it once
  pub asked : AsksInOrder name old.seen.shelf.asked new.seen.shelf.asked
  -- each line is answered before the input is asked for more
  pub prompt : HoldsEachTime (IsPromptAt task old.seen.shelf.files name old.seen.streams) old.seen.streams.source.asked
      new.seen.streams.source.asked
  -- bytes are taken from the front alone, and what the output held stands
  pub consumed : (taken : List ℕ) × Consumes old.seen.streams.source.left new.seen.streams.source.left taken
  pub appended : Grows old.seen.streams.sink.taken new.seen.streams.sink.taken

-- the lines of the input were run through what is accepted, which came to this end
pub record RunsInput (task : Task) (a : Accepted) (old new : Streams) (end : End) : Type 0 where
  pub ended : (source : List ℕ) → Does task old new (with_source a source) a.function end
  -- it is no end of a bundle that isn't accepted
  pub loud : IsQuiet end → ⊥
  pub prompt : HoldsEachTime (HasAnswered task a.function a.program old) old.source.asked new.source.asked
  pub consumed : (taken : List ℕ) × Consumes old.source.left new.source.left taken
  pub appended : Grows old.sink.taken new.sink.taken

-- ---- of a command that prints a text
-- a shelf and an output at one time: what both tell, and the output itself
pub record Desk (K : Type 0) : Type 0 where
  pub shelf : ShelfView
  pub sink : SinkView
  pub output : K

-- what both tell of themselves
abbrev pub desk : {H K : Type 0} → (H → ShelfView) → (K → SinkView) → H → K → Desk K
desk shelf sink h k = record { shelf = shelf h; sink = sink k; output = k }

-- the outside with this input beside them
abbrev pub beside : {K : Type 0} → SourceView → Desk K → Outside
beside input d = record { shelf = d.shelf; streams = record { source = input; sink = d.sink } }

-- a command that reads FILE and prints a text is over, and has come to this end, of which `Cause` is the cause whatever
-- the input tells
pub record PrintsFile {K : Type 0} (name : List ℕ) (Cause : Outside → Outside → End → Type 0) (old new : Desk K)
    (end : End) : Type 0 where
  pub ended : (input : SourceView) → Cause (beside input old) (beside input new) end
  -- FILE alone is read, each place of it once
  pub asked : AsksInOrder name old.shelf.asked new.shelf.asked
  -- what the output held stands, and at most ends nothing was printed
  pub appended : Grows old.sink.taken new.sink.taken
  pub quiet : IsSilent end → new.output ≡ old.output
