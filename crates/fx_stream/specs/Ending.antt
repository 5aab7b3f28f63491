-- How a run over lines has ended: what every run promises, whatever it makes of a line.
use Rattle.std.specs.Prelude.{ℕ, ◌≤◌, ◌<◌, ◌↔◌, List, length, Option, Result, IfOk, IfErr, OnOk, IsErrOf, IfSome}
use Rattle.std.specs.Io.KnownBytes.{Consumes, IsAtEnd}
use Rattle.fx_base.specs.Causes.{Rose}
use Rattle.fx_base.specs.Moments.{HoldsEachTime}
use Rattle.fx_base.specs.Text.{lines_in}
use Rattle.fx_base.specs.Views.{SourceView, SinkView}
use Rattle.fx_stream.specs.Outcome.{Outcome}
use Rattle.fx_stream.specs.Promise.{Grows, IsAnswered, IsDone, IsDue}
use Rattle.fx_stream.specs.declared.fault.RunFault.{RunFault}
use Rattle.fx_stream.specs.declared.fault.RunFault.TheVariants.{ReadFault, WriteFault, TooLong}

-- what is seen of a source and a sink at one time
pub record Streams : Type 0 where
  pub source : SourceView
  pub sink : SinkView

-- what both tell of themselves
abbrev pub streams : {S K : Type 0} → (S → SourceView) → (K → SinkView) → S → K → Streams
streams source sink s k = record { source = source s; sink = sink k }

-- a run over lines was begun at `old` and has ended at `new`: o is what comes of lines, `told` what the definitions
-- call what is wrong with one, and more than `limit` bytes are too many
pub record EndsRun {T F : Type 0} (told : F → T) (o : List (List ℕ) → Outcome T) (limit : ℕ) (old new : Streams)
    (result : Result ℕ (RunFault F)) : Type 0 where
  -- Ok is the number of rows: all lines are printed, and none is bad
  pub done : IfOk result
      (λ n. IfSome old.source.left (λ all. IsDone (o (lines_in all)) n old.sink.taken new.sink.taken))
  -- then nothing is left
  pub end : OnOk result (IsAtEnd new.source.left)
  -- at a fault what is due by then is printed
  pub due : IfErr result (IsDue told o old.source.left new.source.left old.sink.taken new.sink.taken)
  -- each time that the source was asked for more, all that the lines so far come to was printed
  pub prompt : HoldsEachTime (IsAnswered o old.source.left old.sink.taken) old.source.asked new.source.asked
  -- bytes were taken from the front alone, and more than the limit exactly where that is the fault
  pub taken : (taken : List ℕ) × Consumes old.source.left new.source.left taken ×
      (IsErrOf result TooLong ↔ (limit < length taken))
  -- what the sink was given before stands
  pub grown : Grows old.sink.taken new.sink.taken
  -- a fault of a stream is told only where a read, or a write, has failed in this run
  pub read_fault : IsErrOf result ReadFault → Rose old.source.faults new.source.faults
  pub write_fault : IsErrOf result WriteFault → Rose old.sink.faults new.sink.faults
  -- the counts of faults never fall
  pub later : old.source.faults ≤ new.source.faults
  pub later_sink : old.sink.faults ≤ new.sink.faults
