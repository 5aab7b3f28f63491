-- What `run` and `node` have in common: the lines of the input come to an outcome, whose text is printed.
use Rattle.std.specs.Prelude.{◌≡◌, ◌↔◌, ℕ, ◌+◌, ◌<◌, ◌≤◌, List, Option, Some, None, length, IfSome}
use Rattle.std.specs.Io.KnownBytes.{Consumes, IsAtEnd}
use Rattle.fx_base.specs.Causes.{Rose}
use Rattle.fx_base.specs.Text.{lines_in}
use Rattle.fx_model.specs.Limits.{rows_limit}
use Rattle.fx_stream.specs.Outcome.{Outcome}
use Rattle.fx_stream.specs.Promise.{IsDone, IsDue}
use Rattle.fx_stream.specs.declared.fault.RunFault.{RunFault}
use Rattle.fx_stream.specs.declared.fault.RunFault.TheVariants as run
use Rattle.fx_stream.specs.Ending.{Streams}
use Rattle.fx_ends.specs.Ends.{End, Done, ReadFault, WriteFault, NoMemory, OverLimit}

-- what is due at a fault of the run is printed
abbrev pub IsDueAt : {T : Type 0} → (List (List ℕ) → Outcome T) → Streams → Streams → RunFault T → Type 0
IsDueAt o old new = IsDue (λ flaw. flaw) o old.source.left new.source.left old.sink.taken new.sink.taken

-- how the lines of the input end, and what stands written then: o is what comes of lines, and `bad` the end at a line
-- of this number that is wrong in this way
pub data RowsEnd {T : Type 0} (o : List (List ℕ) → Outcome T) (bad : ℕ → T → End) (old new : Streams) : End →
    Type 0 where
  all_run : (count : ℕ) →
      IfSome old.source.left (λ all. IsDone (o (lines_in all)) count old.sink.taken new.sink.taken) →
      IsAtEnd new.source.left → RowsEnd o bad old new Done
  bad_line : (line : ℕ) (flaw : T) → IsDueAt o old new (run.Row line flaw) → RowsEnd o bad old new (bad line flaw)
  unread : Rose old.source.faults new.source.faults → IsDueAt o old new run.ReadFault → RowsEnd o bad old new ReadFault
  unwritten : Rose old.sink.faults new.sink.faults → IsDueAt o old new run.WriteFault →
      RowsEnd o bad old new WriteFault
  long : IsDueAt o old new run.TooLong → RowsEnd o bad old new OverLimit
  no_memory : IsDueAt o old new run.Memory → RowsEnd o bad old new NoMemory

-- the bytes that it took of the input: more than the limit exactly where that is the end
pub record Takes (old new : Streams) (end : End) : Type 0 where
  pub bytes : List ℕ
  pub front : Consumes old.source.left new.source.left bytes
  pub over : (end ≡ OverLimit) ↔ (rows_limit < length bytes)

-- what it does with an accepted bundle: the lines end so, and this law holds of any lines
pub record RunsLines {T : Type 0} (o : List (List ℕ) → Outcome T) (bad : ℕ → T →
    End) (Law : Type 0) (old new : Streams) (end : End) : Type 0 where
  pub law : Law
  pub taken : Takes old new end
  pub rows : RowsEnd o bad old new end

-- ---- completeness
-- the input is told and within its limit, and neither stream fails
pub record IsReadable (old new : Streams) (held : List ℕ) : Type 0 where
  pub told : old.source.left ≡ Some held
  pub short : length held ≤ rows_limit
  pub reads : ¬ Rose old.source.faults new.source.faults
  pub writes : ¬ Rose old.sink.faults new.sink.faults

-- the end that lines come to, by the first bad one if there is one
abbrev pub rows_end : {T : Type 0} → (ℕ → T → End) → Option (ℕ × T) → End
rows_end bad None = Done
rows_end bad (Some found) = bad (found.0 + 1) found.1
