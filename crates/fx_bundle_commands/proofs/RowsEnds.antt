-- How the rows of an input end, by what a run over lines answers.
use Rattle.std.proofs.Common.{◌≡◌, ◌≢◌, ◌↔◌, ◌<◌, Err, List, Result, ℕ, ap, length, refl, subst}
use Rattle.std.specs.Io.KnownBytes.{Consumes}
use Rattle.fx_base.specs.Causes.{Rose}
use Rattle.fx_base.specs.Moments.{HoldsEachTime}
use Rattle.fx_model.specs.Limits.{rows_limit}
use Rattle.fx_checker.specs.CertifiedView.{Accepted}
use Rattle.fx_stream.specs.Outcome.{Outcome}
use Rattle.fx_stream.specs.Promise.{IsAnswered, IsDue}
use Rattle.fx_stream.specs.declared.fault.RunFault.{RunFault}
use Rattle.fx_stream.specs.declared.fault.RunFault.TheVariants as run
use Rattle.fx_stream.specs.Ending.{EndsRun, Streams}
use Rattle.fx_ends.specs.Ends as ends
use Rattle.fx_ends.specs.Ends.{End}
use Rattle.fx_bundle_commands.specs.Calls.{RunsInput}
use Rattle.fx_bundle_commands.specs.OpeningView.{IsQuiet, with_source}
use Rattle.fx_bundle_commands.specs.Tasks.{Task, Does, HasAnswered}
use Rattle.fx_bundle_commands.specs.commands.Rows.{RowsEnd, RunsLines, Takes, bad_line, long, no_memory, unread, unwritten}

-- what was taken, where this end and the fault of too many bytes come together
taken_at : (old new : Streams) (end : End) (IsLong : Type 0) → (end ≡ ends.OverLimit → IsLong) →
    (IsLong → end ≡ ends.OverLimit) →
    ((taken : List ℕ) × Consumes old.source.left new.source.left taken × (IsLong ↔ (rows_limit < length taken))) → Takes
    old new end
taken_at old new end IsLong to from t =
    record { bytes = t.0; front = t.1; over = (λ e. t.2.0 (to e), λ more. from (t.2.1 more)) }

-- an end other than that, of a fault other than that
pub taken_short : (old new : Streams) (end : End) (IsLong : Type 0) → (end ≢ ends.OverLimit) → (IsLong → ⊥) →
    ((taken : List ℕ) × Consumes old.source.left new.source.left taken × (IsLong ↔ (rows_limit < length taken))) → Takes
    old new end
taken_short old new end IsLong other short t =
    taken_at old new end IsLong (λ e. absurd (other e)) (λ long. absurd (short long)) t

-- ---- a run that ends by a fault
module _ {T F : Type 0} (told : F → T) {o : List (List ℕ) → Outcome T} {bad : ℕ → T → End} {Law : Type 0}
    {old new : Streams} (law : Law) {fault : RunFault F}
    (taken : (bytes : List ℕ) × Consumes old.source.left new.source.left bytes
    × (◌≡◌ {A = Result ℕ (RunFault F)} (Err fault) (Err run.TooLong) ↔ (rows_limit < length bytes)))
    (due : IsDue told o old.source.left new.source.left old.sink.taken new.sink.taken fault) where
  pub lines_bad : {line : ℕ} {flaw : F} {end : End} → fault ≡ run.Row line flaw → bad line (told flaw) ≡ end →
      end ≢ ends.OverLimit → RunsLines o bad Law old new end
  lines_bad {line} {flaw} {end} is e other = record {
    law = law;
    taken = taken_short old new end _ other (λ long. absurd cc) taken;
    rows =
        subst (RowsEnd o bad old new) e
        (bad_line line (told flaw)
        (subst (IsDue told o old.source.left new.source.left old.sink.taken new.sink.taken) is due));
  }

  pub lines_unread : fault ≡ run.ReadFault →
      (◌≡◌ {A = Result ℕ (RunFault F)} (Err fault) (Err run.ReadFault) → Rose old.source.faults new.source.faults) →
      RunsLines o bad Law old new ends.ReadFault
  lines_unread is rose = record {
    law = law;
    taken = taken_short old new ends.ReadFault _ (λ e. absurd cc) (λ long. absurd cc) taken;
    rows = unread (rose (ap Err is))
        (subst (IsDue told o old.source.left new.source.left old.sink.taken new.sink.taken) is due);
  }

  pub lines_unwritten : fault ≡ run.WriteFault →
      (◌≡◌ {A = Result ℕ (RunFault F)} (Err fault) (Err run.WriteFault) → Rose old.sink.faults new.sink.faults) →
      RunsLines o bad Law old new ends.WriteFault
  lines_unwritten is rose = record {
    law = law;
    taken = taken_short old new ends.WriteFault _ (λ e. absurd cc) (λ long. absurd cc) taken;
    rows = unwritten (rose (ap Err is))
        (subst (IsDue told o old.source.left new.source.left old.sink.taken new.sink.taken) is due);
  }

  pub lines_long : fault ≡ run.TooLong → RunsLines o bad Law old new ends.OverLimit
  lines_long is = record {
    law = law;
    taken = taken_at old new ends.OverLimit _ (λ e. ap Err is) (λ e. refl) taken;
    rows = long (subst (IsDue told o old.source.left new.source.left old.sink.taken new.sink.taken) is due);
  }

  pub lines_without_memory : fault ≡ run.Memory → RunsLines o bad Law old new ends.NoMemory
  lines_without_memory is = record {
    law = law;
    taken = taken_short old new ends.NoMemory _ (λ e. absurd cc) (λ long. absurd cc) taken;
    rows = no_memory (subst (IsDue told o old.source.left new.source.left old.sink.taken new.sink.taken) is due);
  }

-- ---- what a command that runs the lines of the input promises, by what the run has
pub ran_input : {T F : Type 0} {told : F → T} {o : List (List ℕ) → Outcome T} {limit : ℕ} {old new : Streams}
    {answer : Result ℕ (RunFault F)} (task : Task) (a : Accepted) (end : End) → EndsRun told o limit old new answer
    → (HoldsEachTime (IsAnswered o old.source.left old.sink.taken) old.source.asked new.source.asked →
    HoldsEachTime (HasAnswered task a.function a.program old) old.source.asked new.source.asked)
    → ((source : List ℕ) → Does task old new (with_source a source) a.function end) → (IsQuiet end → ⊥) →
    RunsInput task a old new end
ran_input task a end e same does loud = record {
  ended = does;
  loud = loud;
  prompt = same e.prompt;
  consumed = (e.taken.0, e.taken.1);
  appended = e.grown;
}
