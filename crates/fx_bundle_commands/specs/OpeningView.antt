-- What the steps of opening FILE say to one another, and what the contracts of calls below `fixd` are written in. No
-- clause of `fixd` rests on this.
use Rattle.std.specs.Prelude.{◌≡◌, ℕ, List, Option, Some, Ok, Err}
use Rattle.fx_base.specs.Shelf.{Files}
use Rattle.fx_base.specs.declared.answers.InFault.{InFault}
use Rattle.fx_base.specs.declared.answers.InFault.TheVariants as reads
use Rattle.fx_model.specs.Function.{Function}
use Rattle.fx_inequalities.specs.Accepted.{first_fault}
use Rattle.fx_inequalities.specs.Condition.{Fault}
use Rattle.fx_rules.specs.Steps.{rewrite}
use Rattle.fx_lexer.specs.declared.fault.SourceFault.{SourceFault}
use Rattle.fx_text.specs.declared.fault.TextFault.{TextFault}
use Rattle.fx_checker.specs.CertifiedView.{Accepted}
use Rattle.fx_formulas.specs.FaultView.{condition_fault_of}
use Rattle.fx_checker.specs.declared.fault.CheckFault.{CheckFault}
use Rattle.fx_checker.specs.declared.fault.CheckFault.TheVariants as checks
use Rattle.fx_cert_text.specs.BundleView.{Parts, IsLawfulBundle}
use Rattle.fx_cert_text.specs.BundleReading.{bundle_in}
use Rattle.fx_ends.specs.Ends.{End, Done, Usage, NotFound, Rejected, Misread, BadBundle, ReadFault, WriteFault, OverLimit, NoMemory}
use Rattle.fx_bundle_commands.specs.Opening.{Spells, meaning_of, IsAcceptedAs, IsBundle}

-- the parts with this source
abbrev pub with_source : Accepted → List ℕ → Parts
with_source a source = record { source = source; program = a.program; certificate = a.certificate }

-- the bytes spell an accepted bundle of this source and these parts
pub record IsReadAs (bytes source : List ℕ) (a : Accepted) : Type 0 where
  pub spelled : Spells bytes (with_source a source)
  pub accepted : IsAcceptedAs (with_source a source) a.function

-- FILE is a lawful bundle of this source and these parts, and it is accepted
pub record IsOpened (papers : Option Files) (name source : List ℕ) (a : Accepted) : Type 0 where
  pub lawful : IsLawfulBundle (with_source a source)
  pub is_bundle : IsBundle papers name (with_source a source)
  pub accepted : IsAcceptedAs (with_source a source) a.function

-- of a file that wasn't read
abbrev pub read_end : InFault → End
read_end reads.ReadFault = ReadFault
read_end reads.TooLong = OverLimit
read_end reads.Memory = NoMemory

-- why bytes give no accepted bundle
pub data ReadingEnds (bytes : List ℕ) : End → Type 0 where
  no_bundle : (fault : TextFault) → bundle_in bytes ≡ Err fault → ReadingEnds bytes (BadBundle fault)
  misread : (b : Parts) (fault : SourceFault) → Spells bytes b → meaning_of b ≡ Err fault →
      ReadingEnds bytes (Misread fault)
  rejected : (b : Parts) (fn : Function) (fault : Fault) → Spells bytes b → meaning_of b ≡ Ok fn →
      first_fault rewrite fn b.program b.certificate ≡ Some fault → ReadingEnds bytes (Rejected fault)
  no_memory : ReadingEnds bytes NoMemory

-- of a certificate that isn't accepted
abbrev pub check_end : CheckFault → End
check_end (checks.Condition fault) = Rejected (condition_fault_of fault)
check_end checks.Memory = NoMemory

-- an end at which a command that reads no rows has printed nothing
abbrev pub IsSilent : End → Type 0
IsSilent Done = ⊥
IsSilent WriteFault = ⊥
IsSilent end = Unit {0}

-- an end of a bundle that isn't accepted, or of words that are no command's: nothing is printed, and nothing read
abbrev pub IsQuiet : End → Type 0
IsQuiet (Rejected fault) = Unit {0}
IsQuiet (Misread fault) = Unit {0}
IsQuiet (BadBundle fault) = Unit {0}
IsQuiet (NotFound outside) = Unit {0}
IsQuiet Usage = Unit {0}
IsQuiet end = ⊥
