-- How the reading of an accepted bundle ends.
use Rattle.std.proofs.Common.{◌≡◌, ◌≢◌, ◌⊎◌, ◌<◌, ◌≤◌, length, refl, sym, ap, subst, ℕ, List, Option, Some, None, Result, Ok, Err, inl, inr}
use Rattle.std.specs.Prelude.{IsSomeAnd, IfOk, IfErr}
use Rattle.fx_base.specs.Causes.{Rose}
use Rattle.fx_base.specs.Shelf.{Files, IfPaper, IsMissing}
use Rattle.fx_base.specs.Views.{ShelfView}
use Rattle.fx_base.specs.declared.answers.InFault.{InFault}
use Rattle.fx_base.specs.declared.answers.InFault.TheVariants as reads
use Rattle.fx_model.specs.Limits.{bundle_limit}
use Rattle.fx_model.specs.Function.{Function}
use Rattle.fx_checker.specs.CertifiedView.{Accepted}
use Rattle.fx_bundle_commands.specs.Outside.{IfFile}
use Rattle.fx_bundle_commands.specs.Opening as opens
use Rattle.fx_inequalities.specs.Accepted.{first_fault}
use Rattle.fx_rules.specs.Steps.{rewrite}
use Rattle.fx_lexer.specs.Faults as source
use Rattle.fx_lexer.specs.declared.fault.SourceFault.{SourceFault}
use Rattle.fx_lexer.specs.declared.fault.SourceKind.TheVariants as sources
use Rattle.fx_text.specs.Faults as text
use Rattle.fx_text.specs.declared.fault.TextFault.{TextFault}
use Rattle.fx_text.specs.declared.fault.TextKind.TheVariants as texts
use Rattle.fx_grammar.specs.Sources.{parsed}
use Rattle.fx_formulas.specs.FaultView.{condition_fault_of}
use Rattle.fx_checker.specs.Refusal.{IsRefusal}
use Rattle.fx_checker.specs.declared.fault.CheckFault.{CheckFault}
use Rattle.fx_checker.specs.declared.fault.CheckFault.TheVariants as checks
use Rattle.fx_cert_text.specs.BundleView.{Parts}
use Rattle.fx_cert_text.specs.BundleReading.{bundle_in}
use Rattle.fx_ends.specs.Ends as ends
use Rattle.fx_ends.specs.Ends.{End}
use Rattle.fx_bundle_commands.specs.Opening.{Spells, meaning_of, OpeningEnds}
use Rattle.fx_bundle_commands.specs.OpeningView.{ReadingEnds, no_bundle, misread, rejected, IsReadAs, IsOpened, read_end, check_end}
use Rattle.fx_bundle_commands.specs.OpeningView as opening

-- want of memory ends it, wherever it comes
memory_ends : (bytes : List ℕ) (end : End) → end ≡ ends.NoMemory → ReadingEnds bytes end
memory_ends bytes end e = subst (ReadingEnds bytes) (sym e) opening.no_memory

-- the text isn't a bundle's
pub text_ends : (bytes : List ℕ) (fault : TextFault) (end : End) →
    (end ≡ ends.NoMemory) ⊎ ((end ≡ ends.BadBundle fault) × (fault.kind ≢ texts.Memory)) →
    (bundle_in bytes ≡ Err fault) ⊎ (fault ≡ text.text_memory) → ReadingEnds bytes end
text_ends bytes fault end (inl e) given = memory_ends bytes end e
text_ends bytes fault end (inr told) (inl read) = subst (ReadingEnds bytes) (sym told.0) (no_bundle fault read)
text_ends bytes fault end (inr told) (inr none) = absurd (told.1 (ap (λ f. f.kind) none))

-- the source has no such function
pub source_ends : (bytes : List ℕ) (b : Parts) (fault : SourceFault) (end : End) → Spells bytes b →
    (end ≡ ends.NoMemory) ⊎ ((end ≡ ends.Misread fault) × (fault.kind ≢ sources.Memory)) →
    (meaning_of b ≡ Err fault) ⊎ (fault ≡ source.source_memory) → ReadingEnds bytes end
source_ends bytes b fault end spelled (inl e) given = memory_ends bytes end e
source_ends bytes b fault end spelled (inr told) (inl read) =
    subst (ReadingEnds bytes) (sym told.0) (misread b fault spelled read)
source_ends bytes b fault end spelled (inr told) (inr none) = absurd (told.1 (ap (λ f. f.kind) none))

-- a condition fails
pub check_ends : (bytes : List ℕ) (b : Parts) (fn : Function) (told : CheckFault) (end : End) → Spells bytes b →
    meaning_of b ≡ Ok fn → end ≡ check_end told →
    IsRefusal told (first_fault rewrite fn b.program b.certificate) → ReadingEnds bytes end
check_ends bytes b fn checks.Memory end spelled meant is refused = memory_ends bytes end is
check_ends bytes b fn (checks.Condition fault) end spelled meant is (inl none) = absurd cc
check_ends bytes b fn (checks.Condition fault) end spelled meant is (inr first) =
    subst (ReadingEnds bytes) (sym is) (rejected b fn (condition_fault_of fault) spelled meant (sym first))

-- what was parsed is what the source means
pub meant : (b : Parts) (source name : List ℕ) → source ≡ b.source → name ≡ b.program.name →
    parsed source (Some name) ≡ meaning_of b
meant b source name e h = λ i. parsed (e i) (Some (h i))

-- ---- of the file
pub if_file : (papers : Option Files) (name bytes : List ℕ) (P : List ℕ → Type 0) →
    IfPaper papers name (λ paper. paper ≡ Some bytes) → P bytes → IfFile papers name P
if_file None name bytes P is p = tt
if_file (Some files) name bytes P is p = subst (λ (paper : Option (List ℕ)). IsSomeAnd paper P) (sym is) p

-- what was read is a bundle
pub is_opened : (papers : Option Files) (name bytes slice source : List ℕ) (a : Accepted) →
    IfPaper papers name (λ paper. paper ≡ Some bytes) → length bytes ≤ bundle_limit → slice ≡ bytes →
    IsReadAs slice source a
    → IsOpened papers name source a
is_opened papers name bytes slice source a is short same read =
    let r = subst (λ (t : List ℕ). IsReadAs t source a) same read in
    record {
      lawful = r.spelled.lawful;
      is_bundle = if_file papers name bytes _ is (short, r.spelled);
      accepted = r.accepted;
    }

-- what was read is none
ending : (old new : ShelfView) (name bytes : List ℕ) (end : End) →
    IfPaper old.files name (λ paper. paper ≡ Some bytes) → length bytes ≤ bundle_limit → ReadingEnds bytes end →
    OpeningEnds old new name end
ending old new name bytes end is short (no_bundle fault read) =
    opens.no_bundle fault (if_file old.files name bytes _ is (short, read))
ending old new name bytes end is short (misread b fault spelled meant) =
    opens.misread b fault (if_file old.files name bytes _ is (short, spelled)) meant
ending old new name bytes end is short (rejected b fn fault spelled meant first) =
    opens.rejected b fn fault (if_file old.files name bytes _ is (short, spelled)) meant first
ending old new name bytes end is short opening.no_memory = opens.no_memory

pub opening_ends : (old new : ShelfView) (name bytes slice : List ℕ) (end : End) →
    IfPaper old.files name (λ paper. paper ≡ Some bytes) → length bytes ≤ bundle_limit → slice ≡ bytes →
    ReadingEnds slice end →
    OpeningEnds old new name end
opening_ends old new name bytes slice end is short same read =
    ending old new name bytes end is short (subst (λ (t : List ℕ). ReadingEnds t end) same read)

-- it wasn't read
pub read_ends : (old new : ShelfView) (name : List ℕ) (fault : InFault) →
    (fault ≡ reads.TooLong → IfFile old.files name (λ file. bundle_limit < length file)) →
    (fault ≡ reads.ReadFault → IsMissing old.files name ⊎ Rose old.faults new.faults) →
    OpeningEnds old new name (read_end fault)
read_ends old new name reads.ReadFault long failed = opens.unread (failed refl)
read_ends old new name reads.TooLong long failed = opens.long (long refl)
read_ends old new name reads.Memory long failed = opens.no_memory

-- ---- what is said of an answer, in other words
pub if_ok : {T E : Type 0} {P Q : T → Type 0} (r : Result T E) → ((x : T) → P x → Q x) → IfOk r P → IfOk r Q
if_ok (Ok x) f p = f x p
if_ok (Err e) f p = tt

pub if_err : {T E : Type 0} {P Q : E → Type 0} (r : Result T E) → ((e : E) → P e → Q e) → IfErr r P → IfErr r Q
if_err (Ok x) f p = tt
if_err (Err e) f p = f e p
