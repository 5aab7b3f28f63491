-- The accepted bundle in FILE, or why there is none.
use Rattle.std.specs.Prelude.{◌≡◌, ◌⊎◌, ◌<◌, ◌≤◌, ℕ, List, length, Option, Some, Result, Ok, Err}
use Rattle.fx_base.specs.Causes.{Rose}
use Rattle.fx_base.specs.Shelf.{Files, IsMissing}
use Rattle.fx_base.specs.Views.{ShelfView}
use Rattle.fx_model.specs.Function.{Function}
use Rattle.fx_model.specs.Limits.{bundle_limit}
use Rattle.fx_inequalities.specs.Accepted.{first_fault, IsAccepted}
use Rattle.fx_inequalities.specs.Condition.{Fault}
use Rattle.fx_rules.specs.Steps.{rewrite}
use Rattle.fx_lexer.specs.declared.fault.SourceFault.{SourceFault}
use Rattle.fx_grammar.specs.Sources.{parsed}
use Rattle.fx_text.specs.declared.fault.TextFault.{TextFault}
use Rattle.fx_cert_text.specs.BundleView.{Parts, IsLawfulBundle, text_of}
use Rattle.fx_cert_text.specs.BundleReading.{bundle_in}
use Rattle.fx_bundle_commands.specs.Outside.{Outside, AreUntouched, IfFile}
use Rattle.fx_ends.specs.Ends.{End, Rejected, Misread, BadBundle, ReadFault, NoMemory, OverLimit}

-- these bytes are the one text of this bundle, which is lawful
pub record Spells (text : List ℕ) (b : Parts) : Type 0 where
  pub lawful : IsLawfulBundle b
  pub text_is : text ≡ text_of b

-- the function of the program's name in the source, or the source's first fault
abbrev pub meaning_of : Parts → Result Function SourceFault
meaning_of b = parsed b.source (Some b.program.name)

-- all conditions hold of this bundle, whose source means this function
pub record IsAcceptedAs (b : Parts) (fn : Function) : Type 0 where
  pub meant : meaning_of b ≡ Ok fn
  pub accepted : IsAccepted rewrite fn b.program b.certificate

-- FILE is within its limit and spells this bundle
abbrev pub IsBundle : Option Files → List ℕ → Parts → Type 0
IsBundle papers name b = IfFile papers name (λ file. (length file ≤ bundle_limit) × Spells file b)

-- FILE is a bundle that is accepted
abbrev pub IsOpen : Option Files → List ℕ → Type 0
IsOpen papers name = (b : Parts) × (fn : Function) × IsBundle papers name b × IsAcceptedAs b fn

-- why FILE gives no accepted bundle: the first cause in this order
pub data OpeningEnds (old new : ShelfView) (name : List ℕ) : End → Type 0 where
  unread : IsMissing old.files name ⊎ Rose old.faults new.faults → OpeningEnds old new name ReadFault
  long : IfFile old.files name (λ file. bundle_limit < length file) → OpeningEnds old new name OverLimit
  no_bundle : (fault : TextFault) →
      IfFile old.files name (λ file. (length file ≤ bundle_limit) × (bundle_in file ≡ Err fault)) →
      OpeningEnds old new name (BadBundle fault)
  misread : (b : Parts) (fault : SourceFault) → IsBundle old.files name b → meaning_of b ≡ Err fault →
      OpeningEnds old new name (Misread fault)
  rejected : (b : Parts) (fn : Function) (fault : Fault) → IsBundle old.files name b → meaning_of b ≡ Ok fn →
      first_fault rewrite fn b.program b.certificate ≡ Some fault →
      OpeningEnds old new name (Rejected fault)
  no_memory : OpeningEnds old new name NoMemory

-- a command that opens FILE: there is no accepted bundle, and nothing else is touched; or it does what P says with it
pub data OpensThen (old new : Outside) (name : List ℕ) (P : Parts → Function → End → Type 0) : End → Type 0 where
  unopened : (end : End) → OpeningEnds old.shelf new.shelf name end →
      AreUntouched old.streams new.streams → OpensThen old new name P end
  opened : (end : End) (b : Parts) (fn : Function) → IsBundle old.shelf.files name b → IsAcceptedAs b fn → P b fn end →
      OpensThen old new name P end
