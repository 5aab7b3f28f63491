-- What decides how a call ends, where nothing outside fails: the bytes of FILE, but for want of memory.
use Rattle.std.specs.Prelude.{◌≡◌, ◌≢◌, ◌⊎◌, ℕ, List, Some}
use Rattle.fx_base.specs.Causes.{Rose}
use Rattle.fx_base.specs.Shelf.{Files, paper_of}
use Rattle.fx_model.specs.Function.{Function}
use Rattle.fx_cert_text.specs.BundleView.{Parts}
use Rattle.fx_ends.specs.Ends.{End, NoMemory}
use Rattle.fx_bundle_commands.specs.Outside.{Outside}
use Rattle.fx_bundle_commands.specs.Opening.{IsBundle, IsAcceptedAs}

-- the shelf tells its files, these are the bytes of FILE, and no read of it failed
pub record IsFound (old new : Outside) (name file : List ℕ) : Type 0 where
  pub files : Files
  pub told : old.shelf.files ≡ Some files
  pub found : paper_of files name ≡ Some file
  pub unfailing : ¬ Rose old.shelf.faults new.shelf.faults

-- this end, or want of memory
abbrev pub OrNoMemory : (End → Type 0) → End → Type 0
OrNoMemory IsEnd end = IsEnd end ⊎ IsEnd NoMemory

-- where FILE is found, a cause that its bytes give is the one that ended the call
abbrev pub EndsExactly : Outside → Outside → List ℕ → (End → Type 0) → (End → Type 0) → Type 0
EndsExactly old new name IsCause IsEnd =
    (file : List ℕ) → IsFound old new name file → (end : End) → end ≢ NoMemory → IsCause end → OrNoMemory IsEnd end

-- FILE is found, and it is this bundle, which is accepted for this function
pub record IsReady (old new : Outside) (name : List ℕ) (b : Parts) (fn : Function) : Type 0 where
  pub file : List ℕ
  pub found : IsFound old new name file
  pub is_bundle : IsBundle old.shelf.files name b
  pub accepted : IsAcceptedAs b fn
