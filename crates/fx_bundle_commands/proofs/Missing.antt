-- A file that isn't there is never opened.
use Rattle.std.proofs.Common.{◌≡◌, ◌⊎◌, ℕ, List, Option, Some, None, refl, sym, subst, inl, inr}
use Rattle.std.specs.Prelude.{IsSomeAnd}
use Rattle.fx_base.specs.Shelf.{Files, IsMissing}
use Rattle.fx_base.specs.Views.{ShelfView}
use Rattle.fx_model.specs.Function.{Function}
use Rattle.fx_cert_text.specs.BundleView.{Parts}
use Rattle.fx_ends.specs.Ends.{End, status_of}
use Rattle.fx_bundle_commands.specs.Outside.{Outside, IfFile}
use Rattle.fx_bundle_commands.specs.Opening as opening
use Rattle.fx_bundle_commands.specs.Opening.{OpeningEnds, OpensThen, unopened, opened}
use Rattle.fx_bundle_commands.specs.Tasks.{IsUnopened}

-- of a file that isn't there nothing holds
pub no_file : {R : Type 0} (papers : Option Files) (name : List ℕ) (P : List ℕ → Type 0) → IsMissing papers name →
    IfFile papers name P → R
no_file None name P missing h = absurd missing
no_file (Some files) name P missing h = absurd (subst (λ paper. IsSomeAnd paper P) missing h)

fails : (old new : ShelfView) (name : List ℕ) (end : End) → IsMissing old.files name →
    OpeningEnds old new name end → (status_of end ≡ 6) ⊎ (status_of end ≡ 8)
fails old new name end missing (opening.unread cause) = inl refl
fails old new name end missing (opening.long over) = no_file old.files name _ missing over
fails old new name end missing (opening.no_bundle fault is) = no_file old.files name _ missing is
fails old new name end missing (opening.misread b fault is meant) = no_file old.files name _ missing is
fails old new name end missing (opening.rejected b fn fault is meant first) =
    no_file old.files name _ missing is
fails old new name end missing opening.no_memory = inr refl

-- FILE isn't there, so it isn't opened
pub missing_bundle : (old new : Outside) (name : List ℕ) (P : Parts → Function → End → Type 0) (end : End) (status : ℕ) →
    status ≡ status_of end → IsMissing old.shelf.files name → OpensThen old new name P end →
    IsUnopened old.streams new.streams status
missing_bundle old new name P end status is missing (unopened end' ends same) =
    record {
      failed = subst (λ s. (s ≡ 6) ⊎ (s ≡ 8)) (sym is) (fails _ _ name end missing ends);
      untouched = same;
    }
missing_bundle old new name P end status is missing (opened end' b fn is_bundle accepted ends) =
    no_file old.shelf.files name _ missing is_bundle
