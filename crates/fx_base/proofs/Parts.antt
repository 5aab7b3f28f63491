-- Lemmas on what reads at places give of a file.
use Rattle.std.proofs.Common.{◌≡◌, ℕ, ◌≤◌, List, ◌++◌, Option, None, Some, Ok, length, take, drop, ap, sym, subst, ◌∙◌}
use Rattle.std.specs.Io.{StartsWith}
use Rattle.std.specs.Prelude.{MatchOption, IsErr}
use lib.Seq.{take-add}
use Rattle.fx_base.specs.declared.answers.Failed.{Failed}
use Rattle.fx_base.specs.Shelf.{Files, paper_of, IfPaper, GivesPart, ReadsPart}
use Rattle.fx_base.proofs.Lists.{length-append-take}

-- the bytes are the front of the file, if there is one
abbrev pub IsFront : List ℕ → Option (List ℕ) → Type 0
IsFront bytes None = Unit {0}
IsFront bytes (Some file) = StartsWith file bytes

-- a front of a file and the part behind it are a front of it
starts-with-part : (file bytes block : List ℕ) (n : ℕ) → StartsWith file bytes →
    take n block ≡ take n (drop (length bytes) file) → n ≤ length block
    → StartsWith file (bytes ++ take n block)
starts-with-part file bytes block n front part within =
    ap (λ k. take k file) (length-append-take bytes block n within)
    ∙ take-add (length bytes) n file ∙ ap (λ t. t ++ take n (drop (length bytes) file)) front
    ∙ ap (λ t. bytes ++ t) (sym part)

-- a read at the end of the front that is held makes it longer
pub front-more : (papers again : Option Files) (name bytes block new : List ℕ) (at n : ℕ) → again ≡ papers →
    at ≡ length bytes → IfPaper papers name (IsFront bytes)
    → ReadsPart {E = Failed} again name at (Ok n) block → n ≤ length block → new ≡ bytes ++ take n block →
    IfPaper papers name (IsFront new)
front-more None again name bytes block new at n same here front part within grown = tt
front-more (Some files) again name bytes block new at n same here front part within grown =
    subst (λ t. IsFront t (paper_of files name)) (sym grown)
    (elim (paper_of files name) as (λ paper. IsFront bytes paper →
    MatchOption paper (IsErr {T = ℕ} {E = Failed} (Ok n)) (λ file. GivesPart file (length bytes) n block) →
    IsFront (bytes ++ take n block) paper) [
      | None ↦ λ f p. tt
      | Some file ↦ λ f p. starts-with-part file bytes block n f p.0 within
    ] front (subst (λ p. ReadsPart {E = Failed} p name (length bytes) (Ok n) block) same
    (subst (λ i. ReadsPart {E = Failed} again name i (Ok n) block) here part)))
