-- A comment, byte by byte.
use Rattle.std.proofs.Common.{◌≡◌, ℕ, ◌+◌, ◌<◌, ◌≤◌, Bool, true, false, List, ◌∷◌, length, get_or, drop, Option, Some, None, refl, sym, ap, ◌∙◌, add-one}
use Rattle.std.proofs.Math.Seq.{drop-cons}
use Rattle.std.proofs.lemmas.List.{drop_all}
use Rattle.fx_lexer.specs.Comments.{comment_end, open_behind, is_outermost_end}

module _ (bytes : List ℕ) (i depth last : ℕ) (whole : Option ℕ) (lt : i < length bytes)
    (same : comment_end i depth last (drop i bytes) ≡ whole) where
  front : comment_end i depth last (get_or bytes i 0 ∷ drop (i + 1) bytes) ≡ whole
  front = rw (add-one, sym (drop-cons bytes i 0 lt)) same

  chosen : Bool → Option ℕ
  chosen b = elim b [
    | true ↦ Some (i + 1)
    | false ↦ comment_end (i + 1) (open_behind depth last (get_or bytes i 0)).0
        (open_behind depth last (get_or bytes i 0)).1 (drop (i + 1) bytes)
  ]

  by_cases : chosen (is_outermost_end depth last (get_or bytes i 0)) ≡ whole
  unfolding comment_end chosen
  by_cases = front

  -- this byte closes the outermost comment
  pub ends : is_outermost_end depth last (get_or bytes i 0) ≡ true → whole ≡ Some (i + 1)
  unfolding chosen
  ends p = sym by_cases ∙ ap chosen p

  -- it doesn't
  pub goes_on : is_outermost_end depth last (get_or bytes i 0) ≡ false →
      comment_end (i + 1) (open_behind depth last (get_or bytes i 0)).0 (open_behind depth last (get_or bytes i 0)).1
      (drop (i + 1) bytes) ≡ whole
  unfolding chosen
  goes_on p = sym (ap chosen p) ∙ by_cases

-- the text is over before
pub runs_out : (bytes : List ℕ) (i depth last : ℕ) (whole : Option ℕ) → length bytes ≤ i →
    comment_end i depth last (drop i bytes) ≡ whole → None ≡ whole
unfolding comment_end
runs_out bytes i depth last whole le same =
    let e : comment_end i depth last (drop i bytes) ≡ None = rw (drop_all i bytes le) refl in sym e ∙ same
