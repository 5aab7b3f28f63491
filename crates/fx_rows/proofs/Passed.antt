-- Columns that are passed, one by one.
use Rattle.std.proofs.Common.{◌≡◌, ◌≢◌, ℕ, zero, suc, ◌+◌, ◌-◌, ◌<◌, ◌≤◌, Bool, false, eqb, List, [], ◌∷◌, ◌++◌, length, take, drop, get_or, refl, sym, ap, subst, ◌∙◌, arith, rules, tests, length-drop}
use Rattle.std.specs.Prelude.{◌||◌, ◌==◌}
use Rattle.std.specs.List.{All, list_any}
use Rattle.std.proofs.lemmas.List.{take_all, take-append-drop}
use Rattle.std.proofs.lemmas.List.Elements.{All-nil, All-cons}
use Rattle.std.proofs.lemmas.List.Folds.{list_any_none, list_any-append}
use Rattle.std.proofs.lemmas.List.Splits.{slice_split_none, slice_split_at}
use Rattle.fx_rational.specs.Decimal.{Decimal}
use Rattle.fx_rows.specs.Line.{is_special, pieces}
use Rattle.fx_text.specs.Leading.{IsLeading, IsEnd}
use Rattle.fx_rows.specs.Passing.{IsPiece}
use Rattle.fx_rows.proofs.Numbers.{no_special, number_spared, comma_spares}
use Rattle.fx_rows.proofs.Read.{place-at}

-- no quote, no line end and no comma so far
abbrev pub PassedTo : List ℕ → ℕ → Type 0
PassedTo text i = (k : ℕ) → k < i → (is_special (get_or text k 0) ≡ false) × (eqb (get_or text k 0) 44 ≡ false)

other : (c k : ℕ) → c ≢ k → eqb c k ≡ false
other c k h = search (rules, tests)

-- what holds of each byte of a front, by its places
front_all : (bad : ℕ → Bool) (text : List ℕ) (i : ℕ) → i ≤ length text →
    ((k : ℕ) → k < i → bad (get_or text k 0) ≡ false) → All (λ b. bad b ≡ false) (take i text)
front_all bad text zero le h = All-nil (λ b. bad b ≡ false)
front_all bad [] (suc i) le h = absurd (omega arith)
front_all bad (x ∷ xs) (suc i) le h =
    All-cons (λ b. bad b ≡ false) x (take i xs) (h 0 (omega arith))
    (front_all bad xs i (omega arith) (λ k lt. h (suc k) (omega arith)))

pub piece_at : (text : List ℕ) (i : ℕ) → i ≤ length text → PassedTo text i → IsEnd text i → IsPiece text i
piece_at text i le h stop = record {
  within = le;
  plain = list_any_none is_special (take i text) (front_all is_special text i le (λ k lt. (h k lt).0));
  one = front_all (λ b. b == 44) text i le (λ k lt. (h k lt).1);
  stop = stop;
}

-- a number is such a piece
pub leading_piece : (text : List ℕ) (d : Decimal) (end : ℕ) → IsLeading text d end → IsPiece text end
leading_piece text d end l = record {
  within = l.within;
  plain = no_special (take end text) d (sym l.number);
  one = number_spared (λ b. b == 44) comma_spares (take end text) d (sym l.number);
  stop = l.stop;
}

-- ---- what stands behind a piece
module _ (text : List ℕ) (end : ℕ) (p : IsPiece text end) where
  cut : end < length text → take end text ++ 44 ∷ drop (end + 1) text ≡ text
  cut lt = ap (λ b. take end text ++ b ∷ drop (end + 1) text) (sym (p.stop lt))
      ∙ ap (λ l. take end text ++ l) (sym (place-at text end lt)) ∙ take-append-drop end text

  rest_is : end < length text → take (length text - (end + 1)) (drop (end + 1) text) ≡ drop (end + 1) text
  rest_is lt = take_all _ (drop (end + 1) text) (omega (arith, length-drop (end + 1) text))

  pub pieces_behind : end < length text →
      pieces text ≡ take end text ∷ pieces (take (length text - (end + 1)) (drop (end + 1) text))
  pieces_behind lt = ap pieces (sym (cut lt))
      ∙ slice_split_at (λ b. b == 44) (take end text) 44 (drop (end + 1) text) p.one refl
      ∙ ap (λ l. take end text ∷ pieces l) (sym (rest_is lt))

  pub special_behind : end < length text →
      list_any is_special (take (length text - (end + 1)) (drop (end + 1) text)) ≡ list_any is_special text
  special_behind lt =
      ap (list_any is_special) (rest_is lt) ∙ ap (λ b. b || list_any is_special (drop (end + 1) text)) (sym p.plain)
      ∙ sym (list_any-append is_special (take end text) (44 ∷ drop (end + 1) text)) ∙ ap (list_any is_special) (cut lt)

  whole : length text ≤ end → take end text ≡ text
  whole le = take_all end text le

  pub pieces_last : length text ≤ end → pieces text ≡ take end text ∷ []
  pieces_last le = ap pieces (sym (whole le)) ∙ slice_split_none (λ b. b == 44) (take end text) p.one

  pub special_last : length text ≤ end → false ≡ list_any is_special text
  special_last le = sym p.plain ∙ ap (list_any is_special) (whole le)

-- a text of which each byte is plain
pub plain_text : (text : List ℕ) → ((k : ℕ) → k < length text → is_special (get_or text k 0) ≡ false) →
    list_any is_special text ≡ false
plain_text text h =
    list_any_none is_special text
    (subst (All (λ b. is_special b ≡ false)) (take_all (length text) text (omega arith))
    (front_all is_special text (length text) (omega arith) h))
