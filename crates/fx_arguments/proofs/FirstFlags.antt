-- The flags of a word of text begin with a character.
use Rattle.std.proofs.Common.{◌≡◌, ◌≢◌, ℕ, List, [], ◌∷◌, map, length, Some, refl, ap, ◌∙◌, sym, suc, arith, rules, String}
use Rattle.std.specs.Prelude.{encode_utf8_all, slice_get, IsUtf8}
use Rattle.std.specs.String.{string_bytes}
use Rattle.std.specs.Str.{chars}
use Rattle.std.specs.Char.{encode_utf8}
use Rattle.std.proofs.lemmas.Str.{encodes-chars, IsUtf8-string_bytes}
use Rattle.fx_arguments.specs.Grammar.{Bytes}
use Rattle.fx_arguments.proofs.OneWord.{AllHaveFirstFlag, HasFirstFlag}

text-has-first-flag : (word : Bytes) → IsUtf8 word → HasFirstFlag word
unfolding chars encode_utf8
text-has-first-flag [] utf8 dashed = absurd (cc)
text-has-first-flag (c ∷ []) utf8 dashed = absurd (cc)
text-has-first-flag (c ∷ d ∷ rest) utf8 dashed = by_first (chars (d ∷ rest)) refl where
  is_hyphen : c ≡ 45
  is_hyphen = search rules

  whole : encode_utf8_all (45 ∷ chars (d ∷ rest)) ≡ c ∷ d ∷ rest
  whole = ap (λ (b : ℕ). encode_utf8_all (chars (b ∷ d ∷ rest))) (sym is_hyphen) ∙ encodes-chars (c ∷ d ∷ rest) utf8

  by_first : (cs : List ℕ) → chars (d ∷ rest) ≡ cs →
      (x : ℕ) × (slice_get (chars (d ∷ rest)) 0 ≡ Some x) × (suc (length rest) ≢ 0)
  by_first [] e =
      let short : 45 ∷ [] ≡ c ∷ d ∷ rest = sym (ap (λ (l : List ℕ). encode_utf8_all (45 ∷ l)) e) ∙ whole in
      absurd (clash short) where
        clash : 45 ∷ [] ≡ c ∷ d ∷ rest → ⊥
        clash h = let n : 1 ≡ suc (suc (length rest)) = ap length h in omega arith
  by_first (x ∷ xs) e = (x, ap (λ (l : List ℕ). slice_get l 0) e, λ h. omega arith)

pub strings-have-first-flag : {Z : Type 0} (words : List (String Z)) → AllHaveFirstFlag (map string_bytes words)
strings-have-first-flag [] = tt
strings-have-first-flag (word ∷ rest) =
    (text-has-first-flag (string_bytes word) (IsUtf8-string_bytes word), strings-have-first-flag rest)
