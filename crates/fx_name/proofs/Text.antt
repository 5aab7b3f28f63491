-- A name is ASCII, so it is text.
use Rattle.std.proofs.Common.{◌≡◌, ℕ, ◌<◌, true, false, Bool, List, [], ◌∷◌, refl, arith, tests}
use Rattle.std.specs.Prelude.{◌&&◌, not}
use Rattle.std.specs.List.{list_all, AllByRecursion}
use Rattle.std.specs.Str.{IsUtf8}
use Rattle.std.proofs.lemmas.Str.{IsUtf8-from_ascii}
use Rattle.std.proofs.lemmas.Str.Ascii.{IsAscii-from_all}
use Rattle.std.proofs.lemmas.List.Elements.{All-from_recursion}
use Rattle.std.proofs.lemmas.Bool.{and_parts}
use Rattle.fx_model.specs.Names.{is_letter, is_word_byte, is_name, IsName, is_reserved}

-- letters and digits are ASCII
ascii : (cs : List ℕ) → list_all is_word_byte cs ≡ true → AllByRecursion (λ b. b < 128) cs
ascii [] h = tt
ascii (c ∷ cs) h = let t = and_parts (is_word_byte c) (list_all is_word_byte cs) h in (small c t.0, ascii cs t.1)
  where
    small : (x : ℕ) → is_word_byte x ≡ true → x < 128
    small x h = grind (arith, tests)

-- a name is text
pub name_utf8 : (name : List ℕ) → IsName name → IsUtf8 name
name_utf8 [] h = absurd cc
name_utf8 (c ∷ cs) h =
    let t = and_parts (is_letter c && list_all is_word_byte cs) (not (is_reserved (c ∷ cs))) h in
    let u = and_parts (is_letter c) (list_all is_word_byte cs) t.0 in
    IsUtf8-from_ascii (c ∷ cs)
    (IsAscii-from_all (c ∷ cs) (All-from_recursion (λ b. b < 128) (c ∷ cs) (small u.0, ascii cs u.1)))
  where
    small : is_letter c ≡ true → c < 128
    small h = grind (arith, tests)

-- what isn't text is no name
pub no_name : (text : List ℕ) → (IsUtf8 text → ⊥) → is_name text ≡ false
no_name text not_text = by (is_name text) refl
  where
    by : (b : Bool) → is_name text ≡ b → b ≡ false
    by true e = absurd (not_text (name_utf8 text e))
    by false e = refl
