-- What tokens of each kind say, and which faults there are.
use Rattle.std.proofs.Common.{◌≡◌, ℕ, suc, ◌+◌, Bool, true, false, cond, eqb, List, [], ◌∷◌, length, take, get_or, Option, Some, None, Result, Ok, Err, refl, sym, ap, ◌∙◌, subst, arith, rules, tests}
use Rattle.std.specs.Prelude.{IsTrue}
use Rattle.std.specs.List.{prefix_len, position_or_len, list_all, find, starts_with}
use Rattle.std.specs.Result.{is_err}
use Rattle.fx_model.specs.Names.{IsName, is_letter, is_word_byte, is_reserved}
use Rattle.fx_fraction.specs.DecimalOf.{decimal_of}
use Rattle.fx_lexer.specs.declared.fault.SourceKind.{SourceKind}
use Rattle.fx_lexer.specs.declared.fault.SourceKind.TheVariants.{BadCharacter, BadNumber, NumberTooLong, EndOfText}
use Rattle.fx_lexer.specs.declared.token.TokenKind.{TokenKind}
use Rattle.fx_lexer.specs.declared.token.TokenKind.TheVariants.{Name, Number, Word, Sign}
use Rattle.fx_lexer.specs.declared.item.Item.{Item}
use Rattle.fx_lexer.specs.Characters.{is_line_feed}
use Rattle.fx_lexer.specs.Numbers.{number_len}
use Rattle.fx_lexer.specs.Laws.{IsOfKind, is_lexical}
use Rattle.fx_lexer.specs.Tokens.{gap, token_item, first_item, word_item, closed_item, signs, found_sign}
use Rattle.fx_lexer.proofs.Items.{sign_at, letter_word}
use Rattle.fx_lexer.proofs.Fronts.{IsFront, front_is, at_blank, at_word, at_number, at_line, at_comment, at_sign}

-- the first that pass all pass
pub all_first : (p : ℕ → Bool) (xs : List ℕ) → list_all p (take (prefix_len p xs) xs) ≡ true
all_first p [] = refl
all_first p (x ∷ xs) = by (p x) refl (all_first p xs)
  where
    by : (b : Bool) → p x ≡ b → list_all p (take (prefix_len p xs) xs) ≡ true →
        list_all p (take (cond b (1 + prefix_len p xs) 0) (x ∷ xs)) ≡ true
    by true e more = let one : 1 + prefix_len p xs ≡ suc (prefix_len p xs) = omega arith in rw (one, e) more
    by false e more = refl

-- the letter of a word and the rest of it
word_first : (c : ℕ) (cs : List ℕ) → is_letter c ≡ true →
    take (prefix_len is_word_byte (c ∷ cs)) (c ∷ cs) ≡ c ∷ take (prefix_len is_word_byte cs) cs
word_first c cs e =
    let one : 1 + prefix_len is_word_byte cs ≡ suc (prefix_len is_word_byte cs) = omega arith in
    rw (letter_word c e, one) refl

-- a word is a name or reserved
word_kind : (text : List ℕ) → is_letter (get_or text 0 0) ≡ true → (b : Bool) →
    is_reserved (take (prefix_len is_word_byte text) text) ≡ b
    → IsOfKind (cond b Word Name) (take (prefix_len is_word_byte text) text)
word_kind [] e b r = absurd cc
word_kind (c ∷ cs) e true r = r
word_kind (c ∷ cs) e false r =
    let front : List ℕ = take (prefix_len is_word_byte cs) cs in
    let first : take (prefix_len is_word_byte (c ∷ cs)) (c ∷ cs) ≡ c ∷ front = word_first c cs e in
    let free : is_reserved (c ∷ front) ≡ false = sym (ap is_reserved first) ∙ r in
    let name : IsName (c ∷ front) = rw (e, all_first is_word_byte cs, free) refl in
    subst IsName (sym first) name

module _ (text : List ℕ) (item : Item) (kind : TokenKind) (k : item.kind ≡ Some kind) where
  is : (found : Item) (other : TokenKind) → found.kind ≡ Some other → IsOfKind other (take found.len text) →
      found ≡ item → IsOfKind kind (take item.len text)
  is found other j h same =
      let l : Some other ≡ Some kind = sym j ∙ ap (λ x. x.kind) same ∙ k in
      let other_is : other ≡ kind = cc in
      subst (λ x. IsOfKind kind (take x.len text)) same (subst (λ o. IsOfKind o (take found.len text)) other_is h)

  no_gap : (n : ℕ) → gap n ≡ item → IsOfKind kind (take item.len text)
  no_gap n same = absurd (let l : None ≡ Some kind = ap (λ x. x.kind) same ∙ k in cc)

  number_kind : (a b : Bool) → is_err (decimal_of (take (number_len text) text)) ≡ a →
      cond a (Err NumberTooLong) (cond b (Err BadNumber) (Ok (token_item Number (number_len text)))) ≡ Ok item
      → IsOfKind kind (take item.len text)
  number_kind true b d e = absurd cc
  number_kind false true d e = absurd cc
  number_kind false false d e = is (token_item Number (number_len text)) Number refl (search (rules, tests)) cc

  comment_kind : (found : Option ℕ) → closed_item found ≡ Ok item → IsOfKind kind (take item.len text)
  comment_kind (Some n) e = no_gap n cc
  comment_kind None e = absurd cc

  sign_kind : (found : Option (List ℕ)) → find (λ s. starts_with (λ a b. eqb a b) text s) signs ≡ found →
      found_sign found ≡ Ok item → IsOfKind kind (take item.len text)
  sign_kind (Some s) f e =
      let (taken, is_sign) = sign_at text s f in
      is (token_item Sign (length s)) Sign refl (rw taken is_sign) cc
  sign_kind None f e = absurd cc

  by : (r : Result Item SourceKind) → IsFront text r → r ≡ Ok item → IsOfKind kind (take item.len text)
  by r (at_blank b) e = no_gap 1 cc
  by r (at_word w) e = is (word_item text) _ refl (word_kind text w _ refl) cc
  by r (at_number d) e = number_kind _ _ refl e
  by r (at_line a b) e = no_gap (position_or_len is_line_feed text) cc
  by r (at_comment a b) e = comment_kind _ e
  by r at_sign e = sign_kind _ refl e

  -- a token says what its kind says
  pub kind_is : first_item text ≡ Ok item → IsOfKind kind (take item.len text)
  kind_is e = by _ (front_is text) e

-- ---- faults

module _ (text : List ℕ) (kind : SourceKind) where
  same_kind : (found : SourceKind) → is_lexical found ≡ true → found ≡ kind → IsTrue (is_lexical kind)
  same_kind found h same = subst (λ x. is_lexical x ≡ true) same h

  number_fault : (a b : Bool) (n : ℕ) →
      cond a (Err NumberTooLong) (cond b (Err BadNumber) (Ok (token_item Number n))) ≡ Err kind →
      IsTrue (is_lexical kind)
  number_fault true b n e = same_kind NumberTooLong refl cc
  number_fault false true n e = same_kind BadNumber refl cc
  number_fault false false n e = absurd cc

  comment_fault : (found : Option ℕ) → closed_item found ≡ Err kind → IsTrue (is_lexical kind)
  comment_fault (Some n) e = absurd cc
  comment_fault None e = same_kind EndOfText refl cc

  sign_fault : (found : Option (List ℕ)) → found_sign found ≡ Err kind → IsTrue (is_lexical kind)
  sign_fault (Some s) e = absurd cc
  sign_fault None e = same_kind BadCharacter refl cc

  fault_by : (r : Result Item SourceKind) → IsFront text r → r ≡ Err kind → IsTrue (is_lexical kind)
  fault_by r (at_blank b) e = absurd cc
  fault_by r (at_word w) e = absurd cc
  fault_by r (at_number d) e = number_fault _ _ _ e
  fault_by r (at_line a b) e = absurd cc
  fault_by r (at_comment a b) e = comment_fault _ e
  fault_by r at_sign e = sign_fault _ e

  -- a fault of an item is lexical
  pub fault_is : first_item text ≡ Err kind → IsTrue (is_lexical kind)
  fault_is e = fault_by _ (front_is text) e
