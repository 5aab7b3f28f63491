-- The tokens of a text are sound.
use Rattle.std.proofs.Common.{◌≡◌, ℕ, zero, suc, ◌+◌, ◌^◌, ◌≤◌, pos, Bool, true, false, cond, eqb, List, [], ◌∷◌, ◌++◌, length, take, get_or, Option, Some, None, Result, Ok, Err, refl, sym, ap, subst, arith, rules, tests}
use Rattle.std.specs.Prelude.{nat_le, nat_lt, ◌&&◌}
use Rattle.std.specs.List.{list_all, prefix_len}
use Rattle.std.specs.Char.{is_ascii_digit}
use Rattle.fx_rational.specs.Rational.{over}
use Rattle.fx_rational.specs.Decimal.{decimal_value}
use Rattle.std.proofs.lemmas.List.Elements.{All-nil, All-cons}
use Rattle.std.specs.Option.{option_map}
use Rattle.std.proofs.Math.Seq.{take-append_seam}
use Rattle.fx_fraction.specs.Numeral.{Numeral, Power, unwritten, numeral_of, unsigned_of, sign_of, behind_sign, digit_count, part_digits, part_of, behind_digits, behind_part, first_digits, power_of, is_minus, mantissa, places}
use Rattle.fx_fraction.specs.declared.fault.NumberFault.TheVariants.{TooLong}
use Rattle.fx_lexer.specs.declared.fault.SourceKind.{SourceKind}
use Rattle.fx_lexer.specs.declared.fault.SourceKind.TheVariants.{NumberTooLong, BadNumber}
use Rattle.fx_fraction.specs.DecimalOf.{decimal_of, decimal_from, within_limits, fewest_places}
use Rattle.fx_model.specs.Names.{is_letter, is_word_byte, is_reserved}
use Rattle.fx_lexer.specs.declared.item.Item.{Item}
use Rattle.fx_lexer.specs.declared.token.TokenKind.{TokenKind}
use Rattle.fx_lexer.specs.declared.token.TokenKind.TheVariants.{Name, Number, Word, Sign as Mark}
use Rattle.fx_lexer.specs.Layout.{IsLaidOut, over as nothing, gap, token}
use Rattle.fx_lexer.specs.Numbers.{number_len}
use Rattle.fx_lexer.specs.Tokens.{gap as item_gap, token_item, first_item, closed_item, found_sign, tokens_of}
use Rattle.fx_lexer.proofs.Fronts.{IsFront, at_blank, at_word, at_number, at_line, at_comment, at_sign, front_is}
use Rattle.fx_lexer.proofs.KindLaws.{all_first}
use Rattle.fx_lexer.proofs.Layouts.{layout}
use Rattle.fx_grammar.specs.Steps.{Tokens, decimal, value_or}
use Rattle.fx_parser.specs.LawfulTokens.{IsSize, IsSoundText, IsSound, AreSound}

-- ---- numbers

pub is_size : (n b : ℕ) → IsSize (record { a = pos n; b = b })
unfolding decimal_value over
is_size n b = record { at_most = search (rules, tests) }

kept : (x : ℕ × ℕ) → IsSize (value_or (within_limits false x))
kept x = by (nat_lt x.0 (2 ^ 62) && nat_le x.1 18) where
  by : (b : Bool) → IsSize (value_or (cond b (Ok (record { a = pos x.0; b = x.1 })) (Err TooLong)))
  by true = is_size x.0 x.1
  by false = is_size 0 0

from_numeral : (n : Numeral) → is_minus n.sign ≡ false → IsSize (value_or (decimal_from (Some n)))
from_numeral n e = rw e (kept (fewest_places (mantissa n) (places n)))

unsigned_size : (text : List ℕ) → IsSize (value_or (decimal_from (unsigned_of unwritten text)))
unsigned_size text =
    by (nat_lt 0 (digit_count text + length (part_digits (part_of (behind_digits text)))))
    (power_of (behind_part (behind_digits text))) where
      by : (b : Bool) (o : Option (Option Power)) → IsSize (value_or (decimal_from (cond b
          (option_map (λ p. record {
            sign = unwritten;
            whole = first_digits text;
            part = part_of (behind_digits text);
            power = p;
          }) o) None)))
      by false o = is_size 0 0
      by true None = is_size 0 0
      by true (Some p) =
          from_numeral (record {
            sign = unwritten;
            whole = first_digits text;
            part = part_of (behind_digits text);
            power = p;
          }) refl

number_size : (text : List ℕ) → sign_of text ≡ unwritten → IsSize (decimal text)
unfolding decimal decimal_of numeral_of
number_size text e = rw e (unsigned_size (behind_sign text))

-- the front of a text that begins with a digit has no sign
no_sign : (n : ℕ) (text : List ℕ) → is_ascii_digit (get_or text 0 0) ≡ true → sign_of (take n text) ≡ unwritten
no_sign zero text d = refl
no_sign (suc n) [] d = refl
no_sign (suc n) (c ∷ cs) d =
    let low : 48 ≤ c = search (rules, tests) in
    let plus : eqb c 43 ≡ false = search (rules, tests) in
    let minus : eqb c 45 ≡ false = search (rules, tests) in
    rw (plus, minus) refl

-- ---- names

-- the word at the front is reserved or a name
word_sound : (text : List ℕ) → is_letter (get_or text 0 0) ≡ true →
    IsSoundText (cond (is_reserved (take (prefix_len is_word_byte text) text)) Word Name)
    (take (prefix_len is_word_byte text) text)
word_sound [] w = absurd cc
word_sound (c ∷ cs) w =
    let first : is_word_byte c ≡ true = rw w refl in
    let one : 1 + prefix_len is_word_byte cs ≡ suc (prefix_len is_word_byte cs) = omega arith in
    let q : take (prefix_len is_word_byte (c ∷ cs)) (c ∷ cs) ≡ c ∷ take (prefix_len is_word_byte cs) cs =
    rw (first, one) refl in
    subst (λ (t : List ℕ). IsSoundText (cond (is_reserved t) Word Name) t) (sym q)
    (by (is_reserved (c ∷ take (prefix_len is_word_byte cs) cs)) refl)
  where
    by : (b : Bool) → is_reserved (c ∷ take (prefix_len is_word_byte cs) cs) ≡ b →
        IsSoundText (cond b Word Name) (c ∷ take (prefix_len is_word_byte cs) cs)
    by true e = tt {0}
    by false e =
        let rest : list_all is_word_byte (take (prefix_len is_word_byte cs) cs) ≡ true = all_first is_word_byte cs in
        rw (w, rest, e) refl

-- ---- tokens

abbrev item_good : Item → Result Item SourceKind
item_good x = Ok x

item_ok : (x y : Item) → item_good x ≡ Ok y → x ≡ y
item_ok x y e = cc

sound_item : (text : List ℕ) (kind : TokenKind) (n : ℕ) → first_item text ≡ Ok (token_item kind n) →
    IsSoundText kind (take n text)
sound_item text kind n e = by (first_item text) (front_is text) e
  where
    same : (k : TokenKind) (m : ℕ) → token_item k m ≡ token_item kind n → IsSoundText k (take m text) →
        IsSoundText kind (take n text)
    same k m e s =
        let some : Some k ≡ Some kind = ap (λ (i : Item). i.kind) e in
        let p : k ≡ kind = cc in
        let q : m ≡ n = ap (λ (i : Item). i.len) e in
        subst (λ (j : TokenKind). IsSoundText j (take n text)) p (subst (λ (i : ℕ). IsSoundText k (take i text)) q s)

    number : (a b : Bool) → is_ascii_digit (get_or text 0 0) ≡ true →
        cond a (Err NumberTooLong) (cond b (Err BadNumber) (Ok (token_item Number (number_len text))))
        ≡ Ok (token_item kind n) → IsSoundText kind (take n text)
    number true b d e = absurd cc
    number false true d e = absurd cc
    number false false d e =
        same Number (number_len text) (item_ok _ _ e)
        (number_size (take (number_len text) text) (no_sign (number_len text) text d))

    no_token : (m : ℕ) → item_good (item_gap m) ≡ Ok (token_item kind n) → IsSoundText kind (take n text)
    no_token m e = let k : None ≡ Some kind = ap (λ (i : Item). i.kind) (item_ok _ _ e) in absurd cc

    comment : (o : Option ℕ) → closed_item o ≡ Ok (token_item kind n) → IsSoundText kind (take n text)
    comment None e = absurd cc
    comment (Some m) e = no_token m e

    sign : (o : Option (List ℕ)) → found_sign o ≡ Ok (token_item kind n) → IsSoundText kind (take n text)
    sign None e = absurd cc
    sign (Some s) e = same Mark (length s) (item_ok _ _ e) (tt {0})

    by : (r : Result Item SourceKind) → IsFront text r → r ≡ Ok (token_item kind n) → IsSoundText kind (take n text)
    by r (at_blank b) e = no_token 1 e
    by r (at_word w) e =
        same (cond (is_reserved (take (prefix_len is_word_byte text) text)) Word Name) (prefix_len is_word_byte text)
        (item_ok _ _ e) (word_sound text w)
    by r (at_number d) e = number _ _ d e
    by r (at_line p q) e = no_token _ e
    by r (at_comment p q) e = comment _ e
    by r at_sign e = sign _ e

sound : {at : ℕ} {fresh : Bool} {text : List ℕ} {ts : Tokens} → IsLaidOut at fresh text ts → AreSound ts
sound (nothing at fresh) = All-nil IsSound
sound (gap at fresh front rest ts g h) = sound h
sound (token at fresh kind front rest ts some f h) =
    All-cons IsSound _ ts (subst (IsSoundText kind) (take-append_seam front rest)
    (sound_item (front ++ rest) kind (length front) f)) (sound h)

pub tokens_sound : (text : List ℕ) (ts : Tokens) → tokens_of text ≡ Ok ts → AreSound ts
tokens_sound text ts e = sound ((layout text ts).0 e)
