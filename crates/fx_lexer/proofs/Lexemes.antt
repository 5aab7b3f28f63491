-- Tokens one after the other, as a loop reads them.
use Rattle.std.proofs.Common.{◌≡◌, ℕ, zero, suc, ◌+◌, ◌<◌, ◌≤◌, Bool, true, false, List, [], ◌∷◌, ◌++◌, length, map, take, drop, Some, None, Ok, Err, refl, sym, ap, ◌∙◌, append_assoc, arith, length-append, length-drop}
use Rattle.std.specs.Prelude.{◌||◌}
use Rattle.std.proofs.lemmas.List.{append-nil, map_push}
use Rattle.fx_lexer.specs.declared.fault.SourceKind.{SourceKind}
use Rattle.fx_lexer.specs.declared.item.Item.{Item}
use Rattle.fx_lexer.specs.declared.token.Token.{Token}
use Rattle.fx_lexer.specs.declared.token.TokenKind.{TokenKind}
use Rattle.fx_lexer.specs.Characters.{has_line_feed}
use Rattle.fx_lexer.proofs.Items.{IsItem}
use Rattle.fx_lexer.specs.Tokens.{Lexeme, Lexemes, before, first_item, lexeme_of, place_of, tokens_from, tokens_of}

-- tokens before what the rest gives
abbrev pub with_front_lexemes : List Lexeme → Lexemes → Lexemes
with_front_lexemes front (Ok ts) = Ok (front ++ ts)
with_front_lexemes front (Err e) = Err e

-- the loop has these tokens, and what it makes of the rest is the whole
pub record IsOn (front : List Lexeme) (at : ℕ) (fresh : Bool) (text : List ℕ) (whole : Lexemes) : Type 0 where
  pub items : ℕ
  pub enough : length text ≤ items
  pub same : with_front_lexemes front (tokens_from items at fresh text) ≡ whole

-- a token moves over to the front
regroup : (front : List Lexeme) (t : Lexeme) (r : Lexemes) →
    with_front_lexemes front (before t r) ≡ with_front_lexemes (front ++ t ∷ []) r
regroup front t (Ok ts) = ap (λ (us : List Lexeme). Ok us) (sym (append_assoc front (t ∷ []) ts))
regroup front t (Err e) = refl

-- none before
no_front : (r : Lexemes) → with_front_lexemes [] r ≡ r
no_front (Ok ts) = refl
no_front (Err e) = refl

-- where the loop begins
pub at_front : (text : List ℕ) → IsOn [] 0 true text (tokens_of text)
unfolding tokens_of
at_front text =
    record { items = length text; enough = omega arith; same = no_front (tokens_from (length text) 0 true text) }

module _ (front : List Lexeme) (at : ℕ) (fresh : Bool) (whole : Lexemes) where
  -- a token at the front
  takes : (text : List ℕ) (item : Item) (kind : TokenKind) → 0 < length text → first_item text ≡ Ok item →
      item.kind ≡ Some kind → 0 < item.len
      → IsOn front at fresh text whole
      → IsOn (front ++ record { kind = kind; text = take item.len text; at = at; fresh = fresh } ∷ [])
      (at + item.len) false (drop item.len text) whole
  unfolding tokens_from
  takes [] item kind some e k lt h = absurd (omega arith)
  takes (c ∷ cs) item kind some e k lt h = by h.items h.enough h.same
    where
      by : (items : ℕ) → length (c ∷ cs) ≤ items → with_front_lexemes front (tokens_from items at fresh (c ∷ cs)) ≡ whole
          → IsOn (front ++ record { kind = kind; text = take item.len (c ∷ cs); at = at; fresh = fresh } ∷ [])
          (at + item.len) false (drop item.len (c ∷ cs)) whole
      by zero le same = absurd (omega arith)
      by (suc items) le same =
          let after = tokens_from items (at + item.len) false (drop item.len (c ∷ cs)) in
          let t : Lexeme = record { kind = kind; text = take item.len (c ∷ cs); at = at; fresh = fresh } in
          let one : with_front_lexemes front (tokens_from (suc items) at fresh (c ∷ cs)) ≡ with_front_lexemes front (before t after) =
          rw (e, k) refl in
          record {
            items = items;
            enough = omega (arith, length-drop item.len (c ∷ cs));
            same = sym (regroup front t after) ∙ sym one ∙ same;
          }

  -- a gap at the front
  skips : (text : List ℕ) (item : Item) → 0 < length text → first_item text ≡ Ok item → item.kind ≡ None →
      0 < item.len
      → IsOn front at fresh text whole →
      IsOn front (at + item.len) (fresh || has_line_feed (take item.len text)) (drop item.len text) whole
  unfolding tokens_from
  skips [] item some e k lt h = absurd (omega arith)
  skips (c ∷ cs) item some e k lt h = by h.items h.enough h.same
    where
      by : (items : ℕ) → length (c ∷ cs) ≤ items → with_front_lexemes front (tokens_from items at fresh (c ∷ cs)) ≡ whole
          → IsOn front (at + item.len) (fresh || has_line_feed (take item.len (c ∷ cs))) (drop item.len (c ∷ cs)) whole
      by zero le same = absurd (omega arith)
      by (suc items) le same =
          let after = tokens_from items (at + item.len) (fresh ||
          has_line_feed (take item.len (c ∷ cs))) (drop item.len (c ∷ cs)) in
          let one : with_front_lexemes front (tokens_from (suc items) at fresh (c ∷ cs)) ≡ with_front_lexemes front after =
          rw (e, k) refl in
          record { items = items; enough = omega (arith, length-drop item.len (c ∷ cs)); same = sym one ∙ same }

  -- a fault at the front
  fails : (text : List ℕ) (kind : SourceKind) (end : ℕ) → 0 < length text → first_item text ≡ Err kind →
      at + length text ≡ end → IsOn front at fresh text whole
      → whole ≡ Err (record { at = place_of kind at end; kind = kind })
  unfolding tokens_from
  fails [] kind end some e ends h = absurd (omega arith)
  fails (c ∷ cs) kind end some e ends h = by h.items h.enough h.same
    where
      by : (items : ℕ) → length (c ∷ cs) ≤ items → with_front_lexemes front (tokens_from items at fresh (c ∷ cs)) ≡ whole
          → whole ≡ Err (record { at = place_of kind at end; kind = kind })
      by zero le same = absurd (omega arith)
      by (suc items) le same =
          sym same ∙ rw e (ap (λ n. let r : Lexemes = Err (record { at = place_of kind at n; kind = kind }) in r) ends)

-- where it ends
is_over : (front : List Lexeme) (at : ℕ) (fresh : Bool) (text : List ℕ) (whole : Lexemes) → length text ≡ 0 →
    IsOn front at fresh text whole → whole ≡ Ok front
unfolding tokens_from
is_over front at fresh (c ∷ cs) whole e h = absurd (omega arith)
is_over front at fresh [] whole e h = by h.items h.same
  where
    by : (items : ℕ) → with_front_lexemes front (tokens_from items at fresh []) ≡ whole → whole ≡ Ok front
    by zero same = sym same ∙ ap (λ (ts : List Lexeme). Ok ts) (append-nil front)
    by (suc items) same = sym same ∙ ap (λ (ts : List Lexeme). Ok ts) (append-nil front)

-- the loop has read these tokens, each of a byte or more, and what it makes of the rest, up to the end, is the whole
pub record HasRead (found : List Token) (at : ℕ) (fresh : Bool) (text : List ℕ) (end : ℕ) (whole : Lexemes) : Type 0
  where
    pub place : at + length text ≡ end
    pub few : length found ≤ at
    pub on : IsOn (map lexeme_of found) at fresh text whole

-- equal states are on the same way
moves : {front front' : List Lexeme} {at : ℕ} {fresh fresh' : Bool} {text : List ℕ} {whole : Lexemes} →
    front' ≡ front → fresh' ≡ fresh
    → IsOn front at fresh text whole → IsOn front' at fresh' text whole
moves {at = at} {text = text} {whole = whole} p q h = rw (p, q) h

module _ {found : List Token} {at : ℕ} {fresh : Bool} {text : List ℕ} {end : ℕ} {whole : Lexemes}
    {item : Item} (read : HasRead found at fresh text end whole) (is : first_item text ≡ Ok item)
    (size : IsItem text item.len) where
  some : 0 < length text
  some = omega (arith, size.some, size.within)

  still : (at + item.len) + length (drop item.len text) ≡ end
  still = omega (arith, read.place, size.within, length-drop item.len text)

  -- a token was read
  pub adds : {found' : List Token} {fresh' : Bool} (t : Token) → item.kind ≡ Some t.kind →
      t.text.now ≡ take item.len text → t.at ≡ at → t.fresh ≡ fresh →
      found' ≡ found ++ t ∷ [] → fresh' ≡ false → HasRead found' (at + item.len) fresh' (drop item.len text) end whole
  adds t kind piece place first push stale =
      let few = read.few in
      let front = map lexeme_of found in
      let new : lexeme_of t ≡ record { kind = t.kind; text = take item.len text; at = at; fresh = fresh } =
      ap (λ x. record { kind = t.kind; text = x; at = t.at; fresh = t.fresh }) piece
      ∙ ap (λ x. record { kind = t.kind; text = take item.len text; at = x; fresh = t.fresh }) place
      ∙ ap (λ x. record { kind = t.kind; text = take item.len text; at = at; fresh = x }) first in
      record {
        place = still;
        few = omega (arith, size.some, ap length push, length-append found (t ∷ []));
        on = moves (ap (map lexeme_of) push ∙ map_push lexeme_of found t ∙ ap (λ x. front ++ x ∷ []) new) stale
            (takes front at fresh whole text item t.kind some is kind size.some read.on);
      }

  -- a gap was passed
  pub passes : {found' : List Token} {fresh' : Bool} {gap : List ℕ} → item.kind ≡ None → found' ≡ found →
      gap ≡ take item.len text → fresh' ≡ (fresh || has_line_feed gap) →
      HasRead found' (at + item.len) fresh' (drop item.len text) end whole
  passes none same piece first =
      let few = read.few in
      record {
        place = still;
        few = omega (arith, ap length same);
        on = moves (ap (map lexeme_of) same) (first ∙ ap (λ t. fresh || has_line_feed t) piece)
            (skips (map lexeme_of found) at fresh whole text item some is none size.some read.on);
      }

module _ {found : List Token} {at : ℕ} {fresh : Bool} {text : List ℕ} {end : ℕ} {whole : Lexemes}
    (read : HasRead found at fresh text end whole) where
  -- what comes next is a fault
  pub refused : {kind : SourceKind} → 0 < length text → first_item text ≡ Err kind →
      whole ≡ Err (record { at = place_of kind at end; kind = kind })
  refused {kind} some is = fails (map lexeme_of found) at fresh whole text kind end some is read.place read.on

  -- nothing comes any more
  pub done : length text ≡ 0 → whole ≡ Ok (map lexeme_of found)
  done none = is_over (map lexeme_of found) at fresh text whole none read.on
