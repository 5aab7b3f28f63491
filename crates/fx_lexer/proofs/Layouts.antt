-- A text is laid out by its tokens, and by no others.
use Rattle.std.proofs.Common.{◌≡◌, ℕ, zero, suc, ◌+◌, ◌<◌, ◌≤◌, Bool, true, false, List, [], ◌∷◌, ◌++◌, length, take, drop, Option, Some, None, Result, Ok, Err, refl, sym, ap, subst, ◌∙◌, length-append, length-drop, arith}
use Rattle.std.specs.Prelude.{◌||◌}
use Rattle.std.proofs.lemmas.List.{length-take-le, take-append-drop}
use Rattle.std.proofs.Math.Seq.{take-append_seam, drop-append_seam}
use Rattle.fx_lexer.specs.declared.fault.SourceKind.{SourceKind}
use Rattle.fx_lexer.specs.declared.item.Item.{Item}
use Rattle.fx_lexer.specs.declared.token.TokenKind.{TokenKind}
use Rattle.fx_lexer.specs.Characters.{has_line_feed}
use Rattle.fx_lexer.proofs.Items.{IsItem}
use Rattle.fx_lexer.specs.Layout.{IsLaidOut, over, gap, token, LayoutLaw}
use Rattle.fx_lexer.specs.Tokens.{Lexeme, Lexemes, token_item, before, next, first_item, tokens_from, tokens_of}
use Rattle.fx_lexer.proofs.Fronts.{item_is, gap_is, item_of_gap, gap_some}

-- ---- the tokens lay out the text

-- a text of so many items at most is laid out by its tokens
abbrev Lays : ℕ → Type 0
Lays items = (at : ℕ) (fresh : Bool) (text : List ℕ) (ts : List Lexeme) → length text ≤ items →
    tokens_from items at fresh text ≡ Ok ts → IsLaidOut at fresh text ts

-- one item
step : (items : ℕ) → Lays items → (at : ℕ) (fresh : Bool) (text : List ℕ) (ts : List Lexeme) → 0 < length text →
    length text ≤ suc items
    → (r : Result Item SourceKind) → first_item text ≡ r →
    next at fresh text r (λ at fresh rest. tokens_from items at fresh rest) ≡ Ok ts → IsLaidOut at fresh text ts
step items more at fresh text ts some le (Err kind) f e = absurd cc
step items more at fresh text ts some le (Ok item) f e = by item.kind refl e
  where
    front : List ℕ
    front = take item.len text

    is : IsItem text item.len
    is = item_is text item some f

    size : length (take item.len text) ≡ item.len
    size = length-take-le item.len text is.within

    whole : take item.len text ++ drop item.len text ≡ text
    whole = take-append-drop item.len text

    shorter : length (drop item.len text) ≤ items
    shorter = omega (arith, length-drop item.len text, is.some, le)

    taken : (kind : TokenKind) → item.kind ≡ Some kind → (after : Lexemes) →
        tokens_from items (at + item.len) false (drop item.len text) ≡ after
        → before (record { kind = kind; text = take item.len text; at = at; fresh = fresh }) after ≡ Ok ts →
        IsLaidOut at fresh text ts
    taken kind k (Err fault) a e = absurd cc
    taken kind k (Ok us) a e =
        let head : first_item (take item.len text ++ drop item.len text)
        ≡ Ok (token_item kind (length (take item.len text))) =
        ap first_item whole ∙ f ∙ rw (size, sym k) refl in
        let rest : IsLaidOut (at + length (take item.len text)) false (drop item.len text) us =
        subst (λ n. IsLaidOut (at + n) false (drop item.len text) us) (sym size)
        (more (at + item.len) false (drop item.len text) us shorter a) in
        let t : Lexeme = record { kind = kind; text = take item.len text; at = at; fresh = fresh } in
        let same : t ∷ us ≡ ts = cc in
        subst (λ xs. IsLaidOut at fresh text xs) same
        (subst (λ xs. IsLaidOut at fresh xs (t ∷ us)) whole
        (token at fresh kind (take item.len text) (drop item.len text) us (rw size is.some) head rest))

    by : (k : Option TokenKind) → item.kind ≡ k
        → (elim k as (λ _. Lexemes) [
          | None ↦ tokens_from items (at + item.len) (fresh || has_line_feed (take item.len text)) (drop item.len text)
          | Some kind ↦ before (record { kind = kind; text = take item.len text; at = at; fresh = fresh })
              (tokens_from items (at + item.len) false (drop item.len text))
        ]) ≡ Ok ts → IsLaidOut at fresh text ts
    by None k e =
        let fresh' = fresh || has_line_feed (take item.len text) in
        let rest : IsLaidOut (at + length (take item.len text)) fresh' (drop item.len text) ts =
        subst (λ n. IsLaidOut (at + n) fresh' (drop item.len text) ts) (sym size)
        (more (at + item.len) fresh' (drop item.len text) ts shorter e) in
        subst (λ xs. IsLaidOut at fresh xs ts) whole
        (gap at fresh (take item.len text) (drop item.len text) ts (gap_is text item some f k) rest)
    by (Some kind) k e = taken kind k _ refl e

-- all items
lays : (items : ℕ) → Lays items
unfolding tokens_from
lays zero at fresh [] ts le e = let same : [] ≡ ts = cc in subst (λ xs. IsLaidOut at fresh [] xs) same (over at fresh)
lays zero at fresh (c ∷ cs) ts le e = absurd (omega arith)
lays (suc items) at fresh [] ts le e =
    let same : [] ≡ ts = cc in subst (λ xs. IsLaidOut at fresh [] xs) same (over at fresh)
lays (suc items) at fresh (c ∷ cs) ts le e = step items (lays items) at fresh (c ∷ cs) ts (omega arith) le _ refl e

-- ---- the other way

-- the definition at a text that isn't empty
unroll : (items at : ℕ) (fresh : Bool) (text : List ℕ) → 0 < length text
    → tokens_from (suc items) at fresh text
    ≡ next at fresh text (first_item text) (λ at fresh rest. tokens_from items at fresh rest)
unfolding tokens_from
unroll items at fresh [] some = absurd (omega arith)
unroll items at fresh (c ∷ cs) some = refl

-- what a text is laid out by are its tokens
reads : {at : ℕ} {fresh : Bool} {text : List ℕ} {ts : List Lexeme} → IsLaidOut at fresh text ts → (items : ℕ) →
    length text ≤ items → tokens_from items at fresh text ≡ Ok ts
unfolding tokens_from
reads (over at fresh) zero le = refl
reads (over at fresh) (suc items) le = refl
reads (gap at fresh front rest ts g h) zero le = absurd (omega (arith, gap_some g, length-append front rest))
reads (gap at fresh front rest ts g h) (suc items) le =
    let some : 0 < length (front ++ rest) = omega (arith, gap_some g, length-append front rest) in
    let more : tokens_from items (at + length front) (fresh || has_line_feed front) rest ≡ Ok ts =
    reads h items (omega (arith, gap_some g, length-append front rest, le)) in
    unroll items at fresh (front ++ rest) some
    ∙ rw (item_of_gap g, take-append_seam front rest, drop-append_seam front rest) more
reads (token at fresh kind front rest ts some f h) zero le = absurd (omega (arith, some, length-append front rest))
reads (token at fresh kind front rest ts some f h) (suc items) le =
    let all : 0 < length (front ++ rest) = omega (arith, some, length-append front rest) in
    let more : tokens_from items (at + length front) false rest ≡ Ok ts =
    reads h items (omega (arith, some, length-append front rest, le)) in
    unroll items at fresh (front ++ rest) all
    ∙ rw (f, take-append_seam front rest, drop-append_seam front rest, more) refl

-- both ways
pub layout : LayoutLaw
unfolding tokens_of
layout text ts = (λ e. lays (length text) 0 true text ts (omega arith) e, λ h. reads h (length text) (omega arith))
