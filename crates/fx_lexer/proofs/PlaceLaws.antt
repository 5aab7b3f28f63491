-- Tokens stand one behind the other, and a fault lies in the text.
use Rattle.std.proofs.Common.{◌≡◌, ℕ, zero, suc, ◌+◌, ◌<◌, ◌≤◌, ◌++◌, Bool, true, false, List, [], ◌∷◌, length, take, drop, Option, Some, None, Result, Ok, Err, refl, sym, ap, ◌∙◌, subst, append_assoc, length-append, length-drop, arith}
use Rattle.std.specs.Prelude.{◌||◌, IsTrue}
use Rattle.std.proofs.Math.Seq.{take-append_seam, drop-append_seam}
use Rattle.fx_lexer.specs.declared.fault.SourceFault.{SourceFault}
use Rattle.fx_lexer.specs.declared.fault.SourceKind.{SourceKind}
use Rattle.fx_lexer.specs.declared.fault.SourceKind.TheVariants.{EndOfText}
use Rattle.fx_lexer.specs.declared.item.Item.{Item}
use Rattle.fx_lexer.specs.declared.token.TokenKind.{TokenKind}
use Rattle.fx_lexer.specs.Characters.{has_line_feed}
use Rattle.fx_lexer.specs.Layout.{IsLaidOut, over, gap, token}
use Rattle.fx_lexer.specs.Laws.{StandFrom, PlacesLaw, FaultLaw, IsOfKind, is_lexical}
use Rattle.fx_lexer.specs.Tokens.{Lexeme, Lexemes, token_item, before, next, place_of, first_item, tokens_from, tokens_of}
use Rattle.fx_lexer.proofs.Items.{IsItem}
use Rattle.fx_lexer.proofs.Fronts.{item_is}
use Rattle.fx_lexer.proofs.KindLaws.{kind_is, fault_is}
use Rattle.fx_lexer.proofs.Layouts.{layout}

-- from an earlier place on too
earlier : (text : List ℕ) (from from' : ℕ) (ts : List Lexeme) → from ≤ from' → StandFrom text from' ts →
    StandFrom text from ts
earlier text from from' [] le h = h
earlier text from from' (t ∷ ts) le (s, h) = (
  record { behind = omega (arith, s.behind, le); some = s.some; within = s.within; slice = s.slice; kind = s.kind },
  h,
)

-- tokens behind what is past
stands : {at : ℕ} {fresh : Bool} {rest : List ℕ} {ts : List Lexeme} → IsLaidOut at fresh rest ts
    → (text past : List ℕ) → text ≡ past ++ rest → length past ≡ at → StandFrom text at ts
stands (over at fresh) text past e n = tt {0}
stands (gap at fresh front rest ts g h) text past e n =
    let later : StandFrom text (at + length front) ts =
    stands h text (past ++ front) (e
    ∙ sym (append_assoc past front rest)) (omega (arith, n, length-append past front)) in
    earlier text at (at + length front) ts (omega arith) later
stands (token at fresh kind front rest ts some f h) text past e n =
    let later : StandFrom text (at + length front) ts =
    stands h text (past ++ front) (e
    ∙ sym (append_assoc past front rest)) (omega (arith, n, length-append past front)) in
    let there : drop at text ≡ front ++ rest = ap (drop at) e ∙ ap (λ k. drop k (past ++ (front ++ rest))) (sym n)
    ∙ drop-append_seam past (front ++ rest) in
    let slice : take (length front) (drop at text) ≡ front = ap (take (length front)) there
    ∙ take-append_seam front rest in
    let kind : IsOfKind kind front =
    subst (IsOfKind kind) (take-append_seam front rest)
    (kind_is (front ++ rest) (token_item kind (length front)) kind refl f) in (
      record {
        behind = omega arith;
        some = some;
        within = omega (arith, n, ap length e, length-append past (front ++ rest), length-append front rest);
        slice = sym slice;
        kind = kind;
      },
      later,
    )

-- tokens stand one behind the other
pub places : PlacesLaw
places text ts e = stands ((layout text ts).0 e) text [] refl refl

-- ---- faults

-- a fault's place isn't behind the end
place_within : (kind : SourceKind) (at end : ℕ) → at ≤ end → place_of kind at end ≤ end
place_within EndOfText at end le = omega arith
place_within _ at end le = le

-- a fault of a text of so many items at most
abbrev Fails : ℕ → Type 0
Fails items = (at : ℕ) (fresh : Bool) (text : List ℕ) (fault : SourceFault) →
    tokens_from items at fresh text ≡ Err fault → IsTrue (is_lexical fault.kind) × (fault.at ≤ at + length text)

-- one item
step : (items : ℕ) → Fails items → (at : ℕ) (fresh : Bool) (text : List ℕ) (fault : SourceFault) → 0 < length text
    → (r : Result Item SourceKind) → first_item text ≡ r →
    next at fresh text r (λ at fresh rest. tokens_from items at fresh rest) ≡ Err fault
    → IsTrue (is_lexical fault.kind) × (fault.at ≤ at + length text)
step items more at fresh text fault some (Err kind) f e =
    let found : SourceFault = record { at = place_of kind at (at + length text); kind = kind } in
    let same : found ≡ fault = cc in
    let lexical : IsTrue (is_lexical found.kind) = fault_is text kind f in
    subst (λ x. IsTrue (is_lexical x.kind) × (x.at ≤ at + length text)) same (
      lexical,
      place_within kind at (at + length text) (omega arith),
    )
step items more at fresh text fault some (Ok item) f e = by item.kind e
  where
    is : IsItem text item.len
    is = item_is text item some f

    later : IsTrue (is_lexical fault.kind) × (fault.at ≤ (at + item.len) + length (drop item.len text)) →
        IsTrue (is_lexical fault.kind) × (fault.at ≤ at + length text)
    later h = (h.0, omega (arith, h.1, is.within, length-drop item.len text))

    taken : (t : Lexeme) (after : Lexemes) → tokens_from items (at + item.len) false (drop item.len text) ≡ after →
        before t after ≡ Err fault → IsTrue (is_lexical fault.kind) × (fault.at ≤ at + length text)
    taken t (Ok ts) a e = absurd cc
    taken t (Err other) a e = later (more (at + item.len) false (drop item.len text) fault (a ∙ e))

    by : (k : Option TokenKind)
        → (elim k as (λ _. Lexemes) [
          | None ↦ tokens_from items (at + item.len) (fresh || has_line_feed (take item.len text)) (drop item.len text)
          | Some kind ↦ before (record { kind = kind; text = take item.len text; at = at; fresh = fresh })
              (tokens_from items (at + item.len) false (drop item.len text))
        ]) ≡ Err fault → IsTrue (is_lexical fault.kind) × (fault.at ≤ at + length text)
    by None e = later (more (at + item.len) (fresh || has_line_feed (take item.len text)) (drop item.len text) fault e)
    by (Some kind) e = taken _ _ refl e

-- all items
fails : (items : ℕ) → Fails items
unfolding tokens_from
fails zero at fresh text fault e = absurd cc
fails (suc items) at fresh [] fault e = absurd cc
fails (suc items) at fresh (c ∷ cs) fault e = step items (fails items) at fresh (c ∷ cs) fault (omega arith) _ refl e

-- a fault is lexical and lies in the text
pub faults : FaultLaw
unfolding tokens_of
faults text fault e = let h = fails (length text) 0 true text fault e in (h.0, omega (arith, h.1))
