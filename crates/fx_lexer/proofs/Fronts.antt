-- What stands at the front of a text.
use Rattle.std.proofs.Common.{◌≡◌, ℕ, suc, ◌+◌, ◌-◌, ◌<◌, ◌≤◌, ◌++◌, Bool, true, false, cond, eqb, List, [], ◌∷◌, length, take, drop, get_or, Option, Some, None, Result, Ok, Err, inl, refl, sym, ap, ◌∙◌, subst, append_assoc, length-append, arith, rules, tests}
use Rattle.std.specs.Prelude.{◌&&◌, ◌||◌, not}
use Rattle.std.specs.Char.{is_ascii_digit}
use Rattle.std.specs.List.{position_or_len, find, starts_with}
use Rattle.std.proofs.lemmas.List.{length-take-le, get_or-take}
use Rattle.std.proofs.Math.Seq.{get_or-append_seam}
use Rattle.fx_model.specs.Names.{is_letter}
use Rattle.fx_lexer.specs.declared.fault.SourceKind.{SourceKind}
use Rattle.fx_lexer.specs.declared.fault.SourceKind.TheVariants.{BadNumber, NumberTooLong}
use Rattle.fx_lexer.specs.declared.token.TokenKind.TheVariants.{Number, Sign}
use Rattle.fx_lexer.specs.declared.token.TokenKind.{TokenKind}
use Rattle.fx_lexer.specs.declared.item.Item.{Item}
use Rattle.fx_lexer.specs.Characters.{is_blank, is_line_feed, has_line_feed}
use Rattle.fx_lexer.specs.Numbers.{number_len}
use Rattle.fx_lexer.specs.Comments.{comment_end}
use Rattle.fx_lexer.specs.Layout.{IsInside, IsGap, blank, line, nested, ends_line}
use Rattle.fx_lexer.proofs.Items.{IsItem}
use Rattle.fx_lexer.specs.Tokens.{gap, token_item, first_item, word_item, number_item, comment_item, closed_item, signs, sign_item, found_sign}
use Rattle.fx_lexer.proofs.Items.{word_is, number_is, line_is, sign_is}
use Rattle.fx_lexer.proofs.Nesting.{nested_from, nested_ends}

-- which kind of item, and why
pub data IsFront (text : List ℕ) : Result Item SourceKind → Type 0 where
  at_blank : is_blank (get_or text 0 0) ≡ true → IsFront text (Ok (gap 1))
  at_word : is_letter (get_or text 0 0) ≡ true → IsFront text (Ok (word_item text))
  at_number : is_ascii_digit (get_or text 0 0) ≡ true → IsFront text (number_item text)
  at_line : get_or text 0 0 ≡ 47 → get_or text 1 0 ≡ 47 → IsFront text (Ok (gap (position_or_len is_line_feed text)))
  at_comment : get_or text 0 0 ≡ 47 → get_or text 1 0 ≡ 42 → IsFront text (comment_item text)
  at_sign : IsFront text (sign_item text)

-- the tests of the definition, one by one
pub front_is : (text : List ℕ) → IsFront text (first_item text)
unfolding first_item
front_is text = by _ _ _ _ _ refl refl refl refl refl
  where
    by : (b w n l c : Bool) → is_blank (get_or text 0 0) ≡ b → is_letter (get_or text 0 0) ≡ w →
        is_ascii_digit (get_or text 0 0) ≡ n
        → ((eqb (get_or text 0 0) 47) && (eqb (get_or text 1 0) 47)) ≡ l →
        ((eqb (get_or text 0 0) 47) && (eqb (get_or text 1 0) 42)) ≡ c
        → IsFront text (cond b (Ok (gap 1)) (cond w (Ok (word_item text)) (cond n (number_item text)
        (cond l (Ok (gap (position_or_len is_line_feed text))) (cond c (comment_item text) (sign_item text))))))
    by true w n l c be we ne le ce = at_blank be
    by false true n l c be we ne le ce = at_word we
    by false false true l c be we ne le ce = at_number ne
    by false false false true c be we ne le ce = at_line (search (rules, tests)) (search (rules, tests))
    by false false false false true be we ne le ce = at_comment (search (rules, tests)) (search (rules, tests))
    by false false false false false be we ne le ce = at_sign

-- ---- comments

-- a nested comment at the front has the grammar
pub nested_at : (text : List ℕ) (n : ℕ) → get_or text 0 0 ≡ 47 → get_or text 1 0 ≡ 42 → comment_end 0 0 0 text ≡ Some n
    → (inside : List ℕ) × (take n text ≡ 47 ∷ 42 ∷ (inside ++ 42 ∷ 47 ∷ [])) × (n ≤ length text) × IsInside inside
nested_at [] n e f g = absurd cc
nested_at (a ∷ []) n e f g = absurd cc
nested_at (a ∷ b ∷ more) n e f g =
    let g' : comment_end 0 0 0 (47 ∷ 42 ∷ more) ≡ Some n =
    subst (λ x. comment_end 0 0 0 (x ∷ 42 ∷ more) ≡ Some n) e
    (subst (λ x. comment_end 0 0 0 (a ∷ x ∷ more) ≡ Some n) f g) in
    let (inside, taken, within, i) = nested_from more n g' in
    (inside, ap (λ x. take n (x ∷ b ∷ more)) e ∙ ap (λ x. take n (47 ∷ x ∷ more)) f ∙ taken, within, i)

-- and is cut between characters
nested_is : (text : List ℕ) (n : ℕ) → get_or text 0 0 ≡ 47 → get_or text 1 0 ≡ 42 → comment_end 0 0 0 text ≡ Some n →
    IsItem text n
nested_is text n e f g =
    let (inside, taken, within, i) = nested_at text n e f g in
    let xs : List ℕ = 47 ∷ 42 ∷ (inside ++ 42 ∷ []) in
    let ends : take n text ≡ xs ++ 47 ∷ [] = taken
    ∙ ap (λ ys. 47 ∷ 42 ∷ ys) (sym (append_assoc inside (42 ∷ []) (47 ∷ []))) in
    let n_is : n ≡ length xs + 1 = sym (length-take-le n text within) ∙ ap length ends ∙ length-append xs (47 ∷ []) in
    let back : n - 1 ≡ length xs = omega (arith, n_is) in
    let last : get_or text (n - 1) 0 ≡ 47 = sym (get_or-take n text (n - 1) 0 (omega (arith, n_is)))
    ∙ ap (λ ys. get_or ys (n - 1) 0) ends ∙ ap (λ k. get_or (xs ++ 47 ∷ []) k 0) back
    ∙ get_or-append_seam xs 47 [] 0 in
    record { some = omega (arith, n_is); within = within; border = inl (rw last (omega arith)) }

-- ---- an item

-- a blank is ASCII
blank_is : (text : List ℕ) → 0 < length text → is_blank (get_or text 0 0) ≡ true → IsItem text 1
blank_is text some e = record { some = omega arith; within = omega arith; border = inl (ascii (get_or text 0 0) e) }
  where
    ascii : (c : ℕ) → is_blank c ≡ true → c < 128
    ascii c e = search (rules, tests)

-- the item at the front is whole characters
pub item_is : (text : List ℕ) (item : Item) → 0 < length text → first_item text ≡ Ok item → IsItem text item.len
item_is text item some e = by _ (front_is text) e
  where
    is : (found : Item) → IsItem text found.len → found ≡ item → IsItem text item.len
    is found i same = subst (λ x. IsItem text x.len) same i

    number_by : (a b : Bool) → is_ascii_digit (get_or text 0 0) ≡ true →
        cond a (Err NumberTooLong) (cond b (Err BadNumber) (Ok (token_item Number (number_len text)))) ≡ Ok item →
        IsItem text item.len
    number_by true b d e = absurd cc
    number_by false true d e = absurd cc
    number_by false false d e = is (token_item Number (number_len text)) (number_is text d) cc

    comment_by : (found : Option ℕ) → comment_end 0 0 0 text ≡ found → get_or text 0 0 ≡ 47 → get_or text 1 0 ≡ 42 →
        closed_item found ≡ Ok item → IsItem text item.len
    comment_by (Some n) f a b e = is (gap n) (nested_is text n a b f) cc
    comment_by None f a b e = absurd cc

    sign_by : (found : Option (List ℕ)) → find (λ s. starts_with (λ a b. eqb a b) text s) signs ≡ found →
        found_sign found ≡ Ok item → IsItem text item.len
    sign_by (Some s) f e = is (token_item Sign (length s)) (sign_is text s f) cc
    sign_by None f e = absurd cc

    by : (r : Result Item SourceKind) → IsFront text r → r ≡ Ok item → IsItem text item.len
    by r (at_blank b) e = is (gap 1) (blank_is text some b) cc
    by r (at_word w) e = is (word_item text) (word_is text w) cc
    by r (at_number d) e = number_by _ _ d e
    by r (at_line a b) e = is (gap (position_or_len is_line_feed text)) (line_is text a) cc
    by r (at_comment a b) e = comment_by _ refl a b e
    by r at_sign e = sign_by _ refl e

-- ---- a gap

-- the rest of a line
line_of : (text : List ℕ) → (has_line_feed (take (position_or_len is_line_feed text) text) ≡ false) ×
    (ends_line (drop (position_or_len is_line_feed text) text) ≡ true)
line_of [] = (refl, refl)
line_of (c ∷ cs) = by (is_line_feed c) refl (line_of cs)
  where
    by : (b : Bool) → is_line_feed c ≡ b → (has_line_feed (take (position_or_len is_line_feed cs) cs) ≡ false) ×
        (ends_line (drop (position_or_len is_line_feed cs) cs) ≡ true)
        → (has_line_feed (take (cond (not b) (1 + position_or_len is_line_feed cs) 0) (c ∷ cs)) ≡ false) ×
        (ends_line (drop (cond (not b) (1 + position_or_len is_line_feed cs) 0) (c ∷ cs)) ≡ true)
    by true e more = (refl, e)
    by false e more =
        let one : 1 + position_or_len is_line_feed cs ≡ suc (position_or_len is_line_feed cs) = omega arith in
        rw (one, e) more

-- a comment to the end of the line is a gap
line_gap : (text : List ℕ) → get_or text 0 0 ≡ 47 → get_or text 1 0 ≡ 47 →
    IsGap (take (position_or_len is_line_feed text) text) (drop (position_or_len is_line_feed text) text)
line_gap [] e f = absurd cc
line_gap (a ∷ []) e f = absurd cc
line_gap (a ∷ b ∷ more) e f =
    let n = position_or_len is_line_feed more in
    let two : position_or_len is_line_feed (47 ∷ 47 ∷ more) ≡ suc (suc n) = omega arith in
    let g : IsGap (take (position_or_len is_line_feed (47 ∷ 47 ∷ more)) (47 ∷ 47 ∷ more))
    (drop (position_or_len is_line_feed (47 ∷ 47 ∷ more)) (47 ∷ 47 ∷ more)) =
    rw two (line (take n more) (drop n more) (line_of more).0 (line_of more).1) in
    let at : 47 ∷ 47 ∷ more ≡ a ∷ b ∷ more = rw (e, f) refl in
    subst (λ xs. IsGap (take (position_or_len is_line_feed xs) xs) (drop (position_or_len is_line_feed xs) xs)) at g

-- so is a nested comment
nested_gap : (text : List ℕ) (n : ℕ) → get_or text 0 0 ≡ 47 → get_or text 1 0 ≡ 42 → comment_end 0 0 0 text ≡ Some n →
    IsGap (take n text) (drop n text)
nested_gap text n e f g =
    let (inside, taken, within, i) = nested_at text n e f g in
    rw taken (nested inside (drop n text) i)

-- so is a blank
blank_gap : (text : List ℕ) → 0 < length text → is_blank (get_or text 0 0) ≡ true → IsGap (take 1 text) (drop 1 text)
blank_gap [] some e = absurd (omega arith)
blank_gap (c ∷ cs) some e = blank c cs e

-- an item that is no token is a gap
pub gap_is : (text : List ℕ) (item : Item) → 0 < length text → first_item text ≡ Ok item → item.kind ≡ None →
    IsGap (take item.len text) (drop item.len text)
gap_is text item some e none = by _ (front_is text) e
  where
    is : (found : Item) → IsGap (take found.len text) (drop found.len text) → found ≡ item →
        IsGap (take item.len text) (drop item.len text)
    is found i same = subst (λ x. IsGap (take x.len text) (drop x.len text)) same i

    no_token : (found : Item) (kind : TokenKind) → found.kind ≡ Some kind → found ≡ item →
        IsGap (take item.len text) (drop item.len text)
    no_token found kind k same = absurd (let l : Some kind ≡ None = sym k ∙ ap (λ x. x.kind) same ∙ none in cc)

    number_by : (a b : Bool) →
        cond a (Err NumberTooLong) (cond b (Err BadNumber) (Ok (token_item Number (number_len text)))) ≡ Ok item →
        IsGap (take item.len text) (drop item.len text)
    number_by true b e = absurd cc
    number_by false true e = absurd cc
    number_by false false e = no_token (token_item Number (number_len text)) Number refl cc

    comment_by : (found : Option ℕ) → comment_end 0 0 0 text ≡ found → get_or text 0 0 ≡ 47 → get_or text 1 0 ≡ 42 →
        closed_item found ≡ Ok item → IsGap (take item.len text) (drop item.len text)
    comment_by (Some n) f a b e = is (gap n) (nested_gap text n a b f) cc
    comment_by None f a b e = absurd cc

    sign_by : (found : Option (List ℕ)) → found_sign found ≡ Ok item → IsGap (take item.len text) (drop item.len text)
    sign_by (Some s) e = no_token (token_item Sign (length s)) Sign refl cc
    sign_by None e = absurd cc

    by : (r : Result Item SourceKind) → IsFront text r → r ≡ Ok item → IsGap (take item.len text) (drop item.len text)
    by r (at_blank b) e = is (gap 1) (blank_gap text some b) cc
    by r (at_word w) e = no_token (word_item text) _ refl cc
    by r (at_number d) e = number_by _ _ e
    by r (at_line a b) e = is (gap (position_or_len is_line_feed text)) (line_gap text a b) cc
    by r (at_comment a b) e = comment_by _ refl a b e
    by r at_sign e = sign_by _ e

-- ---- the other way

-- such a comment ends before the line feed
line_len : (inside rest : List ℕ) → has_line_feed inside ≡ false → ends_line rest ≡ true →
    position_or_len is_line_feed (inside ++ rest) ≡ length inside
line_len [] [] off e = refl
line_len [] (c ∷ cs) off e = rw e refl
line_len (c ∷ inside) rest off e = by (is_line_feed c) off (line_len inside rest)
  where
    by : (b : Bool) → (b || has_line_feed inside) ≡ false →
        (has_line_feed inside ≡ false → ends_line rest ≡ true →
        position_or_len is_line_feed (inside ++ rest) ≡ length inside)
        → cond (not b) (1 + position_or_len is_line_feed (inside ++ rest)) 0 ≡ length (c ∷ inside)
    by true off more = absurd cc
    by false off more = omega (arith, more off e)

-- a gap is an item
pub item_of_gap : {front rest : List ℕ} → IsGap front rest → first_item (front ++ rest) ≡ Ok (gap (length front))
unfolding first_item
item_of_gap (blank c rest e) = rw e refl
item_of_gap (line inside rest off e) =
    let n_is : position_or_len is_line_feed (47 ∷ 47 ∷ (inside ++ rest)) ≡ length (47 ∷ 47 ∷ inside) =
    omega (arith, line_len inside rest off e) in
    ap (λ n. let r : Result Item SourceKind = Ok (gap n) in r) n_is
item_of_gap (nested inside rest i) =
    let text : 47 ∷ 42 ∷ ((inside ++ 42 ∷ 47 ∷ []) ++ rest) ≡ 47 ∷ 42 ∷ (inside ++ 42 ∷ 47 ∷ rest) =
    ap (λ xs. 47 ∷ 42 ∷ xs) (append_assoc inside (42 ∷ 47 ∷ []) rest) in
    ap closed_item (ap (comment_end 0 0 0) text ∙ nested_ends inside rest i)

-- a gap isn't empty
pub gap_some : {front rest : List ℕ} → IsGap front rest → 0 < length front
gap_some (blank c rest e) = omega arith
gap_some (line inside rest off e) = omega arith
gap_some (nested inside rest i) = omega arith
