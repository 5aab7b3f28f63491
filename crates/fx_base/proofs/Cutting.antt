-- Lemmas on the first line of a text.
use Rattle.std.proofs.Common.{◌≡◌, ℕ, ◌+◌, ◌-◌, ◌<◌, ◌≤◌, Bool, true, false, nat_eq, nat_lt, not, cond, List, [], ◌∷◌, ◌++◌, length, get_or, take, drop, arith, refl, sym, ap, subst, ◌∙◌, suc, add-one}
use Rattle.std.specs.Prelude.{◌==◌, ◌&&◌, if◌then◌else◌, All, Option, None, Some, position, slice_index}
use Rattle.std.specs.List.{slice_split, prefix_len}
use Rattle.std.specs.Str.Lines.{lines, lines_of_parts, strip_carriage_return}
use Rattle.std.proofs.lemmas.List.Splits.{slice_split_at, slice_split_none, length-slice_split}
use Rattle.std.proofs.lemmas.List.Elements.{All-from_get_or, All-nil, All-cons}
use Rattle.std.proofs.lemmas.List.Quantifiers.{position-Some}
use Rattle.std.proofs.lemmas.List.Sums.{position_or_len_is}
use Rattle.memchr.specs.Find.{IsFirstByte, is_byte}
use Rattle.std.proofs.lemmas.List.{take-append-drop, length-take-le, get_or-take, take_all}
use Rattle.std.proofs.lemmas.Option.{none-some}
use Rattle.std.proofs.Math.Seq.{drop-cons}
use Rattle.std.proofs.lemmas.Bool.{cond-true, cond-false, lt-ltb, false_from_ne_true}
use Rattle.std.proofs.lemmas.Option.{cond_some}
use Rattle.std.proofs.lemmas.List.Sums.{prefix_len-le-length}
use Rattle.std.proofs.lemmas.List.Folds.{prefix_len-append}
use Rattle.std.proofs.lemmas.List.{length-append}
use borrow.Author.Tests.{eq-eqb}
use borrow.Author.Tests.{ltb-true, ltb-false}
use Rattle.std.proofs.lemmas.Grind.{common_steps}
use Rattle.fx_base.specs.Text.{text_at, skip_mark}

abbrev pub is_feed : ℕ → Bool
is_feed b = b == 10

parts-cons : (x : List ℕ) (parts : List (List ℕ)) → 0 < length parts →
    lines_of_parts (x ∷ parts) ≡ strip_carriage_return x ∷ lines_of_parts parts
parts-cons x [] h = absurd (omega arith)
parts-cons x (y ∷ more) h = refl

-- the first line of a text that holds its end
pub lines-cut : (raw rest : List ℕ) → All (λ b. is_feed b ≡ false) raw →
    lines (raw ++ 10 ∷ rest) ≡ strip_carriage_return raw ∷ lines rest
lines-cut raw rest none =
    ap lines_of_parts (slice_split_at is_feed raw 10 rest none refl)
    ∙ parts-cons raw (slice_split is_feed rest) (omega (arith, length-slice_split is_feed rest))

-- a mark stands within the first line
pub skip_mark-cut : (raw rest : List ℕ) → All (λ b. is_feed b ≡ false) raw →
    skip_mark (raw ++ 10 ∷ rest) ≡ skip_mark raw ++ 10 ∷ rest
skip_mark-cut [] [] none = refl
skip_mark-cut [] (x ∷ []) none = refl
skip_mark-cut [] (x ∷ y ∷ rest) none = refl
skip_mark-cut (a ∷ []) [] none = refl
skip_mark-cut (a ∷ []) (x ∷ rest) none =
    elim (a == 239) as (λ v. (if v && false then rest else a ∷ 10 ∷ x ∷ rest) ≡ a ∷ 10 ∷ x
    ∷ rest) [ true ↦ refl | false ↦ refl ]
skip_mark-cut (a ∷ b ∷ []) rest none =
    elim (a == 239) as (λ v. (if v && ((b == 187) && false) then rest else a ∷ b ∷ 10 ∷ rest) ≡ a ∷ b ∷ 10 ∷ rest) [
      | true ↦ elim (b == 187) as
          (λ v. (if v && false then rest else a ∷ b ∷ 10 ∷ rest) ≡ a ∷ b ∷ 10 ∷ rest) [ true ↦ refl | false ↦ refl ]
      | false ↦ refl
    ]
skip_mark-cut (a ∷ b ∷ c ∷ raw) rest none =
    elim ((a == 239) && ((b == 187) && (c == 191))) as
    (λ v. (if v then raw ++ 10 ∷ rest else a ∷ b ∷ c ∷ (raw ++ 10 ∷ rest)) ≡ (if v then raw else a ∷ b ∷ c ∷ raw)
    ++ 10 ∷ rest) [ true ↦ refl | false ↦ refl ]

pub text_at-cut : (is_first : Bool) (raw rest : List ℕ) → All (λ b. is_feed b ≡ false) raw →
    text_at is_first (raw ++ 10 ∷ rest) ≡ text_at is_first raw ++ 10 ∷ rest
text_at-cut true raw rest none = skip_mark-cut raw rest none
text_at-cut false raw rest none = refl

abbrev pub Plain : List ℕ → Type 0
Plain raw = All (λ b. is_feed b ≡ false) raw

none-before : (bytes : List ℕ) (end : ℕ) → end < length bytes →
    ((k : ℕ) → k < end → is_feed (get_or bytes k 0) ≡ false) → Plain (take end bytes)
none-before bytes end within before =
    All-from_get_or (λ b. is_feed b ≡ false) (take end bytes) 0 (λ i h.
    let in_part : i < end = omega (arith, length-take-le end bytes (omega arith)) in
    subst (λ v. is_feed v ≡ false) (sym (get_or-take end bytes i 0 in_part)) (before i in_part))

at-feed : (bytes : List ℕ) (end : ℕ) → end < length bytes → is_feed (get_or bytes end 0) ≡ true →
    bytes ≡ take end bytes ++ 10 ∷ drop (end + 1) bytes
at-feed bytes end within feed =
    let ten : get_or bytes end 0 ≡ 10 = grind (arith, common_steps) in
    sym (take-append-drop end bytes)
    ∙ ap (λ t. take end bytes ++ t) (drop-cons bytes end 0 within ∙ ap (λ x. x ∷ drop (suc end) bytes) ten
    ∙ ap (λ n. 10 ∷ drop n bytes) (sym (add-one end)))

-- the bytes before the first line feed, the feed, and those behind it
pub record IsFeedAt (bytes : List ℕ) (end : ℕ) : Type 0 where
  pub within : end < length bytes
  pub plain : Plain (take end bytes)
  pub parts : bytes ≡ take end bytes ++ 10 ∷ drop (end + 1) bytes

pub feed-at : (bytes : List ℕ) (end : ℕ) → position is_feed bytes ≡ Some end → IsFeedAt bytes end
feed-at bytes end found =
    let p = position-Some is_feed bytes end 0 found in
    record { within = p.0; plain = none-before bytes end p.0 p.2; parts = at-feed bytes end p.0 p.1 }

plain-cons : (x : ℕ) (xs : List ℕ) (t : Bool) → is_feed x ≡ t →
    (length xs ≤ prefix_len (λ b. not (is_feed b)) xs → Plain xs)
    → suc (length xs) ≤ cond (not t) (1 + prefix_len (λ b. not (is_feed b)) xs) 0 → Plain (x ∷ xs)
plain-cons x xs true e more h = absurd (omega arith)
plain-cons x xs false e more h = All-cons (λ b. is_feed b ≡ false) x xs e (more (omega arith))

plain-long : (xs : List ℕ) → length xs ≤ prefix_len (λ b. not (is_feed b)) xs → Plain xs
plain-long [] h = All-nil (λ b. is_feed b ≡ false)
plain-long (x ∷ xs) h = plain-cons x xs (is_feed x) refl (plain-long xs) h

plain-by : (xs : List ℕ) (n : ℕ) (t : Bool) → nat_lt n (length xs) ≡ t → cond t (Some n) None ≡ None →
    (length xs ≤ n → Plain xs) → Plain xs
plain-by xs n true e none long = absurd (none-some n (sym none))
plain-by xs n false e none long = long (ltb-false n (length xs) e)

-- bytes in which no line feed is found
pub feed-nowhere : (xs : List ℕ) → position is_feed xs ≡ None → Plain xs
feed-nowhere xs none =
    let n = prefix_len (λ b. not (is_feed b)) xs in
    plain-by xs n (nat_lt n (length xs)) refl none (plain-long xs)

-- a text without a line feed is one line, unless it is empty
pub lines-last : (bytes : List ℕ) → Plain bytes → 0 < length bytes → lines bytes ≡ bytes ∷ []
lines-last [] none some = absurd (omega arith)
lines-last (x ∷ bytes) none some =
    let parts : lines_of_parts ((x ∷ bytes) ∷ []) ≡ (x ∷ bytes) ∷ [] = grind arith in
    ap lines_of_parts (slice_split_none is_feed (x ∷ bytes) none) ∙ parts

-- a mark stands within three bytes
skip_mark-more : (bytes rest : List ℕ) → 3 ≤ length bytes → skip_mark (bytes ++ rest) ≡ skip_mark bytes ++ rest
skip_mark-more [] rest h = absurd (omega arith)
skip_mark-more (a ∷ []) rest h = absurd (omega arith)
skip_mark-more (a ∷ b ∷ []) rest h = absurd (omega arith)
skip_mark-more (a ∷ b ∷ c ∷ raw) rest h =
    elim ((a == 239) && ((b == 187) && (c == 191))) as
    (λ v. (if v then raw ++ rest else a ∷ b ∷ c ∷ (raw ++ rest)) ≡ (if v then raw else a ∷ b ∷ c ∷ raw)
    ++ rest) [ true ↦ refl | false ↦ refl ]

pub text_at-more : (is_first : Bool) (bytes rest : List ℕ) → 3 ≤ length bytes →
    text_at is_first (bytes ++ rest) ≡ text_at is_first bytes ++ rest
text_at-more true bytes rest h = skip_mark-more bytes rest h
text_at-more false bytes rest h = refl

-- a line without its carriage return is a front of it
strip-by : (l : List ℕ) (t : Bool) → (n : ℕ) × ((if t then take (length l - 1) l else l) ≡ take n l) × (n ≤ length l) ×
    (length l ≤ n + 1)
strip-by l true = (length l - 1, refl, omega arith, omega arith)
strip-by l false = (length l, sym (take_all (length l) l (omega arith)), omega arith, omega arith)

pub stripped : (l : List ℕ) → (n : ℕ) × (strip_carriage_return l ≡ take n l) × (n ≤ length l) × (length l ≤ n + 1)
stripped l = strip-by l (slice_index l (length l - 1) == 13)

-- where a line feed stands behind bytes that have none
whole-prefix : (xs : List ℕ) → position is_feed xs ≡ None → prefix_len (λ b. not (is_feed b)) xs ≡ length xs
whole-prefix xs none = by (nat_lt (prefix_len (λ b. not (is_feed b)) xs) (length xs)) refl none
  where
    by : (t : Bool) → nat_lt (prefix_len (λ b. not (is_feed b)) xs) (length xs) ≡ t →
        cond t (Some (prefix_len (λ b. not (is_feed b)) xs)) None ≡ None →
        prefix_len (λ b. not (is_feed b)) xs ≡ length xs
    by true e f = absurd (none-some (prefix_len (λ b. not (is_feed b)) xs) (sym f))
    by false e f =
        let long : length xs ≤ prefix_len (λ b. not (is_feed b)) xs =
        ltb-false (prefix_len (λ b. not (is_feed b)) xs) (length xs) e in
        omega (arith, prefix_len-le-length (λ b. not (is_feed b)) xs)

prefix-behind : (xs ys : List ℕ) → position is_feed xs ≡ None →
    prefix_len (λ b. not (is_feed b)) (xs ++ ys) ≡ length xs + prefix_len (λ b. not (is_feed b)) ys
prefix-behind xs ys none =
    prefix_len-append (λ b. not (is_feed b)) xs ys
    ∙ cond-true (nat_eq (prefix_len (λ b. not (is_feed b)) xs) (length xs))
    (length xs + prefix_len (λ b. not (is_feed b)) ys) (prefix_len (λ b. not (is_feed b)) xs)
    (eq-eqb (prefix_len (λ b. not (is_feed b)) xs) (length xs) (whole-prefix xs none))

pub position-behind : (xs ys : List ℕ) (n : ℕ) → position is_feed xs ≡ None → position is_feed ys ≡ Some n →
    position is_feed (xs ++ ys) ≡ Some (length xs + n)
position-behind xs ys n none found =
    let q = prefix_len (λ b. not (is_feed b)) ys in
    let f = cond_some (nat_lt q (length ys)) q n found in
    let at : prefix_len (λ b. not (is_feed b)) (xs ++ ys) ≡ length xs + n = prefix-behind xs ys none
    ∙ ap (λ k. length xs + k) f.1 in
    let less : q < length ys = ltb-true q (length ys) f.0 in
    let within : prefix_len (λ b. not (is_feed b)) (xs ++ ys) < length (xs ++ ys) =
    omega (arith, length-append xs ys, prefix-behind xs ys none) in
    cond-true (nat_lt (prefix_len (λ b. not (is_feed b)) (xs ++ ys)) (length (xs ++ ys)))
    (Some (prefix_len (λ b. not (is_feed b)) (xs ++ ys))) None (lt-ltb _ _ within) ∙ ap Some at

pub nowhere-behind : (xs ys : List ℕ) → position is_feed xs ≡ None → position is_feed ys ≡ None →
    position is_feed (xs ++ ys) ≡ None
nowhere-behind xs ys none rest =
    let long : prefix_len (λ b. not (is_feed b)) (xs ++ ys) ≡ length (xs ++ ys) = prefix-behind xs ys none
    ∙ ap (λ k. length xs + k) (whole-prefix ys rest) ∙ sym (length-append xs ys) in
    cond-false (nat_lt (prefix_len (λ b. not (is_feed b)) (xs ++ ys)) (length (xs ++ ys)))
    (Some (prefix_len (λ b. not (is_feed b)) (xs ++ ys))) None
    (false_from_ne_true _ (λ e. let less : prefix_len (λ b. not (is_feed b)) (xs ++ ys)
    < length (xs ++ ys) = ltb-true _ _ e in omega arith))

-- a search's answer
pub first-feed : (bytes : List ℕ) (r : Option ℕ) → IsFirstByte (is_byte 10) bytes r → r ≡ position is_feed bytes
first-feed bytes None h =
    let n : prefix_len (λ b. not (is_feed b)) bytes ≡ length bytes =
    position_or_len_is is_feed bytes (length bytes) 0 (omega arith)
    (λ k lt. false_from_ne_true _ (h k (omega arith) lt)) (λ lt. absurd (omega arith)) in
    sym (cond-false (nat_lt (prefix_len (λ b. not (is_feed b)) bytes) (length bytes))
    (Some (prefix_len (λ b. not (is_feed b)) bytes)) None
    (false_from_ne_true _ (λ e. let less : prefix_len (λ b. not (is_feed b)) bytes < length bytes = ltb-true _ _ e in
    omega arith)))
first-feed bytes (Some k) h =
    let high = h.0.high in
    let at : prefix_len (λ b. not (is_feed b)) bytes ≡ k =
    position_or_len_is is_feed bytes k 0 (omega arith) (λ j lt. false_from_ne_true _ (h.0.before j (omega arith) lt))
    (λ _. h.1) in
    let within : prefix_len (λ b. not (is_feed b)) bytes < length bytes = omega arith in
    sym (cond-true (nat_lt (prefix_len (λ b. not (is_feed b)) bytes) (length bytes))
    (Some (prefix_len (λ b. not (is_feed b)) bytes)) None (lt-ltb _ _ within) ∙ ap Some at)
