-- The item at the front is whole characters.
use Rattle.std.proofs.Common.{◌≡◌, ℕ, zero, suc, ◌+◌, ◌-◌, ◌<◌, ◌≤◌, Bool, true, false, cond, eqb, List, [], ◌∷◌, length, get_or, drop, Option, Some, None, ◌⊎◌, inl, inr, refl, sym, ap, subst, ◌∙◌, arith, rules, tests, length-drop, add_assoc}
use Rattle.std.specs.Prelude.{◌&&◌, ◌++◌, not, nat_lt, slice_index, IsTrue}
use Rattle.std.specs.Char.{is_ascii_digit}
use Rattle.std.specs.List.{prefix_len, position_or_len, list_all, list_any, find, starts_with}
use Rattle.std.proofs.lemmas.List.{get_or-drop}
use Rattle.std.proofs.lemmas.List.Sums.{prefix_len-le-length, prefix_len_passes, passes_at_first}
use Rattle.std.specs.Str.{IsUtf8, IsCharBoundary}
use Rattle.std.proofs.lemmas.Str.{IsCharBoundary-after_ascii}
use Rattle.std.proofs.Common.{length-append, option_map, map, take, bytes_eq}
use Rattle.std.proofs.Math.Seq.{take-append_seam}
use Rattle.std.specs.Borrow.{Bor}
use Rattle.std.proofs.lemmas.List.{get_or_append_left}
use Rattle.std.proofs.lemmas.Bool.Decides.{Decides-eqb}
use Rattle.std.proofs.lemmas.Slice.Eq.{starts_is}
use Rattle.fx_model.specs.Names.{is_letter, is_word_byte}
use Rattle.fx_fraction.specs.Numeral.{is_e}
use Rattle.fx_lexer.specs.Characters.{is_line_feed}
use Rattle.fx_lexer.specs.Tokens.{signs}
use Rattle.fx_lexer.specs.Numbers.{digits_at, part_len, mark_len, power_len, number_len}

-- a cut behind n bytes, not at the front; the byte before it or the byte behind it is ASCII, so it is between
-- characters
pub record IsItem (text : List ℕ) (n : ℕ) : Type 0 where
  pub some : 0 < n
  pub within : n ≤ length text
  pub border : (get_or text (n - 1) 0 < 128) ⊎ (n < length text → get_or text n 0 < 128)

-- the bytes of a name are ASCII
pub word_ascii : (c : ℕ) → is_word_byte c ≡ true → c < 128
word_ascii c e = search (rules, tests)

-- digits are ASCII
pub digit_ascii : (c : ℕ) → is_ascii_digit c ≡ true → c < 128
digit_ascii c e = search (rules, tests)

-- a letter may stand in a name
pub letter_word : (c : ℕ) → is_letter c ≡ true → is_word_byte c ≡ true
letter_word c e = rw e refl

-- a run isn't empty where its first byte passes
begins : (p : ℕ → Bool) (xs : List ℕ) → 0 < length xs → p (get_or xs 0 0) ≡ true → 0 < prefix_len p xs
begins p [] lt e = absurd (omega arith)
begins p (x ∷ xs) lt e = rw e (omega arith)

-- a byte that isn't 0 stands in the text
there : (text : List ℕ) (k : ℕ) → 0 < get_or text k 0 → k < length text
there [] k lt = absurd (omega arith)
there (x ∷ text) zero lt = omega arith
there (x ∷ text) (suc k) lt = let h = there text k lt in omega arith

-- a run of ASCII bytes is cut between characters
run_is : (p : ℕ → Bool) (ascii : (c : ℕ) → p c ≡ true → c < 128) (xs : List ℕ) → 0 < length xs →
    p (get_or xs 0 0) ≡ true → IsItem xs (prefix_len p xs)
run_is p ascii xs lt e =
    let b = begins p xs lt e in
    record {
      some = b;
      within = prefix_len-le-length p xs;
      border = inl (ascii _ (prefix_len_passes p xs (prefix_len p xs - 1) 0 (omega arith)));
    }

-- so is a word
pub word_is : (xs : List ℕ) → is_letter (get_or xs 0 0) ≡ true → IsItem xs (prefix_len is_word_byte xs)
word_is [] e = absurd cc
word_is (x ∷ xs) e = run_is is_word_byte word_ascii (x ∷ xs) (omega arith) (letter_word x e)

-- the comment to the end of the line
pub line_is : (xs : List ℕ) → get_or xs 0 0 ≡ 47 → IsItem xs (position_or_len is_line_feed xs)
line_is [] e = absurd (omega arith)
line_is (x ∷ xs) e =
    let off : is_line_feed x ≡ false = rw e refl in
    let some : 0 < position_or_len is_line_feed (x ∷ xs) = rw off (omega arith) in
    record {
      some = some;
      within = prefix_len-le-length (λ c. not (is_line_feed c)) (x ∷ xs);
      border =
          inr (λ lt. let h : is_line_feed (get_or (x ∷ xs) (position_or_len is_line_feed (x ∷ xs)) 0)
          ≡ true = passes_at_first is_line_feed (x ∷ xs) 0 lt in feeds _ h);
    }
  where
    feeds : (c : ℕ) → is_line_feed c ≡ true → c < 128
    feeds c e = search (rules, tests)

-- ---- numbers

-- digits from a place on end between characters
digits_end : (i : ℕ) (text : List ℕ) → 0 < digits_at i text → IsItem text (i + digits_at i text)
unfolding digits_at
digits_end i text lt =
    let n = prefix_len is_ascii_digit (drop i text) in
    let le : n ≤ length (drop i text) = prefix_len-le-length is_ascii_digit (drop i text) in
    let p : get_or (drop i text) (n - 1) 0 < 128 =
    digit_ascii _ (prefix_len_passes is_ascii_digit (drop i text) (n - 1) 0 (omega arith)) in
    let q : get_or text (i + (n - 1)) 0 < 128 = subst (λ c. c < 128) (get_or-drop i text (n - 1) 0) p in
    let e : i + (n - 1) ≡ i + n - 1 = omega arith in
    record {
      some = omega arith;
      within = omega (arith, length-drop i text);
      border = inl (subst (λ k. get_or text k 0 < 128) e q);
    }

-- an optional part of a number is empty or ends between characters
pick : (text : List ℕ) (i m d : ℕ) (b c : Bool) → eqb d 0 ≡ c → (0 < d → IsItem text ((i + m) + d)) →
    (cond b (cond c 0 (m + d)) 0 ≡ 0) ⊎ IsItem text (i + cond b (cond c 0 (m + d)) 0)
pick text i m d false c e h = inl refl
pick text i m d true true e h = inl refl
pick text i m d true false e h = inr (subst (IsItem text) (add_assoc i m d) (h (search (rules, tests))))

-- the digits behind a point
part_end : (i : ℕ) (text : List ℕ) → (part_len i text ≡ 0) ⊎ IsItem text (i + part_len i text)
unfolding part_len
part_end i text =
    pick text i 1 (digits_at (i + 1) text) (eqb (get_or text i 0) 46) (eqb (digits_at (i + 1) text) 0) refl
    (digits_end (i + 1) text)

-- the power of ten
power_end : (i : ℕ) (text : List ℕ) → (power_len i text ≡ 0) ⊎ IsItem text (i + power_len i text)
unfolding power_len
power_end i text =
    pick text i (mark_len i text) (digits_at (i + mark_len i text) text) (is_e (get_or text i 0))
    (eqb (digits_at (i + mark_len i text) text) 0) refl (digits_end (i + mark_len i text) text)

-- a part behind a part
further : (text : List ℕ) (i n : ℕ) → IsItem text i → (n ≡ 0) ⊎ IsItem text (i + n) → IsItem text (i + n)
further text i n h (inl e) = let same : i ≡ i + n = omega arith in subst (IsItem text) same h
further text i n h (inr g) = g

-- a number is cut between characters
pub number_is : (text : List ℕ) → is_ascii_digit (get_or text 0 0) ≡ true → IsItem text (number_len text)
unfolding number_len digits_at
number_is [] e = absurd cc
number_is (x ∷ text) e =
    let whole = digits_at 0 (x ∷ text) in
    let w : IsItem (x ∷ text) whole = run_is is_ascii_digit digit_ascii (x ∷ text) (omega arith) e in
    let pointed = further (x ∷ text) whole (part_len whole (x ∷ text)) w (part_end whole (x ∷ text)) in
    further (x ∷ text) (whole + part_len whole (x ∷ text))
    (power_len (whole + part_len whole (x ∷ text)) (x ∷ text)) pointed
    (power_end (whole + part_len whole (x ∷ text)) (x ∷ text))

-- ---- signs

-- what is found passes its test, and what all pass
found_passes : (p q : List ℕ → Bool) (xs : List (List ℕ)) (x : List ℕ) → list_all q xs ≡ true → find p xs ≡ Some x →
    (p x ≡ true) × (q x ≡ true)
found_passes p q [] x all e = absurd cc
found_passes p q (y ∷ ys) x all e = by (p y) (q y) refl refl all e (found_passes p q ys x)
  where
    by : (b c : Bool) → p y ≡ b → q y ≡ c → (c && list_all q ys) ≡ true → cond b (Some y) (find p ys) ≡ Some x
        → (list_all q ys ≡ true → find p ys ≡ Some x → (p x ≡ true) × (q x ≡ true)) → (p x ≡ true) × (q x ≡ true)
    by b false g h all e more = absurd cc
    by true true g h all e more =
        let same : y ≡ x = cc in (subst (λ z. p z ≡ true) same g, subst (λ z. q z ≡ true) same h)
    by false true g h all e more = more all e

-- a search in a mapped list
find-map : {X Y : Type 0} (p : Y → Bool) (f : X → Y) (xs : List X) →
    find p (map f xs) ≡ option_map f (find (λ x. p (f x)) xs)
find-map p f [] = refl
find-map p f (x ∷ xs) = by (p (f x)) (find-map p f xs)
  where
    by : (b : Bool) → find p (map f xs) ≡ option_map f (find (λ x. p (f x)) xs)
        → cond b (Some (f x)) (find p (map f xs)) ≡ option_map f (cond b (Some x) (find (λ x. p (f x)) xs))
    by true same = refl
    by false same = same

-- what `find` gave of references to signs
pub found_of : (text : List ℕ) (xs : List (Bor (List ℕ))) (from : List (Bor (List ℕ))) → from ≡ xs →
    (r : Option (Bor (Bor (List ℕ)))) → option_map (λ s. s.now) r ≡ find (λ s. starts_with eqb text s.now) xs
    → find (λ s. starts_with eqb text s) (map (λ s. s.now) xs) ≡ option_map (λ s. s.now.now) r
found_of text xs from same r e = find-map (λ s. starts_with eqb text s) (λ (s : Bor (List ℕ)). s.now) xs
    ∙ ap (option_map (λ (s : Bor (List ℕ)). s.now)) (sym e) ∙ twice r
  where
    twice : (r : Option (Bor (Bor (List ℕ)))) →
        option_map (λ s. s.now) (option_map (λ s. s.now) r) ≡ option_map (λ s. s.now.now) r
    twice None = refl
    twice (Some s) = refl

-- a sign isn't empty, and its last byte is ASCII
is_ascii_end : List ℕ → Bool
is_ascii_end sign = nat_lt 0 (length sign) && nat_lt (slice_index sign (length sign - 1)) 128

-- the text behind a sign that it begins with
sign_begins : (text sign : List ℕ) → starts_with eqb text sign ≡ true → text ≡ sign ++ drop (length sign) text
sign_begins text sign e = (starts_is Decides-eqb text sign (starts_with eqb text sign) refl).0 e

-- the text begins with the sign that is found
pub sign_at : (text sign : List ℕ) → find (λ s. starts_with eqb text s) signs ≡ Some sign →
    (take (length sign) text ≡ sign) × IsTrue (list_any (λ s. bytes_eq s sign) signs)
sign_at text sign e =
    let found =
    found_passes (λ s. starts_with eqb text s) (λ x. list_any (λ s. bytes_eq s x) signs) signs sign refl e in
    (ap (take (length sign)) (sign_begins text sign found.0) ∙ take-append_seam sign (drop (length sign) text), found.1)

-- a sign is cut between characters
pub sign_is : (text sign : List ℕ) → find (λ s. starts_with eqb text s) signs ≡ Some sign → IsItem text (length sign)
unfolding is_ascii_end
sign_is text sign e =
    let found = found_passes (λ s. starts_with eqb text s) is_ascii_end signs sign refl e in
    let begins : text ≡ sign ++ drop (length sign) text = sign_begins text sign found.0 in
    let some : 0 < length sign = search (rules, tests) in
    let ascii : get_or sign (length sign - 1) 0 < 128 = search (rules, tests) in
    let at : get_or text (length sign - 1) 0 ≡ get_or sign (length sign - 1) 0 =
    ap (λ t. get_or t (length sign - 1) 0) begins
    ∙ get_or_append_left sign (drop (length sign) text) 0 (length sign - 1) (omega arith) in
    record {
      some = some;
      within = omega (arith, ap length begins, length-append sign (drop (length sign) text));
      border = inl (rw at ascii);
    }

-- a length that isn't 0
pub not_empty : (n : ℕ) → false ≡ eqb n 0 → 0 < n
not_empty n e = search (rules, tests)

-- a length that is 0
pub is_empty : (n : ℕ) → true ≡ eqb n 0 → n ≡ 0
is_empty n e = search (rules, tests)

-- less is left behind an item
pub shorter : {text : List ℕ} {n : ℕ} → IsItem text n → length (drop n text) < length text
shorter {text} {n} i = omega (arith, i.some, i.within, length-drop n text)

-- a cut between characters is a boundary of the text
pub border_of : (text : List ℕ) (n : ℕ) → IsUtf8 text → IsItem text n → IsCharBoundary text n
border_of text n u i = by i.border
  where
    by : (get_or text (n - 1) 0 < 128) ⊎ (n < length text → get_or text n 0 < 128) → IsCharBoundary text n
    by (inl a) =
        let e : n - 1 + 1 ≡ n = omega (arith, i.some) in
        subst (IsCharBoundary text) e (IsCharBoundary-after_ascii text (n - 1) u (omega (arith, i.some, i.within)) a)
    by (inr b) = (i.within, λ lt high. absurd (let h = b lt in omega arith))
