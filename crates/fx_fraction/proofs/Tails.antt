-- The text of a number, piece by piece.
use Rattle.std.proofs.Common.{◌≡◌, ◌≢◌, ℕ, zero, suc, ◌+◌, ◌-◌, ◌*◌, ◌/◌, ◌%◌, ◌^◌, ◌<◌, ◌≤◌, ℤ, pos, negsuc, ◌≤ℤ◌, ◌<ℤ◌, Bool, false, cond, eqb, List, [], ◌∷◌, ◌++◌, drop, refl, sym, ap, ◌∙◌, arith, rules, tests, append_assoc}
use Rattle.std.specs.Prelude.{map, decimal, unsigned_abs, bit_and, int_lt}
use Rattle.std.proofs.lemmas.Nat.{one_shl, and_mask, shl_whole}
use Rattle.std.proofs.lemmas.List.{drop-drop}
use Rattle.std.proofs.lemmas.Int.{ints}
use Rattle.fx_model.specs.WordText.{digits_after, pointed, size_text, decimal_text}

abbrev pub glyphs : List ℕ → List ℕ
glyphs ds = map (λ k. 48 + k) ds

-- what is the same behind a place is the same behind a later one
pub drop_later : {X : Type 0} (i j : ℕ) (xs ys : List X) → i ≤ j → drop i xs ≡ drop i ys → drop j xs ≡ drop j ys
drop_later i j xs ys le e =
    let k : i + (j - i) ≡ j = omega arith in
    sym (drop-drop (j - i) i xs ∙ ap (λ (n : ℕ). drop n xs) k) ∙ ap (drop (j - i)) e ∙ drop-drop (j - i) i ys
    ∙ ap (λ (n : ℕ). drop n ys) k

pub rest_is : (n f : ℕ) → f < 128 → bit_and n (1 * 2 ^ f % 2 ^ 128 - 1) ≡ n % 2 ^ f
rest_is n f h = rw (one_shl f 128 h) (and_mask n f)

pub after_zero : (f : ℕ) → digits_after f 0 ≡ []
unfolding digits_after
after_zero zero = refl
after_zero (suc f) = refl

pub after_more : (f r : ℕ) → r ≢ 0 → digits_after (suc f) r ≡ (5 * r / 2 ^ f) ∷ digits_after f (5 * r % 2 ^ f)
unfolding digits_after
after_more f r h = let e : eqb r 0 ≡ false = search (rules, tests) in rw e refl

-- one more digit
pub digits_step : (front new : List ℕ) (l now d rest : ℕ) → now ≢ 0 → 0 < l → d ≡ 5 * now / 2 ^ (l - 1) →
    rest ≡ 5 * now % 2 ^ (l - 1) → new ≡ front ++ (48 + d) ∷ []
    → new ++ glyphs (digits_after (l - 1) rest) ≡ front ++ glyphs (digits_after l now)
digits_step front new zero now d rest some high p q e = absurd (omega arith)
digits_step front new (suc l) now d rest some high p q e =
    let k : suc l - 1 ≡ l = omega arith in
    rw (e, append_assoc, after_more l now some, k)
    (let p' : d ≡ 5 * now / 2 ^ l = rw k at p in let q' : rest ≡ 5 * now % 2 ^ l = rw k at q in rw (p', q') refl)

pub some_left : (now l : ℕ) → now ≢ 0 → now < 2 ^ l → 0 < l
some_left now zero some h = absurd (omega arith)
some_left now (suc l) some h = omega arith

-- a point before the digits, where there are some
pub point_some : (f r : ℕ) → r ≢ 0 → r < 2 ^ f → 46 ∷ glyphs (digits_after f r) ≡ pointed (digits_after f r)
point_some zero r some h = absurd (omega arith)
point_some (suc f) r some h = rw (after_more f r some) refl

pub point_none : (f r : ℕ) → r ≡ 0 → pointed (digits_after f r) ≡ []
point_none f r e = rw (e, after_zero f) refl

pub with_point : (front new done : List ℕ) (f r : ℕ) → r ≢ 0 → r < 2 ^ f → new ≡ front ++ 46 ∷ [] →
    done ≡ new ++ glyphs (digits_after f r) → done ≡ front ++ pointed (digits_after f r)
with_point front new done f r some h e g = g ∙ rw (e, append_assoc) (ap (λ xs. front ++ xs) (point_some f r some h))

-- the shift of a point
pub low_few : (p : ℤ) (s : ℕ) → negsuc 63 ≤ℤ p → p <ℤ pos 0 → s ≡ unsigned_abs p → s ≤ 64
low_few (pos n) s low below e = absurd (omega (arith, ints))
low_few (negsuc n) s low below e = omega (arith, ints)

pub high_few : (p : ℤ) (s : ℕ) → pos 0 ≤ℤ p → p ≤ℤ pos 62 → s ≡ unsigned_abs p → s ≤ 62
high_few (pos n) s above high e = omega (arith, ints)
high_few (negsuc n) s above high e = absurd (omega (arith, ints))

raised : (n s : ℕ) → n ≤ 2 ^ 63 → s ≤ 64 → n * 2 ^ s % 2 ^ 128 ≡ n * 2 ^ s
raised n s h le = let lt : n < 2 ^ 64 = omega arith in shl_whole n 64 s 128 lt (omega arith)

pub size_low : (n : ℕ) (p : ℤ) (s m : ℕ) → n ≤ 2 ^ 63 → negsuc 63 ≤ℤ p → p <ℤ pos 0 → s ≡ unsigned_abs p → m ≡ n →
    decimal (m * 2 ^ s % 2 ^ 128) ≡ size_text n p
unfolding size_text
size_low n (pos f) s m h low below e g = absurd (omega (arith, ints))
size_low n (negsuc f) s m h low below e g = rw (g, raised n s h (low_few (negsuc f) s low below e), e) refl

pub size_high : (n : ℕ) (p : ℤ) (s : ℕ) → pos 0 ≤ℤ p → s ≡ unsigned_abs p →
    decimal (n / 2 ^ s) ++ pointed (digits_after s (n % 2 ^ s)) ≡ size_text n p
unfolding size_text
size_high n (pos f) s above e = rw e refl
size_high n (negsuc f) s above e = absurd (omega (arith, ints))

pub size_in_two : (front mid done : List ℕ) (n : ℕ) (p : ℤ) (s m r : ℕ) → pos 0 ≤ℤ p → s ≡ unsigned_abs p →
    m ≡ n / 2 ^ s → r ≡ n % 2 ^ s
    → mid ≡ front ++ decimal m → done ≡ mid ++ pointed (digits_after s r) → done ≡ front ++ size_text n p
size_in_two front mid done n p s m r above e em er em2 ed =
    ed ∙ rw (em2, append_assoc, em, er) (ap (λ xs. front ++ xs) (size_high n p s above e))

pub text_in_two : (w f : ℤ) (b : Bool) (mid done : List ℕ) (n : ℕ) → b ≡ int_lt w (pos 0) → n ≡ unsigned_abs w →
    mid ≡ cond b (45 ∷ []) [] → done ≡ mid ++ size_text n f → done ≡ decimal_text w f
unfolding decimal_text
text_in_two w f b mid done n e g em ed = ed ∙ rw (em, e, g) refl

pub mask_is : (n f : ℕ) → f ≤ 62 → bit_and n (1 * 2 ^ f % 2 ^ 64 - 1) ≡ n % 2 ^ f
mask_is n f h = rw (one_shl f 64 (omega arith)) (and_mask n f)
