-- Digits with a point, as a numeral and its text.
use Rattle.std.proofs.Common.{◌≡◌, ℕ, suc, ◌+◌, ◌-◌, ◌*◌, ◌%◌, ◌^◌, ◌<◌, ◌≤◌, true, List, ◌∷◌, ◌++◌, length, take, drop, get_or, Some, None, refl, sym, ap, ◌∙◌, length-append, length-drop, append-nil, drop-cons, take-add, add-one, arith, rules, tests}
use Rattle.std.specs.Prelude.{nat_lt, slice_range}
use Rattle.std.specs.Str.Parse.{digits_value, AllDigits}
use Rattle.std.proofs.lemmas.List.{length-take-le, drop-drop}
use Rattle.core.proofs.dec2flt.Rows.{short_fits, AllDigits-append, AllDigits-digits_len}
use Rattle.core.proofs.dec2flt.DigitsLemmas.{digits_value-append}
use Rattle.core.proofs.num.Powers.{mod-mul}
use Rattle.fx_model.proofs.Digits.{digits_model}
use Rattle.fx_fraction.specs.Numeral.{is_number, digit_count}
use Rattle.fx_text.specs.Leading.{IsUnsigned}

is_some : (n : ℕ) → 0 < n → nat_lt 0 n ≡ true
is_some n some = search (rules, tests)

-- at least one digit
number_is : (ds : List ℕ) → AllDigits 10 ds → 0 < length ds → is_number ds ≡ true
number_is ds all some = rw (digits_model.from ds all, is_some (length ds) some) refl

-- a number that is kept modulo 2^64 and is less
kept : (a b c n : ℕ) → n ≡ a * b + c → n < 2 ^ 64 → (a % 2 ^ 64 * b + c) % 2 ^ 64 ≡ n
kept a b c n e lt = omega (arith, mod-mul a b (2 ^ 64), e, lt)

-- from one place to another by one between
pub range_cut : (xs : List ℕ) (a b c : ℕ) → a ≤ b → b ≤ c →
    slice_range xs a c ≡ slice_range xs a b ++ slice_range xs b c
range_cut xs a b c le le2 =
    let e : c - a ≡ b - a + (c - b) = omega arith in
    let back : a + (b - a) ≡ b = omega arith in
    rw (e, take-add, drop-drop, back) refl

-- the first of a range, and the others
range_first : (xs : List ℕ) (a b x : ℕ) → a < length xs → a < b → get_or xs a 0 ≡ x →
    slice_range xs a b ≡ x ∷ slice_range xs (a + 1) b
range_first xs a b x lt some is =
    let front : drop a xs ≡ x ∷ drop (a + 1) xs = drop-cons xs a 0 lt ∙ ap (λ y. y ∷ drop (suc a) xs) is
    ∙ ap (λ n. x ∷ drop n xs) (sym (add-one a)) in
    let n : b - a ≡ suc (b - (a + 1)) = omega arith in
    ap (λ l. take (b - a) l) front ∙ ap (λ k. take k (x ∷ drop (a + 1) xs)) n

module _ (text : List ℕ) (from point : ℕ) (start : from ≤ length text)
    (ends : point ≡ from + digit_count (drop from text)) (within : point ≤ length text) where
  count_is : point - from ≡ digit_count (drop from text)
  count_is = omega (arith, ends)

  whole_digits : AllDigits 10 (slice_range text from point)
  whole_digits = AllDigits-digits_len (drop from text) (point - from) (omega (arith, count_is))

  whole_long : length (slice_range text from point) ≡ point - from
  whole_long = length-take-le (point - from) (drop from text) (omega (arith, ends, length-drop from text))

  -- no point stands behind them
  pub whole_alone : (size : ℕ) → size ≡ digits_value 10 (slice_range text from point) % 2 ^ 64 → from < point →
      point - from ≤ 19 → IsUnsigned text from size 0 point
  whole_alone size is some few =
      let fits = short_fits (slice_range text from point) whole_digits (omega (arith, whole_long)) in
      let all = append-nil (slice_range text from point) in
      record {
        whole = slice_range text from point;
        part = None;
        digits = ap is_number all ∙ number_is _ whole_digits (omega (arith, whole_long));
        text_is = sym all;
        value = is ∙ omega (arith, fits) ∙ ap (digits_value 10) (sym all);
        places_are = refl;
        after = omega arith;
        within = within;
      }

  -- a point and digits do
  pub with_part : (end whole size : ℕ) → point < length text → get_or text point 0 ≡ 46 →
      whole ≡ digits_value 10 (slice_range text from point) % 2 ^ 64
      → end ≡ point + 1 + digit_count (drop (point + 1) text) → end ≤ length text
      → size ≡ (whole * 10 ^ (end - (point + 1)) + digits_value 10 (slice_range text (point + 1) end)) % 2 ^ 64
      → 0 < point - from + (end - (point + 1)) → point - from + (end - (point + 1)) ≤ 19 →
      IsUnsigned text from size (end - (point + 1)) end
  with_part end whole size lt dot whole_is part_ends in_text size_is some few =
      let w = slice_range text from point in let p = slice_range text (point + 1) end in
      let n = end - (point + 1) in
      let p_digits : AllDigits 10 p = AllDigits-digits_len (drop (point + 1) text) n (omega (arith, part_ends)) in
      let p_long : length p ≡ n =
      length-take-le n (drop (point + 1) text) (omega (arith, part_ends, length-drop (point + 1) text)) in
      let all : AllDigits 10 (w ++ p) = AllDigits-append w p whole_digits p_digits in
      let long : length (w ++ p) ≡ point - from + n = length-append w p ∙ omega (arith, whole_long, p_long) in
      let sum : digits_value 10 (w ++ p) ≡ digits_value 10 w * 10 ^ n + digits_value 10 p = digits_value-append w p
      ∙ ap (λ k. digits_value 10 w * 10 ^ k + digits_value 10 p) p_long in
      record {
        whole = w;
        part = Some p;
        digits = number_is (w ++ p) all (omega (arith, long, some));
        text_is = range_cut text from point end (omega (arith, ends)) (omega (arith, part_ends))
            ∙ ap (λ l. w ++ l) (range_first text point end 46 lt (omega (arith, part_ends)) dot);
        value = size_is ∙ ap (λ k. (k * 10 ^ n + digits_value 10 p) % 2 ^ 64) whole_is
            ∙ kept (digits_value 10 w) (10 ^ n) (digits_value 10 p) (digits_value 10 (w ++ p)) sum
            (short_fits (w ++ p) all (omega (arith, long, few)));
        places_are = sym p_long;
        after = omega (arith, ends, part_ends);
        within = in_text;
      }
