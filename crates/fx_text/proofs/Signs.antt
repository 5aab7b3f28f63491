-- A sign before digits: the decimal of a numeral without a power of ten.
use Rattle.std.proofs.Common.{◌≡◌, ℕ, zero, suc, ◌-◌, ◌≤◌, Bool, true, false, eqb, List, [], ◌∷◌, ◌++◌, length, take, get_or, None, Ok, Option, refl, sym, ap, ◌∙◌, append-nil, arith, pos, ◌-ℤ◌}
use Rattle.std.specs.Prelude.{nat_lt, slice_range}
use Rattle.std.specs.Str.Parse.{digits_value}
use Rattle.std.proofs.lemmas.Bool.{eqb-true}
use Rattle.std.proofs.lemmas.Int.{ints}
use Rattle.fx_rational.specs.Decimal.{Decimal}
use Rattle.fx_fraction.specs.DecimalOf.{decimal_of, decimal_from, fewest_places, trimmed, within_limits}
use Rattle.fx_fraction.specs.Numeral.{Numeral, Sign, unwritten, minus, part_text, part_digits, is_minus, is_number, sign_text}
use Rattle.fx_fraction.proofs.Numerals.{numeral_back}
use Rattle.fx_text.specs.Leading.{IsUnsigned, IsLeading, IsEnd, sign_end}

-- a numeral without a power of ten
abbrev plain : Sign → List ℕ → Option (List ℕ) → Numeral
plain sign whole part = record { sign = sign; whole = whole; part = part; power = None }

plain_is : (sign : Sign) (whole : List ℕ) (part : Option (List ℕ)) → is_number (whole ++ part_digits part) ≡ true
    → decimal_of (sign_text sign ++ (whole ++ part_text part))
    ≡ within_limits (is_minus sign)
    (trimmed (digits_value 10 (whole ++ part_digits part)) (length (part_digits part)))
unfolding decimal_of
plain_is sign whole part digits =
    let size = digits_value 10 (whole ++ part_digits part) in
    let places : pos (length (part_digits part)) -ℤ pos 0 ≡ pos (length (part_digits part)) = omega (arith, ints) in
    ap (λ l. decimal_of (sign_text sign ++ (whole ++ l))) (sym (append-nil (part_text part)))
    ∙ ap decimal_from (numeral_back (plain sign whole part) (record { digits = digits; power = refl }))
    ∙ ap (λ z. within_limits (is_minus sign) (fewest_places size z)) places

-- the sign by where it ends
signed_is : (text : List ℕ) (end : ℕ) (b : Bool) → eqb (get_or text 0 0) 45 ≡ b → (start : ℕ) → start ≡ sign_end text →
    start ≤ end
    → (sign : Sign) × (is_minus sign ≡ nat_lt 0 start) × (take end text ≡ sign_text sign ++ slice_range text start end)
signed_is text end true e start is le = let one : start ≡ 1 = is ∙ rw e refl in by text end e start one le
  where
    by : (xs : List ℕ) (n : ℕ) → eqb (get_or xs 0 0) 45 ≡ true → (start : ℕ) → start ≡ 1 → start ≤ n
        → (sign : Sign) × (is_minus sign ≡ nat_lt 0 start) × (take n xs ≡ sign_text sign ++ slice_range xs start n)
    by [] n e start one le = absurd cc
    by (x ∷ xs) zero e start one le = absurd (omega (arith, one))
    by (x ∷ xs) (suc n) e start one le =
        let k : n ≡ suc n - 1 = omega arith in (
          minus,
          ap (nat_lt 0) (sym one),
          ap (λ y. y ∷ take n xs) (eqb-true x 45 e) ∙ ap (λ m. 45 ∷ take m xs) k
              ∙ ap (λ s. 45 ∷ slice_range (x ∷ xs) s (suc n)) (sym one),
        )
signed_is text end false e start is le =
    let none : start ≡ 0 = is ∙ rw e refl in
    let k : end ≡ end - 0 = omega arith in
    (unwritten, ap (nat_lt 0) (sym none), ap (λ m. take m text) k ∙ ap (λ s. slice_range text s end) (sym none))

pub leads : (text : List ℕ) (start size places end : ℕ) (d : Decimal) → start ≡ sign_end text →
    IsUnsigned text start size places end → IsEnd text end
    → within_limits (nat_lt 0 start) (trimmed size places) ≡ Ok d → IsLeading text d end
leads text start size places end d is u stop value =
    let s = signed_is text end (eqb (get_or text 0 0) 45) refl start is u.after in
    record {
      within = u.within;
      number = ap decimal_of (s.2 ∙ ap (λ l. sign_text s.0 ++ l) u.text_is) ∙ plain_is s.0 u.whole u.part u.digits
          ∙ ap (λ b. within_limits b
          (trimmed (digits_value 10 (u.whole ++ part_digits u.part)) (length (part_digits u.part)))) s.1
          ∙ ap (λ n. within_limits (nat_lt 0 start) (trimmed n (length (part_digits u.part)))) (sym u.value)
          ∙ ap (λ n. within_limits (nat_lt 0 start) (trimmed size n)) (sym u.places_are) ∙ value;
      stop = stop;
    }
