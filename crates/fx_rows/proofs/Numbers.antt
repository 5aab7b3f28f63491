-- What stands in a text that a number is spelled by: digits, signs, a point and the letter of a power, and nothing
-- else.
use Rattle.std.proofs.Common.{◌≡◌, ℕ, ◌-◌, ◌<◌, ◌≤◌, Bool, true, false, eqb, List, [], ◌∷◌, ◌++◌, length, get_or, Option, Some, None, Ok, refl, sym, ap, subst, ◌∙◌, arith, rules, tests}
use Rattle.std.specs.Prelude.{◌||◌, ◌==◌, nat_lt, Result}
use Rattle.std.specs.List.{All, list_any}
use Rattle.std.specs.Char.{is_ascii_digit}
use Rattle.std.specs.Str.{all_ascii_digits}
use Rattle.std.proofs.lemmas.List.Elements.{All-nil, All-cons, All-append}
use Rattle.std.proofs.lemmas.List.Folds.{list_any_none}
use Rattle.std.proofs.lemmas.List.Splits.{slice_split_none}
use Rattle.std.proofs.lemmas.List.{get_or_past}
use Rattle.std.proofs.lemmas.Bool.{eqb-true, ltb-true, ltb-false, and_parts}
use Rattle.csv.specs.Records.{field_at}
use Rattle.fx_rational.specs.Decimal.{Decimal, decimal_value}
use Rattle.fx_fraction.specs.Numeral.{Sign, unwritten, plus, minus, Power, Numeral, sign_text, part_text, power_text, numeral_text, part_digits, is_number, is_e, is_power, IsNumeral, numeral_of}
use Rattle.fx_fraction.specs.DecimalOf.{decimal_of, decimal_from}
use Rattle.fx_fraction.proofs.Numerals.{numeral_joined}
use Rattle.fx_rows.specs.Line.{is_return, is_special, has_mark, line_fields, pieces, plain_fields}
use Rattle.fx_model.specs.Function.{Input}
use Rattle.fx_model.specs.Rows.{is_given}
use Rattle.fx_model.proofs.Digits.{digit_range}
use Rattle.fx_rows.specs.Blanks.{is_row_blank, without_blanks}
use Rattle.fx_rows.specs.Values.{field_value, after_value, values_from, row_of_fields}
use Rattle.fx_rows.specs.declared.fault.RowKind.{RowKind}
use Rattle.fx_rows.proofs.Read.{in_range}
use Rattle.fx_rows.proofs.Trims.{kept_whole}

-- a test that no byte of a number passes
pub record Spares (bad : ℕ → Bool) : Type 0 where
  pub digit : (c : ℕ) → is_ascii_digit c ≡ true → bad c ≡ false
  pub plus_sign : bad 43 ≡ false
  pub minus_sign : bad 45 ≡ false
  pub point : bad 46 ≡ false
  pub letter : (c : ℕ) → is_e c ≡ true → bad c ≡ false

module _ (bad : ℕ → Bool) (h : Spares bad) where
  abbrev Spared : List ℕ → Type 0
  Spared xs = All (λ x. bad x ≡ false) xs

  digits_spared : (ds : List ℕ) → all_ascii_digits ds ≡ true → Spared ds
  digits_spared [] e = All-nil (λ x. bad x ≡ false)
  digits_spared (d ∷ ds) e =
      let b = and_parts (is_ascii_digit d) (all_ascii_digits ds) e in
      All-cons (λ x. bad x ≡ false) d ds (h.digit d b.0) (digits_spared ds b.1)

  one_spared : (x : ℕ) (xs : List ℕ) → bad x ≡ false → Spared xs → Spared (x ∷ xs)
  one_spared x xs e s = All-cons (λ x. bad x ≡ false) x xs e s

  in_two : (xs ys : List ℕ) → Spared xs → Spared ys → Spared (xs ++ ys)
  in_two xs ys s t = All-append (λ x. bad x ≡ false) xs ys s t

  digits_front : (xs ys : List ℕ) → all_ascii_digits (xs ++ ys) ≡ true →
      (all_ascii_digits xs ≡ true) × (all_ascii_digits ys ≡ true)
  digits_front [] ys e = (refl, e)
  digits_front (x ∷ xs) ys e =
      let b = and_parts (is_ascii_digit x) (all_ascii_digits (xs ++ ys)) e in
      let r = digits_front xs ys b.1 in
      (rw (b.0, r.0) refl, r.1)

  sign_spared : (s : Sign) → Spared (sign_text s)
  sign_spared unwritten = All-nil (λ x. bad x ≡ false)
  sign_spared plus = one_spared 43 [] h.plus_sign (All-nil (λ x. bad x ≡ false))
  sign_spared minus = one_spared 45 [] h.minus_sign (All-nil (λ x. bad x ≡ false))

  part_spared : (p : Option (List ℕ)) → all_ascii_digits (part_digits p) ≡ true → Spared (part_text p)
  part_spared None e = All-nil (λ x. bad x ≡ false)
  part_spared (Some ds) e = one_spared 46 ds h.point (digits_spared ds e)

  power_spared : (p : Option Power) → is_power p ≡ true → Spared (power_text p)
  power_spared None e = All-nil (λ x. bad x ≡ false)
  power_spared (Some p) e =
      let b = and_parts (is_e p.letter) (is_number p.digits) e in
      one_spared p.letter (sign_text p.sign ++ p.digits) (h.letter p.letter b.0)
      (in_two (sign_text p.sign) p.digits (sign_spared p.sign)
      (digits_spared p.digits (and_parts (all_ascii_digits p.digits) (nat_lt 0 (length p.digits)) b.1).0))

  numeral_spared : (n : Numeral) → IsNumeral n → Spared (numeral_text n)
  numeral_spared n k =
      let d =
      digits_front n.whole (part_digits n.part)
      (and_parts (all_ascii_digits (n.whole ++ part_digits n.part))
      (nat_lt 0 (length (n.whole ++ part_digits n.part))) k.digits).0 in
      in_two (sign_text n.sign) (n.whole ++ (part_text n.part ++ power_text n.power)) (sign_spared n.sign)
      (in_two n.whole (part_text n.part ++ power_text n.power) (digits_spared n.whole d.0)
      (in_two (part_text n.part) (power_text n.power) (part_spared n.part d.1) (power_spared n.power k.power)))

  pub number_spared : (text : List ℕ) (d : Decimal) → Ok d ≡ decimal_of text → Spared text
  unfolding decimal_of
  number_spared text d e = by (numeral_of text) refl
    where
      by : (o : Option Numeral) → numeral_of text ≡ o → Spared text
      by None s = let m : Ok d ≡ decimal_from None = e ∙ ap decimal_from s in absurd cc
      by (Some n) s = let j = numeral_joined text n s in subst Spared j.1 (numeral_spared n j.0)

-- ---- a line that is a number

higher : (k c : ℕ) → k < c → eqb c k ≡ false
higher k c lt = search (rules, tests)

lower : (k c : ℕ) → c < k → eqb c k ≡ false
lower k c lt = search (rules, tests)

letter_range : (c : ℕ) → is_e c ≡ true → (69 ≤ c) × (c ≤ 101)
letter_range c e = by (eqb c 101) refl (eqb c 69) refl e
  where
    by : (p : Bool) → eqb c 101 ≡ p → (q : Bool) → eqb c 69 ≡ q → (p || q) ≡ true → (69 ≤ c) × (c ≤ 101)
    by true s q t e = let k = eqb-true c 101 s in (omega arith, omega arith)
    by false s true t e = let k = eqb-true c 69 t in (omega arith, omega arith)
    by false s false t e = absurd cc

-- a test that only bytes below the digits and the signs pass, or a comma, or bytes above the letters
spares_by : (bad : ℕ → Bool) → ((c : ℕ) → 45 ≤ c → c ≤ 101 → bad c ≡ false) → bad 43 ≡ false → Spares bad
spares_by bad h p = record {
  digit = λ c e. (let r = digit_range c e in h c (omega (arith, r.0)) (omega (arith, r.1)));
  plus_sign = p;
  minus_sign = h 45 (omega arith) (omega arith);
  point = h 46 (omega arith) (omega arith);
  letter = λ c e. (let r = letter_range c e in h c (omega (arith, r.0)) (omega (arith, r.1)));
}

special_spares : Spares is_special
special_spares =
    spares_by is_special (λ c lo hi. rw (
      higher 34 c (omega arith),
      higher 13 c (omega arith),
      higher 10 c (omega arith),
    ) refl) refl

return_spares : Spares is_return
return_spares = spares_by is_return (λ c lo hi. higher 13 c (omega arith)) refl

pub comma_spares : Spares (λ b. b == 44)
comma_spares = spares_by (λ b. b == 44) (λ c lo hi. higher 44 c (omega arith)) refl

mark_spares : Spares (λ b. b == 0xEF)
mark_spares = spares_by (λ b. b == 0xEF) (λ c lo hi. lower 0xEF c (omega arith)) refl

blank_spares : Spares is_row_blank
blank_spares = spares_by is_row_blank (λ c lo hi. rw (higher 32 c (omega arith), higher 9 c (omega arith)) refl) refl

module _ (line : List ℕ) (d : Decimal) (read : Ok d ≡ decimal_of line) where
  pub no_special : list_any is_special line ≡ false
  no_special = list_any_none is_special line (number_spared is_special special_spares line d read)

  pub no_return : list_any is_return line ≡ false
  no_return = list_any_none is_return line (number_spared is_return return_spares line d read)

  pub no_mark : has_mark line ≡ false
  no_mark = by line (number_spared (λ b. b == 0xEF) mark_spares line d read)
    where
      by : (xs : List ℕ) → All (λ b. (b == 0xEF) ≡ false) xs → has_mark xs ≡ false
      by [] s = refl
      by (x ∷ xs) s = let e : eqb x 0xEF ≡ false = s 0 0 (omega arith) in rw e refl

  no_blank : (k : ℕ) → is_row_blank (get_or line k 0) ≡ false
  no_blank k = by (nat_lt k (length line)) refl
    where
      by : (t : Bool) → nat_lt k (length line) ≡ t → is_row_blank (get_or line k 0) ≡ false
      by true e = number_spared is_row_blank blank_spares line d read k 0 (ltb-true k (length line) e)
      by false e = rw (get_or_past line k 0 (ltb-false k (length line) e)) refl

  without_none : without_blanks line ≡ line
  without_none = sym (kept_whole line (no_blank 0) (no_blank (length line - 1)))

  -- as a field it is the value of an input that may be given it
  pub number_value : (x : Input) → is_given x (decimal_value d) ≡ true → Ok d ≡ field_value x (Some line)
  number_value x t = in_range x d (decimal_of (without_blanks line)) (read ∙ ap decimal_of (sym without_none)) t

  one_field : line_fields line ≡ plain_fields line → line_fields line ≡ Some (line ∷ [])
  unfolding decimal_of numeral_of
  one_field e = e ∙ by line read
      ∙ ap Some (slice_split_none (λ b. b == 44) line (number_spared (λ b. b == 44) comma_spares line d read))
    where
      by : (xs : List ℕ) → Ok d ≡ decimal_of xs → plain_fields xs ≡ Some (pieces xs)
      by [] r = absurd cc
      by (x ∷ xs) r = refl

  -- it is the row of its one input
  pub one_value : (x : Input) → is_given x (decimal_value d) ≡ true → line_fields line ≡ plain_fields line
      → row_of_fields (x ∷ []) (0 ∷ []) (line_fields line) ≡ Some (record { values = d ∷ []; fault = None })
  unfolding values_from field_at
  one_value x t e =
      ap (row_of_fields (x ∷ []) (0 ∷ [])) (one_field e)
      ∙ ap (λ (r : Result Decimal RowKind). Some (after_value 0 r (record { values = []; fault = None })))
      (sym (number_value x t))
