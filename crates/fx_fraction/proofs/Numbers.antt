-- A number of digits, read in 64 bits.
use Rattle.std.proofs.Common.{◌≡◌, ℕ, ◌+◌, ◌*◌, ◌-◌, ◌<◌, ◌≤◌, Bool, true, false, ◌&&◌, List, length, get_or, take, Some, None, if◌then◌else◌, refl, subst, ◌∙◌, inl, inr, arith, rules, tests}
use Rattle.std.specs.Prelude.{nat_lt, option_map}
use Rattle.std.specs.Char.{is_ascii_digit}
use Rattle.std.specs.Str.{all_ascii_digits}
use Rattle.std.specs.Str.Parse.{AllDigits, digits_value}
use Rattle.std.proofs.lemmas.Str.Parse.{digit_at}
use Rattle.std.proofs.lemmas.Int.Digits.{digits_value_more, digits_more}
use Rattle.std.proofs.lemmas.Bool.{cases_Bool}
use Rattle.std.proofs.lemmas.List.{take_all}
use Rattle.fx_model.proofs.Digits.{is_digit, digits_model}
use Rattle.fx_fraction.specs.Digits.{digits_of, saturated}
use Rattle.fx_fraction.specs.ReadParts.{number_kept}
use Rattle.fx_fraction.proofs.Digits.{digit_is}

-- a byte that is no digit: the text is no number
pub digits_stop : (f : List ℕ) (i : ℕ) → i < length f → is_ascii_digit (get_or f i 0) ≡ false → digits_of f ≡ None
digits_stop f i lt other =
    elim (cases_Bool (all_ascii_digits f)) [
      | inl all ↦ let r = is_digit _ (digit_at f i (digits_model.to f all) lt) in absurd cc
      | inr e ↦ rw e refl
    ]

saturated_more : (n v d : ℕ) → v ≡ saturated n → saturated (saturated (v * 10) + d) ≡ saturated (n * 10 + d)
saturated_more n v d e = omega arith

-- a loop that has read i digits goes on by one
pub digits_go_on : (f : List ℕ) (i v : ℕ) → i < length f → is_ascii_digit (get_or f i 0) ≡ true →
    AllDigits 10 (take i f) → v ≡ saturated (digits_value 10 (take i f))
    → AllDigits 10 (take (i + 1) f) ×
    (saturated (saturated (v * 10) + (get_or f i 0 - 48)) ≡ saturated (digits_value 10 (take (i + 1) f)))
digits_go_on f i v lt one before e =
    let d = digit_is (get_or f i 0) one in (
      digits_more 10 f i lt before (omega (arith, d.0, d.1)),
      saturated_more (digits_value 10 (take i f)) v (get_or f i 0 - 48) e ∙ rw (digits_value_more 10 f i lt, d.0) refl,
    )

-- it ends with all digits read
pub digits_end : (f : List ℕ) (i v : ℕ) → length f ≤ i → AllDigits 10 (take i f) →
    v ≡ saturated (digits_value 10 (take i f)) → Some v ≡ option_map saturated (digits_of f)
digits_end f i v le before e =
    let whole = take_all i f le in
    let one : all_ascii_digits f ≡ true = digits_model.from f (subst (λ ds. AllDigits 10 ds) whole before) in
    rw (one, e, whole) refl

-- of at least one digit
pub number_of_digits : (f : List ℕ) → 0 < length f → option_map saturated (digits_of f) ≡ number_kept f
number_of_digits f some =
    let t : nat_lt 0 (length f) ≡ true = search (rules, tests) in by (all_ascii_digits f) (nat_lt 0 (length f)) t
  where
    by : (b s : Bool) → s ≡ true →
        option_map saturated (if b then Some (digits_value 10 f) else None) ≡ (if b &&
        s then Some (saturated (digits_value 10 f)) else None)
    by true s e = rw e refl
    by false s e = refl
