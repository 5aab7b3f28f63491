-- When a text of digits has no number.
use Rattle.std.proofs.Common.{◌≡◌, ◌<◌, ◌≤◌, ◌^◌, ℕ, List, [], ◌∷◌, Bool, true, false, ◌&&◌, length, Some, None, refl, sym, ap, subst, arith, rules}
use Rattle.std.specs.Prelude.{◌==◌, if◌then◌else◌, nat_le, cond, drop}
use Rattle.std.specs.List.{list_all}
use Rattle.std.specs.Char.{is_ascii_digit, digit_value}
use Rattle.std.specs.Str.Parse.{AllDigits, IsNumeral, digits_value, without_leading_plus}
use Rattle.std.proofs.lemmas.Bool.{and_parts}
use Rattle.fx_model.proofs.Digits.{digit_range}
use Rattle.fx_arguments.specs.Numbers.{is_numeral, number_up_to}
use Rattle.fx_arguments.proofs.Booleans.{and-false}

digit-fits : (c : ℕ) → is_ascii_digit c ≡ true → digit_value c < 10
digit-fits c e = let r = digit_range c e in grind arith

all-are-digits : (t : List ℕ) → list_all is_ascii_digit t ≡ true → AllDigits 10 t
all-are-digits [] e = tt
all-are-digits (c ∷ cs) e =
    let p = and_parts (is_ascii_digit c) (list_all is_ascii_digit cs) e in (digit-fits c p.0, all-are-digits cs p.1)

no-plus : (t : List ℕ) → list_all is_ascii_digit t ≡ true → without_leading_plus t ≡ t
no-plus [] e = refl
no-plus (c ∷ cs) e =
    let p = and_parts (is_ascii_digit c) (list_all is_ascii_digit cs) e in
    let r = digit_range c p.0 in
    let no : (c == 43) ≡ false = search rules in
    ap (λ (b : Bool). drop (cond b 1 0) (c ∷ cs)) no

-- digits that `parse` refuses are above each limit of 64 bits
pub above-each-limit : (limit : ℕ) (t : List ℕ) → limit < 2 ^ 64 → is_numeral t ≡ true
    → (IsNumeral 10 (without_leading_plus t) × (digits_value 10 (without_leading_plus t) < 2 ^ 64) → ⊥) →
    None ≡ number_up_to limit t
above-each-limit limit t small numeral n = by_limit (nat_le (digits_value 10 t) limit) refl where
  first : (nat_le 1 (length t) ≡ true) × ((nat_le (length t) 20 && list_all is_ascii_digit t) ≡ true)
  first = and_parts (nat_le 1 (length t)) (nat_le (length t) 20 && list_all is_ascii_digit t) numeral

  digits : list_all is_ascii_digit t ≡ true
  digits = (and_parts (nat_le (length t) 20) (list_all is_ascii_digit t) first.1).1

  some : 0 < length t
  some = let e = first.0 in search rules

  fits : nat_le (digits_value 10 t) limit ≡ true → ⊥
  fits e =
      let below : digits_value 10 t ≤ limit = search rules in
      let value : digits_value 10 t < 2 ^ 64 = omega arith in
      n (subst (λ (s : List ℕ). IsNumeral 10 s ×
      (digits_value 10 s < 2 ^ 64)) (sym (no-plus t digits)) ((some, all-are-digits t digits), value))

  by_limit : (b : Bool) → nat_le (digits_value 10 t) limit ≡ b →
      None ≡ (if is_numeral t && b then Some (digits_value 10 t) else None)
  by_limit true e = absurd (fits e)
  by_limit false e = ap (λ (b : Bool). if b then Some (digits_value 10 t) else None) (sym (and-false (is_numeral t)))
