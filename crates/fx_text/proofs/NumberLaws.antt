-- A number has one spelling.
use Rattle.std.proofs.Common.{◌≡◌, ℕ, zero, suc, ◌^◌, ◌<◌, Bool, true, false, cond, eqb, List, [], ◌∷◌, length, get_or, drop, Option, Some, None, ℤ, pos, negsuc, ◌⊎◌, refl, sym, ap, subst, ◌∙◌, inl, inr, arith, rules, tests}
use Rattle.std.specs.Prelude.{option_map}
use Rattle.std.specs.Fmt.{decimal, signed_decimal}
use Rattle.std.specs.Str.{all_ascii_digits}
use Rattle.std.specs.Str.Parse.{digits_value}
use Rattle.std.proofs.lemmas.Fmt.{decimal-digits_value, digits_decimal, digits_value-decimal, decimal_nonempty, first_decimal, decimal_digit}
use Rattle.std.proofs.lemmas.Bool.{eqb-true}
use Rattle.std.proofs.lemmas.Int.{ints}
use Rattle.std.proofs.lemmas.Str.Parse.{digit_at}
use Rattle.std.proofs.lemmas.Option.{cond_some}
use Rattle.fx_fraction.specs.Digits.{digits_of}
use Rattle.fx_model.proofs.Digits.{digits_model}
use Rattle.fx_text.specs.Numbers.{has_good_front, whole_of, negative_number, integer_of}
use Rattle.fx_text.specs.Laws.{IsNarrow}
use Rattle.fx_text.proofs.Choices.{chosen}

-- what the test of a number's front says, both ways
pub good_front : (f : List ℕ) → has_good_front f ≡ true → (0 < length f) × (get_or f 0 0 ≡ 48 → length f ≡ 1)
good_front [] e = absurd cc
good_front (d ∷ []) e = (omega arith, λ _. refl)
good_front (d ∷ x ∷ ds) e = (omega arith, λ h. search (rules, tests))

front_is_good : (f : List ℕ) → 0 < length f → (length f ≡ 1) ⊎ (48 < get_or f 0 0) → has_good_front f ≡ true
front_is_good [] lt h = absurd (omega arith)
front_is_good (d ∷ []) lt h = refl
front_is_good (d ∷ x ∷ ds) lt (inl h) = absurd (omega (arith, h))
front_is_good (d ∷ x ∷ ds) lt (inr h) = search (rules, tests)

-- a number without sign has one spelling
pub whole_takes : (f : List ℕ) (n : ℕ) → n < 2 ^ 64 → whole_of f ≡ Some n → f ≡ decimal n
unfolding whole_of
whole_takes f n lt e =
    let a = passes (has_good_front f) (digits_of f) n e in
    let b = cond_some (all_ascii_digits f) (digits_value 10 f) n a.1 in
    let g = good_front f a.0 in
    sym (subst (λ m. decimal m ≡ f) b.1 (decimal-digits_value digits_model f b.0 g.0 g.1 (omega arith)))
  where
    passes : (b : Bool) (x : Option ℕ) (n : ℕ) → cond b x None ≡ Some n → (b ≡ true) × (x ≡ Some n)
    passes true x n e = (refl, e)
    passes false x n e = absurd cc

pub whole_again : (n : ℕ) → n < 2 ^ 64 → whole_of (decimal n) ≡ Some n
unfolding whole_of
whole_again n lt =
    let front : (length (decimal n) ≡ 1) ⊎ (48 < get_or (decimal n) 0 0) = front_of n lt in
    rw (
      front_is_good (decimal n) (decimal_nonempty n lt) front,
      digits_decimal digits_model n lt,
      digits_value-decimal digits_model n lt,
    ) refl
  where
    front_of : (n : ℕ) → n < 2 ^ 64 → (length (decimal n) ≡ 1) ⊎ (48 < get_or (decimal n) 0 0)
    front_of zero lt = inl (ap length (decimal_digit 0 (omega arith)))
    front_of (suc n) lt = inr (first_decimal (suc n) (omega arith) lt)

-- ---- with a sign

-- a text that begins with this byte
pub cons_drop : (c : ℕ) (f : List ℕ) → eqb (get_or f 0 0) (suc c) ≡ true → f ≡ suc c ∷ drop 1 f
cons_drop c [] e = absurd (search (rules, tests))
cons_drop c (x ∷ xs) e = ap (λ y. y ∷ xs) (eqb-true x (suc c) e)

-- the size of a number below zero, and of another
pub negative_is : (o : Option ℕ) (z : ℤ) → negative_number o ≡ Some z → (n : ℕ) × (o ≡ Some (suc n)) × (z ≡ negsuc n)
negative_is None z e = absurd cc
negative_is (Some zero) z e = absurd cc
negative_is (Some (suc n)) z e = (n, refl, cc)

pub positive_is : (o : Option ℕ) (z : ℤ) → option_map pos o ≡ Some z → (n : ℕ) × (o ≡ Some n) × (z ≡ pos n)
positive_is None z e = absurd cc
positive_is (Some n) z e = (n, refl, cc)

-- what 64 bits say of a number's size
narrow_pos : (n : ℕ) → IsNarrow (pos n) → n < 2 ^ 63
narrow_pos n h = omega (arith, ints, h.0, h.1)

narrow_neg : (n : ℕ) → IsNarrow (negsuc n) → n < 2 ^ 63
narrow_neg n h = omega (arith, ints, h.0, h.1)

-- a number has one spelling
pub integer_takes : (f : List ℕ) (z : ℤ) → IsNarrow z → integer_of f ≡ Some z → f ≡ signed_decimal z
unfolding integer_of
integer_takes f z narrow e =
    elim (chosen (eqb (get_or f 0 0) 45) (negative_number (whole_of (drop 1 f))) (option_map pos (whole_of f))
    (Some z) e) [
      | inl h ↦
          let n = negative_is (whole_of (drop 1 f)) z h.1 in
          let small = narrow_neg n.0 (subst IsNarrow n.2 narrow) in
          cons_drop 44 f h.0 ∙ ap (λ ds. 45 ∷ ds) (whole_takes (drop 1 f) (suc n.0) (omega arith) n.1)
          ∙ ap signed_decimal (sym n.2)
      | inr h ↦
          let n = positive_is (whole_of f) z h.1 in
          let small = narrow_pos n.0 (subst IsNarrow n.2 narrow) in
          whole_takes f n.0 (omega arith) n.1 ∙ ap signed_decimal (sym n.2)
    ]

-- a number without sign begins with a digit
no_sign : (n : ℕ) → n < 2 ^ 64 → eqb (get_or (decimal n) 0 0) 45 ≡ false
no_sign n lt =
    let r =
    digit_at (decimal n) 0 (digits_model.to (decimal n) (digits_decimal digits_model n lt))
    (decimal_nonempty n lt) in
    search (rules, tests)

pub integer_again : (z : ℤ) → IsNarrow z → integer_of (signed_decimal z) ≡ Some z
unfolding integer_of
integer_again (pos n) narrow =
    let lt = narrow_pos n narrow in rw (no_sign n (omega arith), whole_again n (omega arith)) refl
integer_again (negsuc n) narrow = let lt = narrow_neg n narrow in rw (whole_again (suc n) (omega arith)) refl
