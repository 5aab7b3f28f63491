-- Digits read one by one.
use Rattle.std.proofs.Common.{◌≡◌, ℕ, zero, suc, ◌+◌, ◌*◌, ◌-◌, ◌<◌, ◌≤◌, ◌^◌, Bool, true, false, cond, eqb, List, [], ◌∷◌, ◌++◌, length, get_or, take, drop, Some, None, length-drop, refl, ap, sym, ◌∙◌, arith}
use Rattle.std.specs.Char.{digit_value, is_ascii_digit}
use Rattle.std.specs.Str.Parse.{digits_value_after}
use Rattle.std.proofs.lemmas.Str.{digit_value_digit}
use Rattle.std.proofs.lemmas.List.Sums.{prefix_len-le-length}
use Rattle.std.proofs.lemmas.List.Folds.{length-prefix_len}
use Rattle.std.proofs.Math.Nat.{mul-le-mul_left, mul-le-mul_right, mul_assoc, one-le-pow, pow-suc, pow-succ'}
use Rattle.fx_model.proofs.Digits.{digit_range}
use Rattle.fx_fraction.specs.Numeral.{digit_count, first_digits, part_of, part_digits}
use Rattle.fx_fraction.specs.ReadParts.{IsBelowTens}

pub digit_is : (c : ℕ) → is_ascii_digit c ≡ true → (digit_value c ≡ c - 48) × (c - 48 < 10)
digit_is c e = let r = digit_range c e in let d = digit_value_digit c r in (omega (arith, d), omega (arith, r))

-- one more digit
pub after_more : (n : ℕ) (f : List ℕ) (i : ℕ) → i < length f →
    digits_value_after 10 n (take (i + 1) f) ≡ digits_value_after 10 n (take i f) * 10 + digit_value (get_or f i 0)
after_more n [] i lt = absurd (omega arith)
after_more n (c ∷ cs) zero lt = refl
after_more n (c ∷ cs) (suc i) lt =
    let e : suc i + 1 ≡ suc (i + 1) = omega arith in rw e (after_more (n * 10 + digit_value c) cs i (omega arith))

-- the count of the first digits, by index
pub digit_count_is : (f : List ℕ) (i : ℕ) → i ≤ length f → ((k : ℕ) → k < i → is_ascii_digit (get_or f k 0) ≡ true) →
    (i < length f → is_ascii_digit (get_or f i 0) ≡ false) → digit_count f ≡ i
digit_count_is [] i le below here = omega arith
digit_count_is (c ∷ cs) zero le below here = let e : is_ascii_digit c ≡ false = here (omega arith) in rw e refl
digit_count_is (c ∷ cs) (suc i) le below here =
    let e : is_ascii_digit c ≡ true = below 0 (omega arith) in
    let k = digit_count_is cs i (omega arith) (λ j lt. below (suc j) (omega arith)) (λ lt. here (omega arith)) in
    rw e (omega (arith, k))

-- digits behind digits
pub digits_after_append : (n : ℕ) (xs ys : List ℕ) →
    digits_value_after 10 n (xs ++ ys) ≡ digits_value_after 10 (digits_value_after 10 n xs) ys
digits_after_append n [] ys = refl
digits_after_append n (x ∷ xs) ys = digits_after_append (n * 10 + digit_value x) xs ys

pub part_few : (text : List ℕ) → length (part_digits (part_of text)) ≤ length text
part_few text = by (eqb (get_or text 0 0) 46)
  where
    by : (b : Bool) → length (part_digits (cond b (Some (first_digits (drop 1 text))) None)) ≤ length text
    by true =
        let e = length-prefix_len is_ascii_digit (drop 1 text) in
        let k = prefix_len-le-length is_ascii_digit (drop 1 text) in
        let d = length-drop 1 text in
        omega (arith, e, k, d)
    by false = omega arith

-- what stays below 10^19 with a digit more
pub below_tens_room : (n k : ℕ) → 0 < k → IsBelowTens n k → n < 10 ^ 18
below_tens_room n zero lt h = absurd (omega arith)
below_tens_room n (suc k) lt h =
    let p = one-le-pow k 10 (omega arith) in
    let e = pow-suc 10 k in
    let up : (n + 1) * 10 ≤ (n + 1) * 10 ^ suc k = mul-le-mul_left (n + 1) (omega (arith, p, e)) in
    omega (arith, up, h)

pub below_tens_more : (n d k : ℕ) → d < 10 → IsBelowTens n (suc k) → IsBelowTens (n * 10 + d) k
below_tens_more n d k lt h =
    let up : (n * 10 + d + 1) * 10 ^ k ≤ (n + 1) * 10 * 10 ^ k = mul-le-mul_right (10 ^ k) (omega arith) in
    let e : (n + 1) * 10 ^ suc k ≡ (n + 1) * 10 * 10 ^ k = ap (λ (p : ℕ). (n + 1) * p) (pow-succ' 10 k)
    ∙ sym (mul_assoc (n + 1) 10 (10 ^ k)) in
    omega (arith, up, e, h)
