-- Bytes written and read one by one.
use Rattle.std.proofs.Common.{◌≡◌, ℕ, zero, suc, ◌+◌, ◌-◌, ◌*◌, ◌/◌, ◌%◌, ◌^◌, ◌<◌, ◌≤◌, lit≤, List, [], ◌∷◌, ◌++◌, length, get_or, take, drop, set, subst, length-take-le, length-drop, sym, ap, ◌∙◌, arith, append_assoc, length-set}
use Rattle.std.proofs.Math.Nat.{pow-le-pow_right}
use Rattle.std.proofs.lemmas.List.{take_more_set, drop-drop}
use Rattle.std.specs.Prelude.{Contains}
use Rattle.fx_model.specs.LawfulProgram.{widths}
use Rattle.fx_mixed.specs.Packed.{bytes_of, number_of}
use Rattle.fx_mixed.proofs.Complements.{in_bytes, number_short}

-- one byte more
pub byte_more : (bs : List ℕ) (n k rest all : ℕ) → length bs ≡ n → k < n →
    take k bs ++ bytes_of (n - k) rest ≡ bytes_of n all
    → (length (set bs k (rest % 256)) ≡ n) ×
    (take (k + 1) (set bs k (rest % 256)) ++ bytes_of (n - (k + 1)) (rest / 256) ≡ bytes_of n all)
byte_more bs n k rest all len lt h =
    let one : n - k ≡ suc (n - (k + 1)) = omega arith in (
      length-set bs k (rest % 256) ∙ len,
      ap (λ t. t ++ bytes_of (n - (k + 1)) (rest / 256)) (take_more_set bs k (rest % 256) (omega arith))
          ∙ append_assoc (take k bs) (rest % 256 ∷ []) (bytes_of (n - (k + 1)) (rest / 256))
          ∙ ap (λ (m : ℕ). take k bs ++ bytes_of m rest) (sym one) ∙ h,
    )

-- a byte more fits in 64 bits
pub room : (all k n b : ℕ) → all < 256 ^ k → k < n → n ≤ 8 → b < 256 → all * 256 + b < 2 ^ 64
room all k n b lt few le small =
    let p : 256 ^ k ≤ 256 ^ 7 = pow-le-pow_right {n = 256} (lit≤ tt) (let s : k ≤ 7 = omega arith in s) in omega arith

-- ---- k bytes from byte a on
part : (a k : ℕ) (xs : List ℕ) → take ((a + k) - a) (drop a xs) ≡ take k (drop a xs)
part a k xs = let e : (a + k) - a ≡ k = omega arith in ap (λ (m : ℕ). take m (drop a xs)) e

pub part_counted : (a k : ℕ) (xs : List ℕ) → a + k ≤ length xs → length (take ((a + k) - a) (drop a xs)) ≡ k
part_counted a k xs le =
    ap length (part a k xs) ∙ length-take-le k (drop a xs) (let d = length-drop a xs in omega arith)

pub part_written : (a k : ℕ) (xs ys : List ℕ) →
    take a xs ++ (ys ++ drop ((a + k) - a) (drop a xs)) ≡ take a xs ++ ys ++ drop (a + k) xs
part_written a k xs ys =
    let e : (a + k) - a ≡ k = omega arith in
    ap (λ (m : ℕ). take a xs ++ (ys ++ drop m (drop a xs))) e ∙ ap (λ t. take a xs ++ (ys ++ t)) (drop-drop k a xs)
    ∙ sym (append_assoc (take a xs) ys (drop (a + k) xs))

part_fits : (a k : ℕ) (xs : List ℕ) → ((i : ℕ) → get_or xs i 0 < 256) → (i : ℕ) → get_or (take k (drop a xs)) i 0 < 256
part_fits zero zero xs fits i = omega arith
part_fits zero (suc k) [] fits i = omega arith
part_fits zero (suc k) (x ∷ xs) fits zero = fits 0
part_fits zero (suc k) (x ∷ xs) fits (suc i) = part_fits zero k xs (λ j. fits (suc j)) i
part_fits (suc a) zero [] fits i = omega arith
part_fits (suc a) (suc k) [] fits i = omega arith
part_fits (suc a) k (x ∷ xs) fits i = part_fits a k xs (λ j. fits (suc j)) i

-- the number of a word's bytes has its bits
pub part_short : (n a : ℕ) (xs : List ℕ) (r : ℕ) → Contains widths n → a + n / 8 ≤ length xs →
    ((i : ℕ) → get_or xs i 0 < 256) → r ≡ number_of (take ((a + n / 8) - a) (drop a xs)) → r < 2 ^ n
part_short n a xs r known le fits e =
    let k = n / 8 in
    let short = number_short (take k (drop a xs)) (part_fits a k xs fits) in
    let many : length (take k (drop a xs)) ≡ k = sym (ap length (part a k xs)) ∙ part_counted a k xs le in
    let small : number_of (take k (drop a xs)) < 2 ^ n =
    subst (λ (m : ℕ). number_of (take k (drop a xs)) < m) (ap (λ (m : ℕ). 256 ^ m) many
    ∙ (in_bytes n known).bytes) short in
    subst (λ (m : ℕ). m < 2 ^ n) (sym (e ∙ ap number_of (part a k xs))) small

pub part_number : (n a : ℕ) (xs : List ℕ) →
    number_of (take ((a + n / 8) - a) (drop a xs)) ≡ number_of (take (n / 8) (drop a xs))
part_number n a xs = ap number_of (part a (n / 8) xs)
