-- C reads the text of a number of 64 bits as this number.
use Rattle.std.proofs.Common.{◌≡◌, ◌≢◌, ℕ, suc, ◌^◌, ◌<◌, ◌≤◌, ℤ, pos, negsuc, nat_eq, cond, Bool, true, false, ◌++◌, unsigned_abs, refl, subst, arith, codes}
use Rattle.std.specs.Fmt.{decimal, digits}
use Rattle.std.proofs.lemmas.Fmt.{decimal_is_IsNumeral, first_decimal}
use Rattle.std.proofs.lemmas.Int.{ints}
use Rattle.fx_model.specs.Machine.{IsWord}
use Rattle.fx_model.specs.LawfulProgram.{IsPoint}
use Rattle.fx_model.proofs.Wide.{held, is_word_from}
use Rattle.fx_c99.specs.CHeader.{number_text}
use Rattle.fx_c99.specs.CHeaderMeaning.{IsConstant, IsCNumber, constant, turned, lessened}

constant_is : (n : ℕ) → n < 2 ^ 63 → IsConstant (decimal n) n
constant_is n lt =
    let h = decimal_is_IsNumeral n (omega arith) in
    record { digits = h.0; first = λ some. first_decimal n some (omega arith); value = h.1; fits = lt }

least_is : IsCNumber (codes "(-9223372036854775807 - 1)") (negsuc 9223372036854775807)
unfolding digits
least_is =
    lessened (decimal 9223372036854775807) (decimal 1) 9223372036854775807 1
    (constant_is 9223372036854775807 (omega arith)) (constant_is 1 (omega arith)) (omega arith)

equal_of : (m n : ℕ) → nat_eq m n ≡ true → m ≡ n
equal_of m n e = grind arith

different_of : (m n : ℕ) → nat_eq m n ≡ false → m ≢ n
different_of m n e = grind arith

pub number_read : (v : ℤ) → IsWord 64 v → IsCNumber (number_text v) v
number_read (pos m) h =
    let high = (held 64 (pos m) h).high in constant (decimal m) m (constant_is m (omega (arith, ints)))
number_read (negsuc m) h = by (nat_eq (suc m) (2 ^ 63)) refl
  where
    most : suc m ≤ 2 ^ 63
    most = let low = (held 64 (negsuc m) h).low in omega (arith, ints)

    by : (b : Bool) → nat_eq (suc m) (2 ^ 63) ≡ b →
        IsCNumber (cond b (codes "(-9223372036854775807 - 1)") (codes "(-" ++ (decimal (suc m) ++ codes ")"))) (negsuc m)
    by true e =
        let is : 9223372036854775807 ≡ m = omega (arith, equal_of (suc m) (2 ^ 63) e) in
        subst (λ (n : ℕ). IsCNumber (codes "(-9223372036854775807 - 1)") (negsuc n)) is least_is
    by false e =
        turned (decimal (suc m)) (suc m) (constant_is (suc m) (omega (arith, most, different_of (suc m) (2 ^ 63) e)))

-- ---- words of 64 bits
pub count_fits : (n : ℕ) → n ≤ 4000 → IsWord 64 (pos n)
count_fits n le = is_word_from 64 (pos n) record { low = omega (arith, ints); high = omega (arith, ints) }

pub point_fits : (f : ℤ) → IsPoint f → IsWord 64 f
point_fits f h =
    let low = h.low in let high = h.high in
    is_word_from 64 f record { low = omega (arith, ints); high = omega (arith, ints) }

pub mantissa_fits : (m : ℤ) → unsigned_abs m < 2 ^ 62 → IsWord 64 m
mantissa_fits (pos n) lt = is_word_from 64 (pos n) record { low = omega (arith, ints); high = omega (arith, ints) }
mantissa_fits (negsuc n) lt = is_word_from 64 (negsuc n) record { low = omega (arith, ints); high = omega (arith, ints) }
