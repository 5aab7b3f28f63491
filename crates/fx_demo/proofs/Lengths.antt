-- A source has fewer than 2^32 bytes.
use Rattle.std.proofs.Common.{◌≡◌, ◌<◌, ◌≤◌, ◌+◌, ◌*◌, ◌%◌, ◌^◌, ◌++◌, ℕ, zero, suc, length, codes, refl, arith}
use Rattle.std.specs.Fmt.{decimal}
use Rattle.std.proofs.lemmas.Fmt.{length-decimal-le}
use Rattle.std.proofs.lemmas.List.{length-append}
use Rattle.fx_model.specs.LineText.{numbered_lines}
use Rattle.fx_demo.specs.Source.{demo_source, head_text, result_text, temp_line, two_digits}

-- of a number below 1,000
three : (n : ℕ) → n < 1000 → length (decimal n) ≤ 3
three n small = length-decimal-le 3 n (omega arith) (omega (arith, small)) (omega (arith, small))

temp-short : (i : ℕ) → i < 1000 → length (temp_line i) ≤ 40
temp-short i small =
    let a = codes "  val t" in let d = decimal i in let b = codes " = 0." in let t = two_digits (37 * i % 100) in
    let c = codes " * x + y\n" in
    let of_a : length a ≡ 7 = refl in let of_b : length b ≡ 5 = refl in let of_t : length t ≡ 2 = refl in
    let of_c : length c ≡ 9 = refl in
    omega (
      arith,
      three i small,
      of_a,
      of_b,
      of_t,
      of_c,
      length-append a d,
      length-append (a ++ d) b,
      length-append ((a ++ d) ++ b) t,
      length-append (((a ++ d) ++ b) ++ t) c,
    )

temps-short : (a m : ℕ) → a + m ≤ 1000 → length (numbered_lines temp_line a m) ≤ 40 * m
temps-short a zero few = omega arith
temps-short a (suc m) few =
    omega (
      arith,
      temp-short a (omega (arith, few)),
      temps-short (a + 1) m (omega (arith, few)),
      length-append (temp_line a) (numbered_lines temp_line (a + 1) m),
    )

pub source_short : (n : ℕ) → n ≤ 500 → length (demo_source n) < 2 ^ 32
source_short n few =
    let h = head_text in let t = numbered_lines temp_line 1 n in let r = codes "  t1 + t" in let d = decimal n in
    let e = codes "\n}\n" in
    let of_h : length h ≤ 200 = omega arith in let of_r : length r ≡ 8 = refl in let of_e : length e ≡ 3 = refl in
    omega (
      arith,
      few,
      of_h,
      of_r,
      of_e,
      three n (omega (arith, few)),
      temps-short 1 n (omega (arith, few)),
      length-append h t,
      length-append (h ++ t) (result_text n),
      length-append r d,
      length-append (r ++ d) e,
    )
