-- The digits behind a point are those of one number: of an odd number over 2^n they are n, and the number times 5^n.
use Rattle.std.proofs.Common.{◌≡◌, ◌≢◌, ℕ, zero, suc, ◌+◌, ◌*◌, ◌/◌, ◌%◌, ◌^◌, ◌<◌, ◌≤◌, List, [], ◌∷◌, take, drop, ◌++◌, length, refl, sym, ap, ap₂, subst, ◌∙◌, arith, append_assoc}
use Rattle.std.specs.Prelude.{decimal}
use Rattle.std.proofs.Math.Nat.{pow-suc, one-le-pow, mul-lt-mul_of_pos_right}
use Rattle.std.proofs.Math.Pow.{mod-mod-pow}
use Rattle.std.proofs.lemmas.Fmt.{decimal_step, decimal_digit}
use Rattle.std.proofs.Math.Seq.{take-append_seam, drop-append_seam}
use Rattle.std.proofs.lemmas.List.{append-nil, drop-drop, take-append-drop, length-take-le, length-append, length-map}
use Rattle.std.proofs.lemmas.Nat.{div-add-mod', div-mul-add, mod-mul-add, mod_below, mul-le, pow_pos, pow-add}
use Rattle.fx_model.specs.WordText.{digits_after, pointed}
use Rattle.fx_model.proofs.Spellings.{below_ten}
use Rattle.fx_fraction.proofs.Quanta.{ten_small}
use Rattle.fx_fraction.proofs.Tails.{glyphs, after_zero, after_more, point_some}

pub tens : (n : ℕ) → 10 ^ n ≡ 2 ^ n * 5 ^ n
tens zero = refl
tens (suc n) =
    let step : (2 ^ n * 5 ^ n) * 10 ≡ (2 ^ n * 2) * (5 ^ n * 5) = grind arith in
    pow-suc 10 n ∙ ap (λ (k : ℕ). k * 10) (tens n) ∙ step
    ∙ sym (ap (λ (k : ℕ). k * 5 ^ suc n) (pow-suc 2 n) ∙ ap (λ (k : ℕ). (2 ^ n * 2) * k) (pow-suc 5 n))

-- one digit more, with any factors two and five
joined : (a m d r two five : ℕ) → 5 * m ≡ d * two + r →
    a * ((two * five) * 10) + m * (five * 5) ≡ (a * 10 + d) * (two * five) + r * five
joined a m d r two five h =
    let before : a * ((two * five) * 10) + m * (five * 5) ≡ a * ((two * five) * 10) + (5 * m) * five = grind arith in
    let behind : a * ((two * five) * 10) + (d * two + r) * five ≡ (a * 10 + d) * (two * five) + r * five =
    grind arith in
    before ∙ ap (λ (k : ℕ). a * ((two * five) * 10) + k * five) h ∙ behind

one_more : (a m n d r : ℕ) → 5 * m ≡ d * 2 ^ n + r →
    a * 10 ^ suc n + m * 5 ^ suc n ≡ (a * 10 + d) * 10 ^ n + r * 5 ^ n
one_more a m n d r h =
    ap (λ (k : ℕ). a * k + m * 5 ^ suc n) (pow-suc 10 n ∙ ap (λ (k : ℕ). k * 10) (tens n))
    ∙ ap (λ (k : ℕ). a * ((2 ^ n * 5 ^ n) * 10) + m * k) (pow-suc 5 n)
    ∙ joined a m d r (2 ^ n) (5 ^ n) h ∙ ap (λ (k : ℕ). (a * 10 + d) * k + r * 5 ^ n) (sym (tens n))

-- ---- one step of the division, whatever ends stand behind
scaled : (m d r two ends : ℕ) → 5 * m ≡ d * two + r → 5 * (m * ends) ≡ d * (two * ends) + r * ends
scaled m d r two ends h =
    let before : 5 * (m * ends) ≡ (5 * m) * ends = grind arith in
    let behind : (d * two + r) * ends ≡ d * (two * ends) + r * ends = grind arith in
    before ∙ ap (λ (k : ℕ). k * ends) h ∙ behind

pub digit_is : (n ends m : ℕ) → 5 * (m * 2 ^ ends) / 2 ^ (n + ends) ≡ 5 * m / 2 ^ n
digit_is n ends m =
    let d = 5 * m / 2 ^ n in let r = 5 * m % 2 ^ n in
    let h : 5 * m ≡ d * 2 ^ n + r = let e = div-add-mod' (5 * m) (2 ^ n) in omega (arith, e) in
    let small =
    mul-lt-mul_of_pos_right {m = r} {n = 2 ^ n} {k = 2 ^ ends} (mod_below (5 * m) (2 ^ n) (pow_pos n))
    (pow_pos ends) in
    ap₂ (λ (a b : ℕ). a / b) (scaled m d r (2 ^ n) (2 ^ ends) h) (pow-add 2 n ends)
    ∙ div-mul-add d (2 ^ n * 2 ^ ends) (r * 2 ^ ends) small

pub rest_is : (n ends m : ℕ) → 5 * (m * 2 ^ ends) % 2 ^ (n + ends) ≡ (5 * m % 2 ^ n) * 2 ^ ends
rest_is n ends m =
    let d = 5 * m / 2 ^ n in let r = 5 * m % 2 ^ n in
    let h : 5 * m ≡ d * 2 ^ n + r = let e = div-add-mod' (5 * m) (2 ^ n) in omega (arith, e) in
    let small =
    mul-lt-mul_of_pos_right {m = r} {n = 2 ^ n} {k = 2 ^ ends} (mod_below (5 * m) (2 ^ n) (pow_pos n))
    (pow_pos ends) in
    ap₂ (λ (a b : ℕ). a % b) (scaled m d r (2 ^ n) (2 ^ ends) h) (pow-add 2 n ends)
    ∙ mod-mul-add d (2 ^ n * 2 ^ ends) (r * 2 ^ ends) small

odd_rest : (n m : ℕ) → m % 2 ≡ 1 → 0 < n → (5 * m % 2 ^ n) % 2 ≡ 1
odd_rest zero m odd some = absurd (omega arith)
odd_rest (suc j) m odd some =
    let one : suc j ≡ j + 1 = omega arith in
    ap (λ (k : ℕ). 5 * m % 2 ^ k % 2) one ∙ mod-mod-pow (5 * m) j 1 ∙ (let e : 5 * m % 2 ≡ 1 = omega (arith, odd) in e)

some_rest : (m ends : ℕ) → m % 2 ≡ 1 → m * 2 ^ ends ≢ 0
some_rest m ends odd e =
    let p = pow_pos ends in let k = mul-le 1 1 m (2 ^ ends) (omega (arith, odd)) p in omega (arith, e, k)

-- ---- all digits
spelled : (a n ends m : ℕ) → 0 < a → m < 2 ^ n → (0 < n → m % 2 ≡ 1) → a * 10 ^ n + m * 5 ^ n < 2 ^ 64
    → decimal (a * 10 ^ n + m * 5 ^ n) ≡ decimal a ++ glyphs (digits_after (n + ends) (m * 2 ^ ends))
spelled a zero ends m some below odd small =
    let z : m ≡ 0 = omega (arith, below) in
    let none : m * 2 ^ ends ≡ 0 = rw z (omega arith) in
    let whole : a * 10 ^ 0 + m * 5 ^ 0 ≡ a = omega (arith, z) in
    ap decimal whole ∙ sym (append-nil (decimal a))
    ∙ ap (λ ds. decimal a ++ glyphs ds) (sym (ap (digits_after (0 + ends)) none ∙ after_zero (0 + ends)))
spelled a (suc n) ends m some below odd small =
    let d = 5 * m / 2 ^ n in let r = 5 * m % 2 ^ n in
    let h : 5 * m ≡ d * 2 ^ n + r = let e = div-add-mod' (5 * m) (2 ^ n) in omega (arith, e) in
    let e = one_more a m n d r h in
    let ten = below_ten n m below in
    let front : (a * 10 + d) / 10 ≡ a = omega (arith, ten) in
    let last : (a * 10 + d) % 10 ≡ d = omega (arith, ten) in
    let lower : a * 10 + d ≤ (a * 10 + d) * 10 ^ n + r * 5 ^ n = let t = tens n in let p = pow_pos n in
    let q = mul-le (a * 10 + d) 1 (a * 10 + d) (10 ^ n) (omega arith) (power_some n) in omega (arith, q) in
    let step = decimal_step (a * 10 + d) (omega (arith, some)) (omega (arith, e, small, lower)) in
    let next =
    spelled (a * 10 + d) n ends r (omega (arith, some)) (mod_below (5 * m) (2 ^ n) (pow_pos n))
    (odd_rest n m (odd (omega arith))) (omega (arith, e, small)) in
    let one : suc n + ends ≡ suc (n + ends) = omega arith in
    ap decimal e ∙ next ∙ ap (λ xs. xs ++ glyphs (digits_after (n + ends) (r * 2 ^ ends))) (step
    ∙ ap₂ (λ (x y : ℕ). decimal x ++ (48 + y) ∷ []) front last)
    ∙ append_assoc (decimal a) ((48 + d) ∷ []) _
    ∙ ap (λ ds. decimal a ++ glyphs ds) (sym (
    ap (λ (k : ℕ). digits_after k (m * 2 ^ ends)) one
    ∙ after_more (n + ends) (m * 2 ^ ends) (some_rest m ends (odd (omega arith)))
    ∙ ap₂ (λ (x y : ℕ). x ∷ digits_after (n + ends) y) (digit_is n ends m) (rest_is n ends m)
    ))
  where
    power_some : (n : ℕ) → 1 ≤ 10 ^ n
    power_some n = one-le-pow n 10 (omega arith)

-- how many they are
pub length_is : (n ends m : ℕ) → (0 < n → m % 2 ≡ 1) → m < 2 ^ n → length (digits_after (n + ends) (m * 2 ^ ends)) ≡ n
length_is zero ends m odd below =
    let z : m ≡ 0 = omega (arith, below) in
    let none : m * 2 ^ ends ≡ 0 = rw z (omega arith) in
    ap (λ (r : ℕ). length (digits_after (0 + ends) r)) none ∙ ap length (after_zero (0 + ends))
length_is (suc n) ends m odd below =
    let one : suc n + ends ≡ suc (n + ends) = omega arith in
    ap (λ (k : ℕ). length (digits_after k (m * 2 ^ ends))) one
    ∙ ap length (after_more (n + ends) (m * 2 ^ ends) (some_rest m ends (odd (omega arith))))
    ∙ ap suc (ap (λ (r : ℕ). length (digits_after (n + ends) r)) (rest_is n ends m)
    ∙ length_is n ends (5 * m % 2 ^ n) (odd_rest n m (odd (omega arith))) (mod_below (5 * m) (2 ^ n) (pow_pos n)))

-- ---- a point in the place of the one before them
apart : {A : Type 0} (e : ℕ) (xs front back : List A) → xs ≡ front ++ back → length front ≡ e →
    (take e xs ≡ front) × (drop e xs ≡ back)
apart e xs front back is long =
    let taken : take e xs ≡ front = ap₂ (λ (n : ℕ) ys. take n ys) (sym long) is ∙ take-append_seam front back in
    let dropped : drop e xs ≡ back = ap₂ (λ (n : ℕ) ys. drop n ys) (sym long) is ∙ drop-append_seam front back in
    (taken, dropped)

-- what `write_digits` leaves, and a byte put over the first digit
pub pointed_over : (old buf new ds : List ℕ) (at places one byte : ℕ) → at ≤ length old → length ds ≡ places
    → drop at buf ≡ (one ∷ ds) ++ drop (at + places + 1) old → take at buf ≡ take at old →
    take (at + 1) new ≡ take at buf ++ byte ∷ [] → drop (at + 1) new ≡ drop (at + 1) buf
    → (take (at + places + 1) new ≡ take at old ++ byte ∷ ds) ×
    (drop (at + places + 1) new ≡ drop (at + places + 1) old)
pointed_over old buf new ds at places one byte fits long behind before first rest =
    let back : drop (at + 1) new ≡ ds ++ drop (at + places + 1) old = rest ∙ sym (drop-drop 1 at buf)
    ∙ ap (drop 1) behind in
    let whole : new ≡ (take at old ++ byte ∷ ds) ++ drop (at + places + 1) old =
    sym (take-append-drop (at + 1) new)
    ∙ ap₂ (λ (x y : List ℕ). x ++ y) (first ∙ ap (λ xs. xs ++ byte ∷ []) before) back
    ∙ append_assoc (take at old) (byte ∷ []) (ds ++ drop (at + places + 1) old)
    ∙ sym (append_assoc (take at old) (byte ∷ ds) (drop (at + places + 1) old)) in
    let size : length (take at old ++ byte ∷ ds) ≡ at + places + 1 = length-append (take at old) (byte ∷ ds)
    ∙ (let t = length-take-le at old fits in omega (arith, t, long)) in
    apart (at + places + 1) new (take at old ++ byte ∷ ds) (drop (at + places + 1) old) whole size

-- the number that is spelled, and how many digits it has with the one
pub record Number (n ends rest number : ℕ) : Type 0 where
  pub fits : number < 2 ^ 64
  pub is : decimal number ≡ 49 ∷ glyphs (digits_after (n + ends) (rest * 2 ^ ends))
  pub count : length (glyphs (digits_after (n + ends) (rest * 2 ^ ends))) ≡ n

pub number : (n ends rest power : ℕ) → n ≤ 18 → rest < 2 ^ n → (0 < n → rest % 2 ≡ 1) → power ≡ 10 ^ n →
    Number n ends rest (power + rest * (power / 2 ^ n))
number n ends rest power low below odd is =
    let p = pow_pos n in
    let five : power / 2 ^ n ≡ 5 ^ n = let e : power ≡ 5 ^ n * 2 ^ n + 0 = omega (arith, is ∙ tens n) in
    ap (λ (k : ℕ). k / 2 ^ n) e ∙ div-mul-add (5 ^ n) (2 ^ n) 0 p in
    let sum : power + rest * (power / 2 ^ n) ≡ 1 * 10 ^ n + rest * 5 ^ n = rw five (omega (arith, is)) in
    let top : rest * 5 ^ n ≤ 10 ^ n = let t = tens n in
    let m = mul-le rest (5 ^ n) (2 ^ n) (5 ^ n) (omega (arith, below)) (omega arith) in omega (arith, t, m) in
    let few : 10 ^ n ≤ 10 ^ 18 = ten_small n low in
    let small : 1 * 10 ^ n + rest * 5 ^ n < 2 ^ 64 = omega (arith, top, few) in
    record {
      fits = omega (arith, sum, small);
      is = ap decimal sum ∙ spelled 1 n ends rest (omega arith) below odd small
          ∙ ap (λ xs. xs ++ glyphs (digits_after (n + ends) (rest * 2 ^ ends))) (decimal_digit 1 (omega arith));
      count =
          length-map (digits_after (n + ends) (rest * 2 ^ ends)) (λ (k : ℕ). 48 + k) ∙ length_is n ends rest odd below;
    }

pub pointed_digits : (n ends rest : ℕ) → rest < 2 ^ n → rest % 2 ≡ 1 →
    46 ∷ glyphs (digits_after (n + ends) (rest * 2 ^ ends)) ≡ pointed (digits_after (n + ends) (rest * 2 ^ ends))
pointed_digits n ends rest below odd =
    point_some (n + ends) (rest * 2 ^ ends) (some_rest rest ends odd)
    (subst (λ (k : ℕ). rest * 2 ^ ends < k) (sym (pow-add 2 n ends))
    (mul-lt-mul_of_pos_right {m = rest} {n = 2 ^ n} {k = 2 ^ ends} below (pow_pos ends)))
