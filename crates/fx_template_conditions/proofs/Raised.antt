-- A factor that is raised to an exponent before it is multiplied stays within 64 bits, and its product within 128.
use Rattle.std.proofs.Common.{◌≡◌, ℕ, ◌+◌, ◌-◌, ◌*◌, ◌^◌, ◌<◌, ◌≤◌, ℤ, pos, ◌*ℤ◌, unsigned_abs, IsTrue, FitsSigned, to_z, of_z, [], ◌∷◌, refl, ap, subst, sym, ◌∙◌, arith}
use Rattle.std.specs.Int.{w64, w128, leading_zeros}
use Rattle.fx_rational.proofs.Quote.{by_quotes, quotes}
use Rattle.fx_rational.specs.Dyadic.{fits_128}
use Rattle.fx_rational.proofs.Fits.{fits_is}
use Rattle.std.proofs.Math.Pow.{pow_mono}
use Rattle.std.proofs.lemmas.Int.{to_z-of_z, unsigned_abs-mul, fits_signed_from_abs, fits_signed_mul}
use Rattle.std.proofs.lemmas.Nat.{leading_length, mul-le, pow-add}

-- what has two more leading zeros than it is raised by
pub room_is : (a s z : ℕ) → a < 2 ^ 64 → z ≡ leading_zeros w64 a → 2 ≤ z → s ≤ z - 2 → a * 2 ^ s ≤ 2 ^ 62
room_is a s z lt e two room =
    let l = leading_length 64 a lt in let m = l.0 in
    let whole : z + m ≡ 64 = ap (λ (n : ℕ). n + m) e ∙ l.1 in
    let below : a < 2 ^ m = l.2 in
    let more : m + s ≤ 62 = omega (arith, whole, two, room) in
    let most : 2 ^ (m + s) ≤ 2 ^ 62 = pow_mono more in
    let same : 2 ^ (m + s) ≡ 2 ^ m * 2 ^ s = pow-add 2 m s in
    let less : a ≤ 2 ^ m = omega (arith, below) in
    let le = mul-le a (2 ^ s) (2 ^ m) (2 ^ s) less (omega arith) in
    omega (arith, most, same, le)

-- what can be raised so far can be raised less
pub room_left : (a s room : ℕ) → s ≤ room → a * 2 ^ room ≤ 2 ^ 62 → a * 2 ^ s ≤ 2 ^ 62
room_left a s room le near =
    let most : 2 ^ s ≤ 2 ^ room = pow_mono le in
    let less = mul-le a (2 ^ s) a (2 ^ room) (omega arith) most in
    omega (arith, less, near)

-- a word times a power of two, as 64 bits hold it
pub raised_is : (m y : ℤ) (s : ℕ) → FitsSigned w64 m → s ≤ 62 → y ≡ pos (2 ^ s) → unsigned_abs m * 2 ^ s ≤ 2 ^ 62
    → (let z = to_z w64 (of_z w64 m) *ℤ to_z w64 (of_z w64 y) in
    FitsSigned w64 z × (to_z w64 (of_z w64 z) ≡ m *ℤ pos (2 ^ s)))
raised_is m y s f k ey near =
    let p : 2 ^ s ≤ 2 ^ 62 = pow_mono k in
    let small : FitsSigned w64 (pos (2 ^ s)) = fits_signed_from_abs w64 (pos (2 ^ s)) (omega arith) in
    let a : to_z w64 (of_z w64 m) ≡ m = to_z-of_z w64 m f in
    let b : to_z w64 (of_z w64 y) ≡ pos (2 ^ s) = ap (λ v. to_z w64 (of_z w64 v)) ey
    ∙ to_z-of_z w64 (pos (2 ^ s)) small in
    let same : to_z w64 (of_z w64 m) *ℤ to_z w64 (of_z w64 y) ≡ m *ℤ pos (2 ^ s) = λ i. a i *ℤ b i in
    let abs = unsigned_abs-mul m (pos (2 ^ s)) in
    let fits : FitsSigned w64 (m *ℤ pos (2 ^ s)) =
    fits_signed_from_abs w64 (m *ℤ pos (2 ^ s)) (omega (arith, abs, near)) in (
      subst (λ z. FitsSigned w64 z) (sym same) fits,
      ap (λ z. to_z w64 (of_z w64 z)) same
          ∙ to_z-of_z w64 (m *ℤ pos (2 ^ s)) fits,
    )

-- it stays near
pub raised_near : (m x : ℤ) (s : ℕ) → x ≡ m *ℤ pos (2 ^ s) → unsigned_abs m * 2 ^ s ≤ 2 ^ 62 → unsigned_abs x ≤ 2 ^ 62
raised_near m x s e near =
    let abs = unsigned_abs-mul m (pos (2 ^ s)) in let same = ap unsigned_abs e in omega (arith, same, abs, near)

-- what is raised first is the product raised
pub raised_product : (x y q t : ℤ) (p : ℕ) → q ≡ x *ℤ pos p → t ≡ q *ℤ y → t ≡ (x *ℤ y) *ℤ pos p
raised_product x y q t p h k =
    let z = pos p in
    k ∙ ap (λ (u : ℤ). u *ℤ y) h
    ∙ by_quotes {ρ = x ∷ y ∷ z ∷ []} {a = (x *ℤ z) *ℤ y} {b = (x *ℤ y) *ℤ z} (search quotes depth 20)
    (search quotes depth 20) refl

pub factors_fit : (x y : ℤ) → unsigned_abs x ≤ 2 ^ 62 → unsigned_abs y ≤ 2 ^ 64 → IsTrue (fits_128 (x *ℤ y))
factors_fit x y near small = (fits_is (x *ℤ y)).1 (fits_signed_mul w128 x y (2 ^ 62) (2 ^ 64) near small (omega arith))

pub near_fits : (t : ℤ) → unsigned_abs t ≤ 2 ^ 126 → IsTrue (fits_128 t)
near_fits t near = (fits_is t).1 (fits_signed_from_abs w128 t (omega (arith, near)))
