-- A decimal by its front and the places that it is moved.
use Rattle.std.proofs.Common.{◌≡◌, ◌⊎◌, ℕ, zero, suc, ◌+◌, ◌*◌, ◌^◌, ◌<◌, ◌≤◌, ℤ, pos, negsuc, ◌-ℤ◌, ◌<ℤ◌, Bool, true, false, cond, Result, Ok, Err, inl, inr, refl, sym, ap, ◌∙◌, arith, rules, tests}
use Rattle.std.specs.Prelude.{nat_lt, nat_le, ◌&&◌, unsigned_abs}
use Rattle.std.proofs.Math.Nat.{mul_assoc, mul-le-mul_right, pow-le-pow_right}
use Rattle.std.proofs.lemmas.Nat.{pow-add}
use Rattle.std.proofs.lemmas.Int.{ints}
use Rattle.fx_rational.specs.Decimal.{Decimal}
use Rattle.fx_fraction.specs.declared.fault.NumberFault.{NumberFault}
use Rattle.fx_fraction.specs.declared.fault.NumberFault.TheVariants.{TooLong}
use Rattle.fx_fraction.specs.Kept.{Strips}
use Rattle.fx_fraction.specs.DecimalOf.{trimmed, fewest_places, within_limits}
use Rattle.fx_fraction.specs.Numeral.{signed}
use Rattle.fx_fraction.specs.ReadParts.{by_shift}
use Rattle.fx_fraction.proofs.Fronts.{grows}
use Rattle.fx_fraction.proofs.Trimmed.{by_zeros, trimmed_front}

abbrev done : Decimal → Result Decimal NumberFault
done d = Ok d

-- too great, or too many places
over : (negative : Bool) (x : ℕ × ℕ) → 2 ^ 62 ≤ x.0 → within_limits negative x ≡ Err TooLong
over negative x le = let e : nat_lt x.0 (2 ^ 62) ≡ false = search (rules, tests) in rw e refl

refused : (b : Bool) (d : Decimal) → cond (b && false) (done d) (Err TooLong) ≡ Err TooLong
refused true d = refl
refused false d = refl

under : (negative : Bool) (x : ℕ × ℕ) → 18 < x.1 → within_limits negative x ≡ Err TooLong
under negative x lt =
    let e : nat_le x.1 18 ≡ false = search (rules, tests) in
    rw e (refused (nat_lt x.0 (2 ^ 62)) (record { a = signed negative x.0; b = x.1 }))

far_up : (f s : ℕ) → 0 < f → 18 < s → 2 ^ 62 ≤ f * 10 ^ s
far_up f s some lt =
    let p : 10 ^ 19 ≤ 10 ^ s = (let ten : 0 < 10 = omega arith in let le : 19 ≤ s = omega arith in
    pow-le-pow_right ten le) in
    omega (arith, p, mul-le-mul_right (10 ^ s) some)

pub too_far : (negative : Bool) (f : ℕ) (shift : ℤ) → 0 < f → (shift <ℤ negsuc 17) ⊎ (pos 18 <ℤ shift) →
    within_limits negative (by_shift f shift) ≡ Err TooLong
too_far negative f (pos s) some (inl h) = absurd (omega (arith, ints, h))
too_far negative f (pos s) some (inr h) = over negative (f * 10 ^ s, 0) (far_up f s some (omega (arith, ints, h)))
too_far negative f (negsuc s) some (inl h) = under negative (f, suc s) (omega (arith, ints, h))
too_far negative f (negsuc s) some (inr h) = absurd (omega (arith, ints, h))

moved : (f z p : ℕ) → by_zeros f z p ≡ by_shift f (pos z -ℤ pos p)
moved f z zero = let e : pos z ≡ pos z -ℤ pos 0 = omega (arith, ints) in ap (by_shift f) e
moved f zero (suc p) = let e : negsuc p ≡ pos 0 -ℤ pos (suc p) = omega (arith, ints) in ap (by_shift f) e
moved f (suc z) (suc p) =
    let e : pos z -ℤ pos p ≡ pos (suc z) -ℤ pos (suc p) = omega (arith, ints) in moved f z p ∙ ap (by_shift f) e

pub fewest_front : (n f z : ℕ) (places : ℤ) → Strips n f z → fewest_places n places ≡ by_shift f (pos z -ℤ places)
fewest_front n f z (pos p) s = ap (λ m. trimmed m p) s.value ∙ trimmed_front f z p s.last ∙ moved f z p
fewest_front n f z (negsuc p) s =
    let e : n * 10 ^ suc p ≡ f * 10 ^ (z + suc p) = ap (λ m. m * 10 ^ suc p) s.value ∙ mul_assoc f (10 ^ z) (10 ^ suc p)
    ∙ ap (λ y. f * y) (sym (pow-add 10 z (suc p))) in
    let g : pos (z + suc p) ≡ pos z -ℤ negsuc p = omega (arith, ints) in
    ap (λ (m : ℕ). (m, 0)) e ∙ ap (by_shift f) g

trimmed_zero : (p : ℕ) → trimmed 0 p ≡ (0, 0)
unfolding trimmed
trimmed_zero zero = refl
trimmed_zero (suc p) = trimmed_zero p

pub fewest_zero : (places : ℤ) → fewest_places 0 places ≡ (0, 0)
fewest_zero (pos p) = trimmed_zero p
fewest_zero (negsuc p) = let e : 0 * 10 ^ suc p ≡ 0 = omega arith in ap (λ (m : ℕ). (m, 0)) e

at_least : (f : ℕ) (shift : ℤ) → f ≤ (by_shift f shift).0
at_least f (pos s) = grows f s
at_least f (negsuc s) = omega arith

pub fewest_long : (negative : Bool) (n f z : ℕ) (places : ℤ) → Strips n f z → 2 ^ 62 ≤ f →
    within_limits negative (fewest_places n places) ≡ Err TooLong
fewest_long negative n f z places s le =
    rw (fewest_front n f z places s)
    (over negative (by_shift f (pos z -ℤ places)) (omega (arith, at_least f (pos z -ℤ places))))

pub no_sign : (negative : Bool) → within_limits negative (0, 0) ≡ Ok (record { a = pos 0; b = 0 })
no_sign true = refl
no_sign false = refl

-- a shift by more than 18 places, in either direction
pub beyond : (shift : ℤ) (size : ℕ) → size ≡ unsigned_abs shift → 18 < size → (shift <ℤ negsuc 17) ⊎ (pos 18 <ℤ shift)
beyond (pos n) size e lt = inr (omega (arith, ints))
beyond (negsuc n) size e lt = inl (omega (arith, ints))
