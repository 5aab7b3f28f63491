-- Whether a mantissa is odd, which its last digit tells, and what the code keeps of a dyadic.
use Rattle.std.proofs.Common.{◌≡◌, ℕ, zero, suc, ◌+◌, ◌*◌, ◌-◌, ◌%◌, ◌^◌, ◌<◌, ◌≤◌, Bool, true, false, cond, eqb, List, [], ◌∷◌, length, get_or, take, drop, min, Option, Some, None, ℤ, pos, negsuc, ◌⊎◌, refl, sym, ap, subst, ◌∙◌, inl, inr, arith}
use Rattle.std.specs.Prelude.{option_map, unsigned_abs, ◌||◌}
use Rattle.std.specs.Char.{digit_value}
use Rattle.std.specs.Str.{all_ascii_digits}
use Rattle.std.specs.Str.Parse.{digits_value}
use Rattle.std.proofs.lemmas.Bool.{eqb-true, or_cases}
use Rattle.std.proofs.lemmas.Bool.Decides.{nat_tests}
use Rattle.std.proofs.lemmas.Int.Digits.{digits_value_more}
use Rattle.std.proofs.lemmas.List.{take_all}
use Rattle.std.proofs.lemmas.Option.{cond_some}
use Rattle.std.proofs.lemmas.Str.{digit_value_digit}
use Rattle.std.proofs.lemmas.Str.Parse.{digit_at}
use Rattle.fx_fraction.specs.Digits.{digits_of, saturated}
use Rattle.fx_model.proofs.Digits.{digits_model}
use Rattle.fx_rational.specs.Dyadic.{Dyadic, IsDyadic, IsWritten, mantissa_end, exponent_limit}
use Rattle.fx_text.specs.Cutting.{cut_at}
use Rattle.fx_text.specs.Numbers.{has_good_front, whole_of, integer_of, lowest_spelled, dyadic_in, dyadic_of, kept_signed, kept_dyadic}
use Rattle.fx_text.proofs.Choices.{chosen}
use Rattle.fx_text.proofs.NumberLaws.{good_front, cons_drop, negative_is, positive_is}

-- a number of digits is odd as its last digit is
digits_parity : (ds : List ℕ) → all_ascii_digits ds ≡ true → 0 < length ds →
    get_or ds (length ds - 1) 0 % 2 ≡ digits_value 10 ds % 2
digits_parity ds h lt =
    let last : length ds - 1 < length ds = omega arith in
    let r = digit_at ds (length ds - 1) (digits_model.to ds h) last in
    let d = digit_value_digit (get_or ds (length ds - 1) 0) r in
    let all : take (length ds - 1 + 1) ds ≡ ds = take_all (length ds - 1 + 1) ds (omega arith) in
    let more = digits_value_more 10 ds (length ds - 1) last in
    let value : digits_value 10 ds ≡ digits_value 10 (take (length ds - 1) ds) * 10 + digit_value
    (get_or ds (length ds - 1) 0) = ap (digits_value 10) (sym all) ∙ more in
    omega (arith, value, d, r)

-- the same of a number's field
whole_parity : (ds : List ℕ) (n : ℕ) → whole_of ds ≡ Some n →
    (0 < length ds) × (get_or ds (length ds - 1) 0 % 2 ≡ n % 2)
unfolding whole_of
whole_parity ds n e =
    elim (chosen (has_good_front ds) (digits_of ds) None (Some n) e) [
      | inl h ↦
          let b = cond_some (all_ascii_digits ds) (digits_value 10 ds) n h.1 in
          let g = good_front ds h.0 in
          (g.0, digits_parity ds b.0 g.0 ∙ ap (λ k. k % 2) b.1)
      | inr h ↦ absurd cc
    ]

-- the last of a list is the last of what stands behind its first
last_behind : (c : ℕ) (ds : List ℕ) → 0 < length ds →
    get_or (c ∷ ds) (length (c ∷ ds) - 1) 0 ≡ get_or ds (length ds - 1) 0
last_behind c [] lt = absurd (omega arith)
last_behind c (d ∷ ds) lt = let k : length (c ∷ d ∷ ds) - 1 ≡ suc (length (d ∷ ds) - 1) = omega arith in rw k refl

-- the sign has no part in it
integer_parity : (f : List ℕ) (m : ℤ) → integer_of f ≡ Some m → get_or f (length f - 1) 0 % 2 ≡ unsigned_abs m % 2
unfolding integer_of
integer_parity f m e =
    elim (chosen (eqb (get_or f 0 0) 45) _ _ (Some m) e) [
      | inl h ↦
          let n = negative_is (whole_of (drop 1 f)) m h.1 in
          let p = whole_parity (drop 1 f) (suc n.0) n.1 in
          ap (λ g. get_or g (length g - 1) 0 % 2) (cons_drop 44 f h.0) ∙ ap (λ k. k % 2) (last_behind 45 (drop 1 f) p.0)
          ∙ p.1 ∙ ap (λ z. unsigned_abs z % 2) (sym n.2)
      | inr h ↦
          let n = positive_is (whole_of f) m h.1 in
          (whole_parity f n.0 n.1).1 ∙ ap (λ z. unsigned_abs z % 2) (sym n.2)
    ]

-- zero alone is kept as zero
kept_zero : (n : ℕ) → eqb (saturated n) 0 ≡ eqb n 0
kept_zero n = grind (arith, nat_tests)

-- what the code keeps of a dyadic from what it keeps of its parts, given whether the mantissa ends odd
kept_spelled : (m : Option ℤ) (e : Option ℕ) (km : ℤ) (ke : ℕ) (odd b : Bool) → Some km ≡ option_map kept_signed m →
    Some ke ≡ option_map saturated e → ((z : ℤ) → m ≡ Some z → odd ≡ eqb (unsigned_abs z % 2) 1)
    → (eqb ke 0 || odd) ≡ b → cond b (Some (km, ke)) None ≡ option_map kept_dyadic (lowest_spelled m e)
kept_spelled None e km ke odd b p q o t = absurd cc
kept_spelled (Some m) None km ke odd b p q o t = absurd cc
kept_spelled (Some m) (Some e) km ke odd b p q o t =
    let zeros : eqb ke 0 ≡ eqb e 0 = let y : ke ≡ saturated e = cc in rw y (kept_zero e) in
    let test : (eqb e 0 || eqb (unsigned_abs m % 2) 1) ≡ b = rw (sym zeros, sym (o m refl)) t in
    by b test
  where
    by : (b : Bool) → (eqb e 0 || eqb (unsigned_abs m % 2) 1) ≡ b →
        cond b (Some (km, ke)) None ≡ option_map kept_dyadic (lowest_spelled (Some m) (Some e))
    by true test = rw test (let x : km ≡ kept_signed m = cc in let y : ke ≡ saturated e = cc in rw (x, y) refl)
    by false test = rw test refl

-- the same from the bytes of a field
pub parts_kept : (field mantissa exponent : List ℕ) (m : ℤ) (e : ℕ) (b : Bool) →
    cut_at 58 field ≡ Some (mantissa, exponent) → Some m ≡ option_map kept_signed (integer_of mantissa) →
    Some e ≡ option_map saturated (whole_of exponent)
    → (eqb e 0 || eqb (get_or mantissa (length mantissa - 1) 0 % 2) 1) ≡ b →
    cond b (Some (m, e)) None ≡ option_map kept_dyadic (dyadic_of field)
unfolding dyadic_of
parts_kept field mantissa exponent m e b c p q t =
    rw c (kept_spelled (integer_of mantissa) (whole_of exponent) m e
    (eqb (get_or mantissa (length mantissa - 1) 0 % 2) 1) b p q
    (λ z h. ap (λ k. eqb k 1) (integer_parity mantissa z h)) t)

-- what is below the ends of 64 bits is kept as it is
kept_signed_small : (z m : ℤ) → kept_signed z ≡ m → unsigned_abs m < mantissa_end → z ≡ m
kept_signed_small (pos n) m h small =
    let k : unsigned_abs (kept_signed (pos n)) < mantissa_end =
    subst (λ z. unsigned_abs z < mantissa_end) (sym h) small in
    let e : saturated n ≡ n = omega arith in
    ap pos (sym e) ∙ h
kept_signed_small (negsuc n) m h small =
    let k : unsigned_abs (kept_signed (negsuc n)) < mantissa_end =
    subst (λ z. unsigned_abs z < mantissa_end) (sym h) small in
    let e : min n (2 ^ 64 - 2) ≡ n = omega arith in
    ap negsuc (sym e) ∙ h

-- the same of a dyadic
kept_small : (d : Dyadic) (m : ℤ) (e : ℕ) → kept_dyadic d ≡ (m, e) → unsigned_abs m < mantissa_end →
    e ≤ exponent_limit → d ≡ record { m = m; e = e }
kept_small d m e h small places =
    let x : kept_signed d.m ≡ m = ap (λ p. p.0) h in
    let y : saturated d.e ≡ e = ap (λ p. p.1) h in
    let places_are : d.e ≡ e = omega arith in
    ap (λ z. record { m = z; e = d.e }) (kept_signed_small d.m m x small) ∙ ap (λ k. record { m = m; e = k }) places_are

-- a dyadic that is spelled has an odd mantissa, or the exponent 0
spelled_odd : (m : Option ℤ) (e : Option ℕ) (d : Dyadic) → lowest_spelled m e ≡ Some d → 0 < d.e →
    unsigned_abs d.m % 2 ≡ 1
spelled_odd None e d h lt = absurd cc
spelled_odd (Some m) None d h lt = absurd cc
spelled_odd (Some m) (Some e) d h lt =
    elim (chosen (eqb e 0 || eqb (unsigned_abs m % 2) 1) (Some (record { m = m; e = e })) None (Some d) h) [
      | inl k ↦
          let same : record { m = m; e = e } ≡ d = cc in
          subst (λ (y : Dyadic). 0 < y.e →
          unsigned_abs y.m % 2 ≡ 1) same (by (or_cases (eqb e 0) (eqb (unsigned_abs m % 2) 1) k.0)) lt
      | inr k ↦ absurd cc
    ]
  where
    by : (eqb e 0 ≡ true) ⊎ (eqb (unsigned_abs m % 2) 1 ≡ true) → 0 < e → unsigned_abs m % 2 ≡ 1
    by (inl a) lt = absurd (omega (arith, eqb-true e 0 a))
    by (inr b) lt = eqb-true (unsigned_abs m % 2) 1 b

-- so has a dyadic that a field spells
pub dyadic_of-odd : (field : List ℕ) (d : Dyadic) → dyadic_of field ≡ Some d → 0 < d.e → unsigned_abs d.m % 2 ≡ 1
unfolding dyadic_of
dyadic_of-odd field d h lt = by (cut_at 58 field) h
  where
    by : (parts : Option (List ℕ × List ℕ)) → dyadic_in parts ≡ Some d → unsigned_abs d.m % 2 ≡ 1
    by None h = absurd cc
    by (Some parts) h = spelled_odd (integer_of parts.0) (whole_of parts.1) d h lt

-- what a reader gives is written, once it is in range
pub kept_written : (field : List ℕ) (m : ℤ) (e : ℕ) → Some (m, e) ≡ option_map kept_dyadic (dyadic_of field) →
    unsigned_abs m < mantissa_end → e ≤ exponent_limit → IsWritten (record { m = m; e = e })
kept_written field m e h small places = by (dyadic_of field) refl h
  where
    by : (o : Option Dyadic) → dyadic_of field ≡ o → Some (m, e) ≡ option_map kept_dyadic o →
        IsWritten (record { m = m; e = e })
    by None o h = absurd cc
    by (Some d) o h =
        let same : kept_dyadic d ≡ (m, e) = cc in
        let d_is = kept_small d m e same small places in
        record {
          small = small;
          places = places;
          one_spelling = subst (λ (y : Dyadic). 0 < y.e → unsigned_abs y.m % 2 ≡ 1) d_is (dyadic_of-odd field d o);
        }

-- a written dyadic is a dyadic: zero has exponent 0
pub IsDyadic-written : (m : ℤ) (e : ℕ) → IsWritten (record { m = m; e = e }) → IsDyadic m e
IsDyadic-written m e w = record {
  of_zero = λ z. by e (λ lt. sym (w.one_spelling lt) ∙ ap (λ k. unsigned_abs k % 2) z);
  small = omega (arith, w.places);
}
  where
    by : (e : ℕ) → (0 < e → ◌≡◌ {A = ℕ} 1 0) → e ≡ 0
    by zero h = refl
    by (suc e) h = absurd (omega (arith, h (omega arith)))
