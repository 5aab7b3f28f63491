-- From the parts of a text to its decimal.
use Rattle.std.proofs.Common.{to_z, of_z, ◌≡◌, ℕ, ◌+◌, ◌-◌, ◌^◌, ◌<◌, ◌≤◌, ℤ, pos, negsuc, ◌-ℤ◌, neg_ℤ, ◌≤ℤ◌, Bool, true, false, cond, ltb, List, [], ◌++◌, length, take, drop, Option, Some, None, Result, Err, inl, inr, refl, sym, ap, subst, ◌∙◌, length-drop, arith, rules, tests}
use Rattle.std.specs.Prelude.{nat_lt, option_map}
use Rattle.std.specs.Int.{w128}
use Rattle.std.specs.Str.Parse.{digits_value}
use Rattle.std.proofs.lemmas.Int.{ints}
use Rattle.std.proofs.lemmas.List.{take_all, drop_all}
use Rattle.fx_fraction.specs.Digits.{saturated}
use Rattle.fx_rational.specs.Decimal.{Decimal}
use Rattle.fx_fraction.specs.declared.fault.NumberFault.{NumberFault}
use Rattle.fx_fraction.specs.declared.fault.NumberFault.TheVariants.{TooLong, Malformed}
use Rattle.fx_fraction.specs.declared.significant.Significant.{Significant}
use Rattle.fx_fraction.specs.declared.significant.Significant.TheVariants.{Zero, Front, Long}
use Rattle.fx_fraction.specs.Numeral.{Power, Sign, sign_of, behind_sign, is_minus, signed, exponent, digit_count, first_digits, behind_digits, part_of, part_digits, behind_part, power_of, numeral_of, unsigned_of}
use Rattle.fx_fraction.specs.DecimalOf.{trimmed, fewest_places, within_limits, decimal_from, decimal_of}
use Rattle.fx_fraction.specs.Kept.{Keeps, FitsFront, zeros_of, kept_exponent}
use Rattle.fx_fraction.specs.ReadParts.{by_shift, exponent_kept, IsMantissa, IsShortNumber}
use Rattle.fx_fraction.proofs.Shifts.{fewest_front, fewest_zero, fewest_long, too_far}

-- ---- an exponent past 64 bits is beyond all texts

far : (negative back : Bool) (f z v l : ℕ) → 0 < f → z < 2 ^ 63 → l < 2 ^ 63 → 2 ^ 64 - 1 ≤ v →
    within_limits negative (by_shift f (pos z -ℤ (pos l -ℤ signed back v))) ≡ Err TooLong
far negative true f z v l some less short le =
    too_far negative f (pos z -ℤ (pos l -ℤ neg_ℤ (pos v))) some (inl (omega (arith, ints)))
far negative false f z v l some less short le =
    too_far negative f (pos z -ℤ (pos l -ℤ pos v)) some (inr (omega (arith, ints)))

same_signed : (negative back : Bool) (n v l : ℕ) (s : Significant) → Keeps n s → FitsFront s → zeros_of s < 2 ^ 63 →
    l < 2 ^ 63
    → within_limits negative (fewest_places n (pos l -ℤ signed back (saturated v)))
    ≡ within_limits negative (fewest_places n (pos l -ℤ signed back v))
same_signed negative back n v l Zero h fits less short =
    rw h (ap (within_limits negative) (fewest_zero (pos l -ℤ signed back (saturated v))
    ∙ sym (fewest_zero (pos l -ℤ signed back v))))
same_signed negative back n v l Long h fits less short =
    fewest_long negative n h.0 h.1 (pos l -ℤ signed back (saturated v)) h.2 h.3
    ∙ sym (fewest_long negative n h.0 h.1 (pos l -ℤ signed back v) h.2 h.3)
same_signed negative back n v l (Front f z) h fits less short =
    ap (within_limits negative) (fewest_front n f z (pos l -ℤ signed back (saturated v)) h.0)
    ∙ by (ltb v (2 ^ 64)) refl
    ∙ sym (ap (within_limits negative) (fewest_front n f z (pos l -ℤ signed back v) h.0))
  where
    by : (b : Bool) → ltb v (2 ^ 64) ≡ b →
        within_limits negative (by_shift f (pos z -ℤ (pos l -ℤ signed back (saturated v))))
        ≡ within_limits negative (by_shift f (pos z -ℤ (pos l -ℤ signed back v)))
    by true e =
        let m : saturated v ≡ v = grind (arith, tests) in
        ap (λ w. within_limits negative (by_shift f (pos z -ℤ (pos l -ℤ signed back w)))) m
    by false e =
        let le : 2 ^ 64 ≤ v = grind (arith, tests) in
        far negative back f z (saturated v) l (omega (arith, fits.0)) less short (omega arith)
        ∙ sym (far negative back f z v l (omega (arith, fits.0)) less short (omega arith))

same_exponent : (negative : Bool) (p : Option Power) (n l : ℕ) (s : Significant) → Keeps n s → FitsFront s →
    zeros_of s < 2 ^ 63 → l < 2 ^ 63
    → within_limits negative (fewest_places n (pos l -ℤ kept_exponent p))
    ≡ within_limits negative (fewest_places n (pos l -ℤ exponent p))
same_exponent negative None n l s h fits less short = refl
same_exponent negative (Some p) n l s h fits less short =
    same_signed negative (is_minus p.sign) n (digits_value 10 p.digits) l s h fits less short

-- ---- the whole text

abbrev pub malformed : Result Decimal NumberFault
malformed = Err Malformed

pub no_digit : (text body : List ℕ) → body ≡ behind_sign text →
    digit_count body + length (part_digits (part_of (behind_digits body))) ≡ 0 → malformed ≡ decimal_of text
unfolding decimal_of numeral_of
no_digit text body e none =
    by (behind_sign text) (subst
    (λ (xs : List ℕ). digit_count xs + length (part_digits (part_of (behind_digits xs))) ≡ 0) e none)
  where
    by : (xs : List ℕ) → digit_count xs + length (part_digits (part_of (behind_digits xs))) ≡ 0 →
        malformed ≡ decimal_from (unsigned_of (sign_of text) xs)
    by xs none = rw none refl

none_mapped : {X Y : Type 0} (f : X → Y) (o : Option X) → option_map f o ≡ None → o ≡ None
none_mapped f None e = refl
none_mapped f (Some x) e = absurd cc

some_mapped : {X Y : Type 0} (f : X → Y) (o : Option X) (y : Y) → option_map f o ≡ Some y →
    (x : X) × (o ≡ Some x) × (f x ≡ y)
some_mapped f None y e = absurd cc
some_mapped f (Some x) y e = (x, refl, cc)

-- what stands behind the mantissa
abbrev pub rest_of : List ℕ → ℕ → List ℕ
rest_of body end = take (length body - end) (drop end body)

rest_is : (body : List ℕ) (s : Significant) (places end : ℕ) → IsMantissa body s places end →
    rest_of body end ≡ behind_part (behind_digits body)
rest_is body s places end m =
    take_all (length body - end) (drop end body) (omega (arith, length-drop end body)) ∙ m.rest

no_power_in : (sign : Sign) (body : List ℕ) → power_of (behind_part (behind_digits body)) ≡ None →
    malformed ≡ decimal_from (unsigned_of sign body)
no_power_in sign body e = rw e (by (nat_lt 0 (digit_count body + length (part_digits (part_of (behind_digits body))))))
  where
    by : (b : Bool) → malformed ≡ decimal_from (cond b None None)
    by true = refl
    by false = refl

pub no_power : (text body : List ℕ) (s : Significant) (places end : ℕ) → body ≡ behind_sign text →
    IsMantissa body s places end → exponent_kept (rest_of body end) ≡ None → malformed ≡ decimal_of text
unfolding decimal_of numeral_of
no_power text body s places end b m e =
    no_power_in (sign_of text) body
    (none_mapped kept_exponent (power_of (behind_part (behind_digits body)))
    (ap exponent_kept (sym (rest_is body s places end m)) ∙ e))
    ∙ ap (λ (xs : List ℕ). decimal_from (unsigned_of (sign_of text) xs)) b

-- the decimal of a text that has digits and a power
from_parts : (sign : Sign) (body : List ℕ) (p : Option Power) →
    nat_lt 0 (digit_count body + length (part_digits (part_of (behind_digits body)))) ≡ true →
    power_of (behind_part (behind_digits body)) ≡ Some p
    → within_limits (is_minus sign)
    (fewest_places (digits_value 10 (first_digits body ++ part_digits (part_of (behind_digits body))))
    (pos (length (part_digits (part_of (behind_digits body)))) -ℤ exponent p))
    ≡ decimal_from (unsigned_of sign body)
from_parts sign body p some e = rw (some, e) refl

pub read_is : (text body : List ℕ) (s : Significant) (places end : ℕ) (z : ℤ) (r : Result Decimal NumberFault) →
    body ≡ behind_sign text → IsMantissa body s places end
    → exponent_kept (rest_of body end) ≡ Some z
    → ((n : ℕ) → Keeps n s → r ≡ within_limits (is_minus (sign_of text)) (fewest_places n (pos places -ℤ z))) →
    r ≡ decimal_of text
unfolding decimal_of numeral_of
read_is text body s places end z r b m e gives =
    let p =
    some_mapped kept_exponent (power_of (behind_part (behind_digits body))) z
    (ap exponent_kept (sym (rest_is body s places end m)) ∙ e) in
    let some : nat_lt 0 (digit_count body + length (part_digits (part_of (behind_digits body)))) ≡ true =
    (let h = m.some in search (rules, tests)) in
    let n = digits_value 10 (first_digits body ++ part_digits (part_of (behind_digits body))) in
    gives n m.value
    ∙ ap (λ w. within_limits (is_minus (sign_of text)) (fewest_places n (pos places -ℤ w))) (sym p.2)
    ∙ same_exponent (is_minus (sign_of text)) p.0 n places s m.value m.fits m.zeros m.short
    ∙ ap (λ (l : ℕ). within_limits (is_minus (sign_of text)) (fewest_places n (pos l -ℤ exponent p.0))) m.places_are
    ∙ from_parts (sign_of text) body p.0 some p.1
    ∙ ap (λ (xs : List ℕ). decimal_from (unsigned_of (sign_of text) xs)) b

-- the exponent that is kept
pub record IsNearWord (z : ℤ) : Type 0 where
  pub low : negsuc (2 ^ 64) ≤ℤ z
  pub high : z ≤ℤ pos (2 ^ 64)

signed_near : (b : Bool) (v : ℕ) → IsNearWord (signed b (saturated v))
signed_near true v = record { low = omega (arith, ints); high = omega (arith, ints) }
signed_near false v = record { low = omega (arith, ints); high = omega (arith, ints) }

near : (p : Option Power) → IsNearWord (kept_exponent p)
near None = record { low = omega (arith, ints); high = omega (arith, ints) }
near (Some p) = signed_near (is_minus p.sign) (digits_value 10 p.digits)

pub exponent_near : (text : List ℕ) (z : ℤ) → exponent_kept text ≡ Some z → IsNearWord z
exponent_near text z e = let p = some_mapped kept_exponent (power_of text) z e in subst IsNearWord p.2 (near p.0)

-- the places less the exponent, in 128 bits
abbrev pub number_in_128 : ℕ → ℤ → ℤ
number_in_128 places z = to_z w128 (of_z w128 (to_z w128 places -ℤ to_z w128 (of_z w128 z)))

pub places_is : (places : ℕ) (z : ℤ) → places < 2 ^ 63 → IsNearWord z → number_in_128 places z ≡ pos places -ℤ z
places_is places z short n = let l = n.low in let h = n.high in omega (arith, ints)

pub places_near : (places : ℕ) (z : ℤ) → places < 2 ^ 63 → IsNearWord z →
    (negsuc (2 ^ 65) ≤ℤ number_in_128 places z) × (number_in_128 places z ≤ℤ pos (2 ^ 65))
places_near places z short n =
    let l = n.low in
    let h = n.high in
    (rw (places_is places z short n) (omega (arith, ints)), rw (places_is places z short n) (omega (arith, ints)))

-- ---- a text without a power

pub plain_is : (text body : List ℕ) (size places end : ℕ) → body ≡ behind_sign text →
    IsShortNumber body size places end → length body ≤ end
    → within_limits (is_minus (sign_of text)) (trimmed size places) ≡ decimal_of text
unfolding decimal_of numeral_of
plain_is text body size places end b n ends =
    let whole = digits_value 10 (first_digits body ++ part_digits (part_of (behind_digits body))) in
    let nothing : behind_part (behind_digits body) ≡ [] = sym n.rest ∙ drop_all end body ends in
    let some : nat_lt 0 (digit_count body + length (part_digits (part_of (behind_digits body)))) ≡ true =
    (let h = n.some in search (rules, tests)) in
    let e : pos (length (part_digits (part_of (behind_digits body))))
    ≡ pos (length (part_digits (part_of (behind_digits body)))) -ℤ pos 0 = omega (arith, ints) in
    ap (λ (m : ℕ). within_limits (is_minus (sign_of text)) (trimmed m places)) n.value
    ∙ ap (λ (q : ℕ). within_limits (is_minus (sign_of text)) (fewest_places whole (pos q))) n.places_are
    ∙ ap (λ z. within_limits (is_minus (sign_of text)) (fewest_places whole z)) e
    ∙ from_parts (sign_of text) body None some (ap power_of nothing)
    ∙ ap (λ (xs : List ℕ). decimal_from (unsigned_of (sign_of text) xs)) b
