-- A numeral's text has that numeral and no other.
use Rattle.std.proofs.Common.{◌≡◌, ◌≢◌, ℕ, zero, suc, ◌+◌, ◌<◌, Bool, true, false, cond, eqb, ◌&&◌, ◌||◌, List, [], ◌∷◌, ◌++◌, length, take, drop, get_or, Option, Some, None, refl, sym, ap, subst, ◌∙◌, length-append, arith, rules, tests}
use Rattle.std.specs.Prelude.{nat_lt, option_map}
use Rattle.std.specs.Char.{is_ascii_digit}
use Rattle.std.specs.Str.{all_ascii_digits}
use Rattle.std.specs.Int.{IsInRange}
use Rattle.std.proofs.lemmas.List.{take_at, drop_at}
use Rattle.std.proofs.lemmas.List.Folds.{length-prefix_len}
use Rattle.std.proofs.lemmas.Bool.{eqb-true, and_parts}
use Rattle.fx_model.proofs.Digits.{digit_range}
use Rattle.fx_fraction.specs.Numeral.{Sign, unwritten, plus, minus, Power, Numeral, sign_text, part_text, power_text, numeral_text, part_digits, is_number, is_e, is_power, IsNumeral, sign_of, behind_sign, digit_count, first_digits, behind_digits, part_of, behind_part, power_of, unsigned_of, numeral_of}

-- ---- tests

is_digits : (ds : List ℕ) → is_number ds ≡ true → all_ascii_digits ds ≡ true
is_digits ds e = (and_parts (all_ascii_digits ds) (nat_lt 0 (length ds)) e).0

is_some : (ds : List ℕ) → is_number ds ≡ true → 0 < length ds
is_some ds e = let t = (and_parts (all_ascii_digits ds) (nat_lt 0 (length ds)) e).1 in search (rules, tests)

digits_append : (xs ys : List ℕ) → all_ascii_digits (xs ++ ys) ≡ (all_ascii_digits xs && all_ascii_digits ys)
digits_append [] ys = refl
digits_append (x ∷ xs) ys = by (is_ascii_digit x) (digits_append xs ys)
  where
    by : (b : Bool) → all_ascii_digits (xs ++ ys) ≡ (all_ascii_digits xs && all_ascii_digits ys) →
        (b && all_ascii_digits (xs ++ ys)) ≡ ((b && all_ascii_digits xs) && all_ascii_digits ys)
    by true e = e
    by false e = refl

-- ---- bytes that are no digit

other_than : (c k : ℕ) → c ≢ k → eqb c k ≡ false
other_than c k h = search (rules, tests)

e_is : (c : ℕ) → is_e c ≡ true → IsInRange 69 101 c
e_is c e = by (eqb c 101) refl (eqb c 69) refl e
  where
    by : (p : Bool) → eqb c 101 ≡ p → (q : Bool) → eqb c 69 ≡ q → (p || q) ≡ true → IsInRange 69 101 c
    by true s q t e = let k = eqb-true c 101 s in (omega arith, omega arith)
    by false s true t e = let k = eqb-true c 69 t in (omega arith, omega arith)
    by false s false t e = absurd cc

no_digit : (c : ℕ) → (IsInRange 48 57 c → ⊥) → is_ascii_digit c ≡ false
no_digit c h = by (is_ascii_digit c) refl
  where
    by : (b : Bool) → is_ascii_digit c ≡ b → is_ascii_digit c ≡ false
    by true e = absurd (h (digit_range c e))
    by false e = e

-- ---- digits before something else

count_append : (ds rest : List ℕ) → all_ascii_digits ds ≡ true → digit_count rest ≡ 0 →
    digit_count (ds ++ rest) ≡ length ds
count_append [] rest h e = e
count_append (d ∷ ds) rest h e =
    let b = and_parts (is_ascii_digit d) (all_ascii_digits ds) h in
    rw b.0 (omega (arith, count_append ds rest b.1 e))

first_append : (ds rest : List ℕ) → all_ascii_digits ds ≡ true → digit_count rest ≡ 0 → first_digits (ds ++ rest) ≡ ds
first_append ds rest h e = take_at ds rest (digit_count (ds ++ rest)) (sym (count_append ds rest h e))

behind_append : (ds rest : List ℕ) → all_ascii_digits ds ≡ true → digit_count rest ≡ 0 →
    behind_digits (ds ++ rest) ≡ rest
behind_append ds rest h e = drop_at ds rest (digit_count (ds ++ rest)) (sym (count_append ds rest h e))

first_are_digits : (xs : List ℕ) → all_ascii_digits (first_digits xs) ≡ true
first_are_digits [] = refl
first_are_digits (x ∷ xs) = by (is_ascii_digit x) refl (first_are_digits xs)
  where
    by : (b : Bool) → is_ascii_digit x ≡ b → all_ascii_digits (first_digits xs) ≡ true →
        all_ascii_digits (take (cond b (1 + digit_count xs) 0) (x ∷ xs)) ≡ true
    by true e h = let k : 1 + digit_count xs ≡ suc (digit_count xs) = omega arith in rw (k, e) h
    by false e h = refl

in_two : (n : ℕ) (xs : List ℕ) → take n xs ++ drop n xs ≡ xs
in_two zero xs = refl
in_two (suc n) [] = refl
in_two (suc n) (x ∷ xs) = ap (λ ys. x ∷ ys) (in_two n xs)

-- ---- signs

-- a text that begins with no sign
abbrev IsUnsigned : List ℕ → Type 0
IsUnsigned text = (eqb (get_or text 0 0) 43 ≡ false) × (eqb (get_or text 0 0) 45 ≡ false)

sign_back : (s : Sign) (text : List ℕ) → IsUnsigned text → sign_of (sign_text s ++ text) ≡ s
sign_back unwritten text h = rw (h.0, h.1) refl
sign_back plus text h = refl
sign_back minus text h = refl

behind_back : (s : Sign) (text : List ℕ) → IsUnsigned text → behind_sign (sign_text s ++ text) ≡ text
behind_back unwritten text h = rw (h.0, h.1) refl
behind_back plus text h = refl
behind_back minus text h = refl

-- a text is its sign and what stands behind it
sign_joined : (text : List ℕ) → sign_text (sign_of text) ++ behind_sign text ≡ text
sign_joined text = by (eqb (get_or text 0 0) 43) refl (eqb (get_or text 0 0) 45) refl
  where
    cut : (c : ℕ) (xs : List ℕ) → get_or xs 0 0 ≡ suc c → suc c ∷ drop 1 xs ≡ xs
    cut c [] e = absurd (omega arith)
    cut c (x ∷ xs) e = ap (λ y. y ∷ xs) (sym e)

    by : (p : Bool) → eqb (get_or text 0 0) 43 ≡ p → (m : Bool) → eqb (get_or text 0 0) 45 ≡ m →
        sign_text (cond p plus (cond m minus unwritten)) ++ cond (p || m) (drop 1 text) text ≡ text
    by true e m f = cut 42 text (eqb-true (get_or text 0 0) 43 e)
    by false e true f = cut 44 text (eqb-true (get_or text 0 0) 45 f)
    by false e false f = refl

-- ---- parts

no_digit_in_power : (p : Option Power) → is_power p ≡ true → digit_count (power_text p) ≡ 0
no_digit_in_power None h = refl
no_digit_in_power (Some p) h =
    let r = e_is p.letter (and_parts (is_e p.letter) (is_number p.digits) h).0 in
    let e = no_digit p.letter (λ d. absurd (omega (arith, d.0, d.1, r.0))) in rw e refl

no_point_in_power : (p : Option Power) → is_power p ≡ true → eqb (get_or (power_text p) 0 0) 46 ≡ false
no_point_in_power None h = refl
no_point_in_power (Some p) h =
    let r = e_is p.letter (and_parts (is_e p.letter) (is_number p.digits) h).0 in
    other_than p.letter 46 (λ d. absurd (omega (arith, d, r.0)))

no_digit_after : (part : Option (List ℕ)) (power : Option Power) → is_power power ≡ true →
    digit_count (part_text part ++ power_text power) ≡ 0
no_digit_after None power h = no_digit_in_power power h
no_digit_after (Some ds) power h = refl

part_back : (part : Option (List ℕ)) (power : Option Power) → all_ascii_digits (part_digits part) ≡ true →
    is_power power ≡ true → part_of (part_text part ++ power_text power) ≡ part
part_back None power d h = rw (no_point_in_power power h) refl
part_back (Some ds) power d h = ap Some (first_append ds (power_text power) d (no_digit_in_power power h))

behind_part_back : (part : Option (List ℕ)) (power : Option Power) → all_ascii_digits (part_digits part) ≡ true →
    is_power power ≡ true → behind_part (part_text part ++ power_text power) ≡ power_text power
behind_part_back None power d h = rw (no_point_in_power power h) refl
behind_part_back (Some ds) power d h = behind_append ds (power_text power) d (no_digit_in_power power h)

part_joined : (text : List ℕ) → part_text (part_of text) ++ behind_part text ≡ text
part_joined text = by (eqb (get_or text 0 0) 46) refl
  where
    cut : (xs : List ℕ) → get_or xs 0 0 ≡ 46 → 46 ∷ drop 1 xs ≡ xs
    cut [] e = absurd (omega arith)
    cut (x ∷ xs) e = ap (λ y. y ∷ xs) (sym e)

    by : (b : Bool) → eqb (get_or text 0 0) 46 ≡ b →
        part_text (cond b (Some (first_digits (drop 1 text))) None) ++ cond b (behind_digits (drop 1 text)) text ≡ text
    by true e = ap (λ xs. 46 ∷ xs) (in_two (digit_count (drop 1 text)) (drop 1 text))
        ∙ cut text (eqb-true (get_or text 0 0) 46 e)
    by false e = refl

part_are_digits : (text : List ℕ) → all_ascii_digits (part_digits (part_of text)) ≡ true
part_are_digits text = by (eqb (get_or text 0 0) 46)
  where
    by : (b : Bool) → all_ascii_digits (part_digits (cond b (Some (first_digits (drop 1 text))) None)) ≡ true
    by true = first_are_digits (drop 1 text)
    by false = refl

-- ---- powers

digits_unsigned : (ds : List ℕ) → all_ascii_digits ds ≡ true → IsUnsigned ds
digits_unsigned [] h = (refl, refl)
digits_unsigned (d ∷ ds) h =
    let r = digit_range d (and_parts (is_ascii_digit d) (all_ascii_digits ds) h).0 in
    (other_than d 43 (λ e. absurd (omega (arith, e, r.0))), other_than d 45 (λ e. absurd (omega (arith, e, r.0))))

power_back : (p : Option Power) → is_power p ≡ true → power_of (power_text p) ≡ Some p
power_back None h = refl
power_back (Some p) h =
    let b = and_parts (is_e p.letter) (is_number p.digits) h in
    let u = digits_unsigned p.digits (is_digits p.digits b.1) in
    rw (b.0, behind_back p.sign p.digits u, sign_back p.sign p.digits u, b.1) refl

power_joined : (text : List ℕ) (p : Option Power) → power_of text ≡ Some p → (is_power p ≡ true) × (power_text p ≡ text)
power_joined [] p e = let k : None ≡ p = cc in subst (λ q. (is_power q ≡ true) × (power_text q ≡ [])) k (refl, refl)
power_joined (c ∷ cs) p e = by (is_e c) refl (is_number (behind_sign cs)) refl e
  where
    found : Option Power
    found = Some (record { letter = c; sign = sign_of cs; digits = behind_sign cs })

    by : (a : Bool) → is_e c ≡ a → (b : Bool) → is_number (behind_sign cs) ≡ b →
        cond (a && b) (Some found) None ≡ Some p → (is_power p ≡ true) × (power_text p ≡ c ∷ cs)
    by true s true t e =
        let k : found ≡ p = cc in
        subst (λ q. (is_power q ≡ true) × (power_text q ≡ c ∷ cs)) k (
          rw (s, t) refl,
          ap (λ xs. c ∷ xs) (sign_joined cs),
        )
    by true s false t e = absurd cc
    by false s b t e = absurd cc

-- ---- the whole numeral

-- the numeral of a text that is cut behind its first digits, and of one that is cut behind its part
abbrev of_cut : Sign → ℕ → List ℕ → List ℕ → Option Numeral
of_cut sign count whole rest =
    cond (nat_lt 0 (count + length (part_digits (part_of rest))))
    (option_map (λ p. record { sign = sign; whole = whole; part = part_of rest; power = p })
    (power_of (behind_part rest))) None

abbrev of_parts : Sign → ℕ → List ℕ → Option (List ℕ) → List ℕ → Option Numeral
of_parts sign count whole part tail =
    cond (nat_lt 0 (count + length (part_digits part)))
    (option_map (λ p. record { sign = sign; whole = whole; part = part; power = p }) (power_of tail)) None

abbrev body_of : Numeral → List ℕ
body_of n = n.whole ++ (part_text n.part ++ power_text n.power)

whole_digits : (n : Numeral) → IsNumeral n → all_ascii_digits n.whole ≡ true
whole_digits n h =
    (and_parts _ _ (sym (digits_append n.whole (part_digits n.part))
    ∙ is_digits (n.whole ++ part_digits n.part) h.digits)).0

digits_of_part : (n : Numeral) → IsNumeral n → all_ascii_digits (part_digits n.part) ≡ true
digits_of_part n h =
    (and_parts (all_ascii_digits n.whole) _ (sym (digits_append n.whole (part_digits n.part))
    ∙ is_digits (n.whole ++ part_digits n.part) h.digits)).1

body_unsigned : (whole : List ℕ) (part : Option (List ℕ)) (power : Option Power) → all_ascii_digits whole ≡ true →
    0 < length (whole ++ part_digits part) → IsUnsigned (whole ++ (part_text part ++ power_text power))
body_unsigned (d ∷ ds) part power h some =
    let r = digit_range d (and_parts (is_ascii_digit d) (all_ascii_digits ds) h).0 in
    (other_than d 43 (λ e. absurd (omega (arith, e, r.0))), other_than d 45 (λ e. absurd (omega (arith, e, r.0))))
body_unsigned [] (Some ds) power h some = (refl, refl)
body_unsigned [] None power h some = absurd (omega arith)

numeral_from : (n : Numeral) → IsNumeral n → unsigned_of n.sign (body_of n) ≡ Some n
numeral_from n h =
    let d = whole_digits n h in let p = digits_of_part n h in
    let rest = part_text n.part ++ power_text n.power in
    let none = no_digit_after n.part n.power h.power in
    let some : nat_lt 0 (length n.whole + length (part_digits n.part)) ≡ true =
    (let k : 0 < length n.whole + length (part_digits n.part) = omega (
      arith,
      is_some (n.whole ++ part_digits n.part) h.digits,
      length-append n.whole (part_digits n.part),
    ) in
    search (rules, tests)) in
    (λ i. of_cut n.sign (count_append n.whole rest d none i) (first_append n.whole rest d none i)
    (behind_append n.whole rest d none i))
    ∙ (λ i. of_parts n.sign (length n.whole) n.whole (part_back n.part n.power p h.power i)
    (behind_part_back n.part n.power p h.power i))
    ∙ rw (some, power_back n.power h.power) refl

-- reading the text of a numeral gives it back
pub numeral_back : (n : Numeral) → IsNumeral n → numeral_of (numeral_text n) ≡ Some n
unfolding numeral_of
numeral_back n h =
    let u =
    body_unsigned n.whole n.part n.power (whole_digits n h) (is_some (n.whole ++ part_digits n.part) h.digits) in
    (λ i. unsigned_of (sign_back n.sign (body_of n) u i) (behind_back n.sign (body_of n) u i)) ∙ numeral_from n h

cut_digits : (body : List ℕ) →
    nat_lt 0 (digit_count body + length (part_digits (part_of (behind_digits body)))) ≡ true →
    is_number (first_digits body ++ part_digits (part_of (behind_digits body))) ≡ true
cut_digits body e =
    let part = part_digits (part_of (behind_digits body)) in
    let k : 0 < digit_count body + length part = search (rules, tests) in
    let some : nat_lt 0 (length (first_digits body ++ part)) ≡ true =
    (let l : 0 < length (first_digits body ++ part) = omega (
      arith,
      k,
      length-append (first_digits body) part,
      length-prefix_len is_ascii_digit body,
    ) in search (rules, tests)) in
    rw (digits_append (first_digits body) part, first_are_digits body, part_are_digits (behind_digits body), some) refl

-- the numeral of a text has that text
pub numeral_joined : (text : List ℕ) (n : Numeral) → numeral_of text ≡ Some n → IsNumeral n × (numeral_text n ≡ text)
unfolding numeral_of
numeral_joined text n e =
    by (nat_lt 0 (digit_count body + length (part_digits (part_of rest)))) refl (power_of (behind_part rest)) refl e
  where
    body : List ℕ
    body = behind_sign text

    rest : List ℕ
    rest = behind_digits body

    found : Option Power → Numeral
    found p = record { sign = sign_of text; whole = first_digits body; part = part_of rest; power = p }

    by : (b : Bool) → nat_lt 0 (digit_count body + length (part_digits (part_of rest))) ≡ b →
        (o : Option (Option Power)) → power_of (behind_part rest) ≡ o → cond b (option_map found o) None ≡ Some n →
        IsNumeral n × (numeral_text n ≡ text)
    by true s (Some p) t e =
        let k : found p ≡ n = cc in
        let j = power_joined (behind_part rest) p t in
        subst (λ m. IsNumeral m × (numeral_text m ≡ text)) k (
          record { digits = cut_digits body s; power = j.0 },
          ap (λ xs. sign_text (sign_of text) ++ (first_digits body ++ (part_text (part_of rest) ++ xs))) j.1
              ∙ ap (λ xs. sign_text (sign_of text) ++ (first_digits body ++ xs)) (part_joined rest)
              ∙ ap (λ xs. sign_text (sign_of text) ++ xs) (in_two (digit_count body) body)
              ∙ sign_joined text,
        )
    by true s None t e = absurd cc
    by false s o t e = absurd cc
