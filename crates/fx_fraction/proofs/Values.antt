-- A reading has the value of its numeral.
use Rattle.std.proofs.Common.{◌≡◌, ◌≢◌, ◌⊎◌, ℕ, zero, suc, pred, ◌*◌, ◌%◌, ◌^◌, ◌<◌, ◌≤◌, ℤ, pos, negsuc, ◌*ℤ◌, Bool, true, false, cond, List, Option, Some, None, Result, Ok, Err, inl, inr, refl, sym, ap, subst, ◌∙◌, arith, rules, tests}
use Rattle.std.specs.Prelude.{nat_lt, nat_le, ◌&&◌, unsigned_abs}
use Rattle.std.proofs.Math.Nat.{pow-suc, mul-mod_left}
use Rattle.std.proofs.lemmas.Int.{unsigned_abs-mul}
use Rattle.fx_rational.specs.Rational.{Rational, over, Equal}
use Rattle.fx_rational.specs.Decimal.{Decimal, IsDecimal, decimal_value}
use Rattle.fx_rational.proofs.Lowest.{suc_pred}
use Rattle.fx_rational.proofs.Laws.{equal_sym, equal_trans}
use Rattle.fx_model.proofs.Spellings.{signed-mul}
use Rattle.fx_fraction.specs.declared.fault.NumberFault.{NumberFault}
use Rattle.fx_fraction.specs.declared.fault.NumberFault.TheVariants.{Malformed, TooLong}
use Rattle.fx_fraction.specs.Numeral.{Numeral, IsNumeral, numeral_text, numeral_of, is_minus, signed, mantissa, places}
use Rattle.fx_fraction.specs.DecimalOf.{trimmed, fewest_places, within_limits, decimal_from, decimal_of}
use Rattle.fx_fraction.specs.ReadingLaw.{over_tens, numeral_value, IsReading, ReadingLaw}
use Rattle.fx_fraction.proofs.Trimmed.{trimmed_is}
use Rattle.fx_fraction.proofs.Numerals.{numeral_back, numeral_joined}
use Rattle.fx_fraction.proofs.Quanta.{ten_pos}
use Rattle.fx_fraction.proofs.Terms.{signed_size}

-- a pair x.0 / 10^x.1 with the fewest places
abbrev IsFewest : ℕ → ℕ → Type 0
IsFewest a b = (b ≡ 0) ⊎ (a % 10 ≢ 0)

-- the value of such a pair
abbrev pair_value : Bool → ℕ × ℕ → Rational
pair_value s x = over (signed s x.0) (10 ^ x.1)

pub tens : (n : ℕ) → suc (pred (10 ^ n)) ≡ 10 ^ n
tens n = suc_pred (10 ^ n) (ten_pos n)

-- fewest_places keeps the value
fewest_value : (s : Bool) (n : ℕ) (p : ℤ) → Equal (pair_value s (fewest_places n p)) (over_tens (signed s n) p)
unfolding over
fewest_value s n (pos p) =
    let x = trimmed n p in
    record {
      equal = ap (λ (k : ℕ). signed s x.0 *ℤ pos k) (tens p) ∙ signed-mul s x.0 (10 ^ p)
          ∙ ap (signed s) (trimmed_is n p).value ∙ sym (signed-mul s n (10 ^ x.1))
          ∙ ap (λ (k : ℕ). signed s n *ℤ pos k) (sym (tens x.1));
    }
fewest_value s n (negsuc p) = record { equal = ap (λ z. z *ℤ pos 1) (sym (signed-mul s n (10 ^ suc p))) }

fewest_fewest : (n : ℕ) (p : ℤ) → IsFewest (fewest_places n p).0 (fewest_places n p).1
fewest_fewest n (pos p) = (trimmed_is n p).fewest
fewest_fewest n (negsuc p) = inl refl

-- two pairs with the fewest places and one value are one pair
ends_in_zero : (a c d : ℕ) → a * 10 ^ suc d ≡ c → c % 10 ≡ 0
ends_in_zero a c d e =
    let k : c ≡ a * 10 ^ d * 10 = (rw (pow-suc 10 d) at (sym e)) ∙ omega arith in
    rw k (mul-mod_left (a * 10 ^ d) 10)

not_zero_places : (a b : ℕ) → IsFewest a (suc b) → a % 10 ≢ 0
not_zero_places a b (inl e) = absurd (omega arith)
not_zero_places a b (inr h) = h

cancelled : (a p c q : ℕ) → a * (p * 10) ≡ c * (q * 10) → a * p ≡ c * q
cancelled a p c q e = omega (arith, e)

fewest_same : (a b c d : ℕ) → IsFewest a b → IsFewest c d → a * 10 ^ d ≡ c * 10 ^ b → (a ≡ c) × (b ≡ d)
fewest_same a zero c zero h k e = (omega arith, refl)
fewest_same a (suc b) c (suc d) h k e =
    let r =
    fewest_same a b c d (inr (not_zero_places a b h)) (inr (not_zero_places c d k))
    (cancelled a (10 ^ d) c (10 ^ b) (rw (pow-suc 10 d, pow-suc 10 b) at e)) in
    (r.0, ap suc r.1)
fewest_same a zero c (suc d) h k e = absurd (not_zero_places c d k (ends_in_zero a c d (omega (arith, e))))
fewest_same a (suc b) c zero h k e = absurd (not_zero_places a b h (ends_in_zero c a b (omega (arith, e))))

-- a decimal as such a pair
decimal_fewest : (d : Decimal) → IsDecimal d.a d.b → IsFewest (unsigned_abs d.a) d.b
decimal_fewest d k = by d.b k.fewest
  where
    by : (b : ℕ) → (0 < b → 0 < unsigned_abs d.a % 10) → IsFewest (unsigned_abs d.a) b
    by zero h = inl refl
    by (suc b) h = inr (λ e. absurd (let p : 0 < unsigned_abs d.a % 10 = h (omega arith) in omega arith))

fewest_some : (a b : ℕ) → IsFewest a b → 0 < b → 0 < a % 10
fewest_some a b (inl e) some = absurd (omega arith)
fewest_some a b (inr h) some = by (a % 10) h
  where
    by : (r : ℕ) → r ≢ 0 → 0 < r
    by zero h = absurd (h refl)
    by (suc r) h = omega arith

-- a decimal of the value of a pair with the fewest places is that pair
only_pair : (d : Decimal) (s : Bool) (x : ℕ × ℕ) → IsDecimal d.a d.b → IsFewest x.0 x.1 →
    Equal (decimal_value d) (pair_value s x) → (unsigned_abs d.a ≡ x.0) × (d.b ≡ x.1)
unfolding decimal_value over
only_pair d s x k h e =
    let g : d.a *ℤ pos (10 ^ x.1) ≡ signed s x.0 *ℤ pos (10 ^ d.b) = (λ i. d.a *ℤ pos (sym (tens x.1) i)) ∙ e.equal
    ∙ (λ i. signed s x.0 *ℤ pos (tens d.b i)) in
    fewest_same (unsigned_abs d.a) d.b x.0 x.1 (decimal_fewest d k) h
    (sym (unsigned_abs-mul d.a (pos (10 ^ x.1))) ∙ ap unsigned_abs g ∙ unsigned_abs-mul (signed s x.0) (pos (10 ^ d.b))
    ∙ ap (λ (n : ℕ). n * 10 ^ d.b) (signed_size s x.0))

-- the reading of a pair
pair_reading : (s : Bool) (x : ℕ × ℕ) (v : Rational) → IsFewest x.0 x.1 → Equal (pair_value s x) v →
    IsReading (within_limits s x) v
unfolding decimal_value
pair_reading s x v h e = by (nat_lt x.0 (2 ^ 62)) refl (nat_le x.1 18) refl
  where
    found : Result Decimal NumberFault
    found = Ok (record { a = signed s x.0; b = x.1 })

    by : (p : Bool) → nat_lt x.0 (2 ^ 62) ≡ p → (q : Bool) → nat_le x.1 18 ≡ q →
        IsReading (cond (p && q) found (Err TooLong)) v
    by true t true u =
        let small : x.0 < 2 ^ 62 = search (rules, tests) in
        let few : x.1 ≤ 18 = search (rules, tests) in (
          record {
            small = rw (signed_size s x.0) small;
            places = few;
            fewest = λ some. rw (signed_size s x.0) (fewest_some x.0 x.1 h some);
          },
          e,
        )
    by true t false u = λ d k f.
        let o = only_pair d s x k h (equal_trans f (equal_sym e)) in
        let few : x.1 ≤ 18 = (let p = k.places in omega (arith, o.1)) in
        let c : nat_le x.1 18 ≡ true = search (rules, tests) in absurd cc
    by false t q u = λ d k f.
        let o = only_pair d s x k h (equal_trans f (equal_sym e)) in
        let small : x.0 < 2 ^ 62 = (let p = k.small in omega (arith, o.0)) in
        let c : nat_lt x.0 (2 ^ 62) ≡ true = search (rules, tests) in absurd cc

numeral_reading : (n : Numeral) → IsReading (decimal_from (Some n)) (numeral_value n)
numeral_reading n =
    pair_reading (is_minus n.sign) (fewest_places (mantissa n) (places n)) (numeral_value n)
    (fewest_fewest (mantissa n) (places n)) (fewest_value (is_minus n.sign) (mantissa n) (places n))

text_reading : (n : Numeral) → IsNumeral n → IsReading (decimal_of (numeral_text n)) (numeral_value n)
unfolding decimal_of
text_reading n h =
    subst (λ o. IsReading (decimal_from o) (numeral_value n)) (sym (numeral_back n h)) (numeral_reading n)

-- ---- what is malformed

not_malformed : (r : Result Decimal NumberFault) (v : Rational) → IsReading r v → r ≡ Err Malformed → ⊥
not_malformed r v h e = subst (λ q. IsReading q v) e h

malformed_is : (text : List ℕ) → ((n : Numeral) → IsNumeral n → numeral_text n ≡ text → ⊥) →
    decimal_of text ≡ Err Malformed
unfolding decimal_of
malformed_is text none = by (numeral_of text) refl
  where
    by : (o : Option Numeral) → numeral_of text ≡ o → decimal_from o ≡ Err Malformed
    by None e = refl
    by (Some n) e = let j = numeral_joined text n e in absurd (none n j.0 j.1)

pub reading_is : ReadingLaw
reading_is = record {
  malformed =
      λ text. (
        λ e n h t. not_malformed (decimal_of (numeral_text n)) (numeral_value n) (text_reading n h)
            (ap decimal_of t ∙ e),
        malformed_is text,
      );
  one = λ n m h k e. (let s : Some n ≡ Some m = sym (numeral_back n h) ∙ ap numeral_of e ∙ numeral_back m k in cc);
  value = text_reading;
}
