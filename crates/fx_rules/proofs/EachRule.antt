-- Each rule keeps the value of what it rewrites: a lemma of algebra for each, and the list of all at the end.
use Rattle.std.proofs.Common.{◌≡◌, ⊎_elim, zero, suc, pos, negsuc, ℤ, ◌*ℤ◌, [], ◌∷◌, Option, Some, None, refl, arith}
use Rattle.std.proofs.lemmas.Int.{ints}
use Rattle.fx_rational.specs.Rational.{Rational, whole, over, plus, minus, negative, times, quotient, lowest, Equal}
use Rattle.fx_model.specs.Tree.{on_one, on_two, always, value_of}
use Rattle.fx_rational.proofs.Ring.{by_quotes, quotes}
use Rattle.fx_rational.proofs.Laws.{equal_refl, equal_sym, equal_trans, times_same, plus_same}
use Rattle.fx_rational.proofs.Quotient.{quotient_is, quotient_none, quotient_some, quotient_back, times_cancel_any, zero_or_not}
use Rattle.fx_rational.proofs.Lowest.{lowest_is}
use Rattle.fx_rational.specs.Laws.{SameOption}
use Rattle.fx_model.specs.Rules.{rules}
use Rattle.fx_rules.proofs.Rows.{AreRules}

-- the operations where their operands are defined
abbrev pub add : Option Rational → Option Rational → Option Rational
add p q = on_two (always plus) p q

abbrev pub sub : Option Rational → Option Rational → Option Rational
sub p q = on_two (always minus) p q

abbrev pub mul : Option Rational → Option Rational → Option Rational
mul p q = on_two (always times) p q

abbrev pub div : Option Rational → Option Rational → Option Rational
div p q = on_two quotient p q

abbrev pub neg : Option Rational → Option Rational
neg p = on_one negative p

pub same_refl : (p : Option Rational) → SameOption p p
same_refl None = tt {0}
same_refl (Some x) = equal_refl x

pub same_sym : (p q : Option Rational) → SameOption p q → SameOption q p
same_sym None None h = tt {0}
same_sym None (Some y) h = absurd h
same_sym (Some x) None h = absurd h
same_sym (Some x) (Some y) h = equal_sym h

pub same_trans : (p q r : Option Rational) → SameOption p q → SameOption q r → SameOption p r
same_trans None None r h k = k
same_trans None (Some y) r h k = absurd h
same_trans (Some x) None r h k = absurd h
same_trans (Some x) (Some y) None h k = absurd k
same_trans (Some x) (Some y) (Some z) h k = equal_trans h k

-- ---- quotients
pub quotient_by : (x y v : Rational) → (y.top ≡ pos 0 → ⊥) → Equal (times v y) x → SameOption (quotient x y) (Some v)
quotient_by x y v n h =
    let a = quotient_is x y n in
    let same : Equal a.value v = times_cancel_any a.value v y n (equal_trans a.back (equal_sym h)) in
    rw a.is same

nonzero_product : (m n : ℤ) → (m ≡ pos 0 → ⊥) → (n ≡ pos 0 → ⊥) → m *ℤ n ≡ pos 0 → ⊥
nonzero_product (pos zero) n h k e = h refl
nonzero_product m (pos zero) h k e = k refl
nonzero_product (pos (suc m)) (pos (suc n)) h k e = omega (arith, ints)
nonzero_product (pos (suc m)) (negsuc n) h k e = omega (arith, ints)
nonzero_product (negsuc m) (pos (suc n)) h k e = omega (arith, ints)
nonzero_product (negsuc m) (negsuc n) h k e = omega (arith, ints)

nonzero_times : (x y : Rational) → (x.top ≡ pos 0 → ⊥) → (y.top ≡ pos 0 → ⊥) → (times x y).top ≡ pos 0 → ⊥
unfolding times over
nonzero_times x y h k e = nonzero_product x.top y.top h k e

zero_left : (x y : Rational) → x.top ≡ pos 0 → (times x y).top ≡ pos 0
unfolding times over
zero_left x y e = rw e (let k : pos 0 *ℤ y.top ≡ pos 0 = omega (arith, ints) in k)

zero_right : (x y : Rational) → y.top ≡ pos 0 → (times x y).top ≡ pos 0
unfolding times over
zero_right x y e = rw e (let k : x.top *ℤ pos 0 ≡ pos 0 = omega (arith, ints) in k)

none_sum : (a c : Rational) → SameOption None (add (quotient a c) None)
none_sum a c = go (quotient a c) where
  go : (v : Option Rational) → SameOption None (add v None)
  go None = tt {0}
  go (Some v) = tt {0}

none_after : (a b : Rational) → SameOption (div (quotient a b) None) None
none_after a b = go (quotient a b) where
  go : (v : Option Rational) → SameOption (div v None) None
  go None = tt {0}
  go (Some v) = tt {0}

sum_over : (a b c : Rational) → SameOption (quotient (plus a b) c) (add (quotient a c) (quotient b c))
sum_over a b c = ⊎_elim
    (λ (e : c.top ≡ pos 0). rw (quotient_none (plus a b) c e, quotient_none a c e) (tt {0}))
    (λ (n : c.top ≡ pos 0 → ⊥).
    let u = quotient_is a c n in let v = quotient_is b c n in
    let back : Equal (times (plus u.value v.value) c) (plus a b) =
    equal_trans (by_quotes {ρ = u.value ∷ v.value ∷ c ∷ []} {b = plus (times u.value c) (times v.value c)}
    (search quotes depth 20) (search quotes depth 20) refl) (plus_same u.back v.back) in
    rw (u.is, v.is) (quotient_by (plus a b) c (plus u.value v.value) n back))
    (zero_or_not c.top)

twice_over : (a b c : Rational) → SameOption (div (quotient a b) (Some c)) (quotient a (times b c))
twice_over a b c = ⊎_elim
    (λ (e : b.top ≡ pos 0). rw (quotient_none a b e, quotient_none a (times b c) (zero_left b c e)) (tt {0}))
    (λ (n : b.top ≡ pos 0 → ⊥).
    let u = quotient_is a b n in
    rw u.is (⊎_elim
    (λ (e : c.top ≡ pos 0). rw (quotient_none u.value c e, quotient_none a (times b c) (zero_right b c e)) (tt {0}))
    (λ (m : c.top ≡ pos 0 → ⊥).
    let w = quotient_is u.value c m in
    let back : Equal (times w.value (times b c)) a =
    equal_trans (by_quotes {ρ = w.value ∷ b ∷ c ∷ []} {b = times (times w.value c) b} (search quotes depth 20)
    (search quotes depth 20) refl) (equal_trans (times_same w.back (equal_refl b)) u.back) in
    rw w.is (same_sym (quotient a (times b c)) (Some w.value)
    (quotient_by a (times b c) w.value (nonzero_times b c n m) back)))
    (zero_or_not c.top)))
    (zero_or_not b.top)

-- ---- the rules without literals
pub rule_1 : (p q : Option Rational) → SameOption (add p q) (add q p)
rule_1 None None = tt {0}
rule_1 None (Some q) = tt {0}
rule_1 (Some p) None = tt {0}
rule_1 (Some p) (Some q) = by_quotes {ρ = p ∷ q ∷ []} (search quotes depth 20) (search quotes depth 20) refl

pub rule_2 : (p q r : Option Rational) → SameOption (add (add p q) r) (add p (add q r))
rule_2 None None None = tt {0}
rule_2 None None (Some r) = tt {0}
rule_2 None (Some q) None = tt {0}
rule_2 None (Some q) (Some r) = tt {0}
rule_2 (Some p) None None = tt {0}
rule_2 (Some p) None (Some r) = tt {0}
rule_2 (Some p) (Some q) None = tt {0}
rule_2 (Some p) (Some q) (Some r) =
    by_quotes {ρ = p ∷ q ∷ r ∷ []} (search quotes depth 20) (search quotes depth 20) refl

pub rule_3 : (p q r : Option Rational) → SameOption (add p (add q r)) (add (add p q) r)
rule_3 None None None = tt {0}
rule_3 None None (Some r) = tt {0}
rule_3 None (Some q) None = tt {0}
rule_3 None (Some q) (Some r) = tt {0}
rule_3 (Some p) None None = tt {0}
rule_3 (Some p) None (Some r) = tt {0}
rule_3 (Some p) (Some q) None = tt {0}
rule_3 (Some p) (Some q) (Some r) =
    by_quotes {ρ = p ∷ q ∷ r ∷ []} (search quotes depth 20) (search quotes depth 20) refl

pub rule_4 : (p q : Option Rational) → SameOption (mul p q) (mul q p)
rule_4 None None = tt {0}
rule_4 None (Some q) = tt {0}
rule_4 (Some p) None = tt {0}
rule_4 (Some p) (Some q) = by_quotes {ρ = p ∷ q ∷ []} (search quotes depth 20) (search quotes depth 20) refl

pub rule_5 : (p q r : Option Rational) → SameOption (mul (mul p q) r) (mul p (mul q r))
rule_5 None None None = tt {0}
rule_5 None None (Some r) = tt {0}
rule_5 None (Some q) None = tt {0}
rule_5 None (Some q) (Some r) = tt {0}
rule_5 (Some p) None None = tt {0}
rule_5 (Some p) None (Some r) = tt {0}
rule_5 (Some p) (Some q) None = tt {0}
rule_5 (Some p) (Some q) (Some r) =
    by_quotes {ρ = p ∷ q ∷ r ∷ []} (search quotes depth 20) (search quotes depth 20) refl

pub rule_6 : (p q r : Option Rational) → SameOption (mul p (mul q r)) (mul (mul p q) r)
rule_6 None None None = tt {0}
rule_6 None None (Some r) = tt {0}
rule_6 None (Some q) None = tt {0}
rule_6 None (Some q) (Some r) = tt {0}
rule_6 (Some p) None None = tt {0}
rule_6 (Some p) None (Some r) = tt {0}
rule_6 (Some p) (Some q) None = tt {0}
rule_6 (Some p) (Some q) (Some r) =
    by_quotes {ρ = p ∷ q ∷ r ∷ []} (search quotes depth 20) (search quotes depth 20) refl

pub rule_7 : (p q r : Option Rational) → SameOption (mul p (add q r)) (add (mul p q) (mul p r))
rule_7 None None None = tt {0}
rule_7 None None (Some r) = tt {0}
rule_7 None (Some q) None = tt {0}
rule_7 None (Some q) (Some r) = tt {0}
rule_7 (Some p) None None = tt {0}
rule_7 (Some p) None (Some r) = tt {0}
rule_7 (Some p) (Some q) None = tt {0}
rule_7 (Some p) (Some q) (Some r) =
    by_quotes {ρ = p ∷ q ∷ r ∷ []} (search quotes depth 20) (search quotes depth 20) refl

pub rule_8 : (p q r : Option Rational) → SameOption (mul (add p q) r) (add (mul p r) (mul q r))
rule_8 None None None = tt {0}
rule_8 None None (Some r) = tt {0}
rule_8 None (Some q) None = tt {0}
rule_8 None (Some q) (Some r) = tt {0}
rule_8 (Some p) None None = tt {0}
rule_8 (Some p) None (Some r) = tt {0}
rule_8 (Some p) (Some q) None = tt {0}
rule_8 (Some p) (Some q) (Some r) =
    by_quotes {ρ = p ∷ q ∷ r ∷ []} (search quotes depth 20) (search quotes depth 20) refl

pub rule_9 : (p q r : Option Rational) → SameOption (mul p (sub q r)) (sub (mul p q) (mul p r))
rule_9 None None None = tt {0}
rule_9 None None (Some r) = tt {0}
rule_9 None (Some q) None = tt {0}
rule_9 None (Some q) (Some r) = tt {0}
rule_9 (Some p) None None = tt {0}
rule_9 (Some p) None (Some r) = tt {0}
rule_9 (Some p) (Some q) None = tt {0}
rule_9 (Some p) (Some q) (Some r) =
    by_quotes {ρ = p ∷ q ∷ r ∷ []} (search quotes depth 20) (search quotes depth 20) refl

pub rule_10 : (p q r : Option Rational) → SameOption (mul (sub p q) r) (sub (mul p r) (mul q r))
rule_10 None None None = tt {0}
rule_10 None None (Some r) = tt {0}
rule_10 None (Some q) None = tt {0}
rule_10 None (Some q) (Some r) = tt {0}
rule_10 (Some p) None None = tt {0}
rule_10 (Some p) None (Some r) = tt {0}
rule_10 (Some p) (Some q) None = tt {0}
rule_10 (Some p) (Some q) (Some r) =
    by_quotes {ρ = p ∷ q ∷ r ∷ []} (search quotes depth 20) (search quotes depth 20) refl

pub rule_11 : (p q r : Option Rational) → SameOption (add (mul p q) (mul p r)) (mul p (add q r))
rule_11 None None None = tt {0}
rule_11 None None (Some r) = tt {0}
rule_11 None (Some q) None = tt {0}
rule_11 None (Some q) (Some r) = tt {0}
rule_11 (Some p) None None = tt {0}
rule_11 (Some p) None (Some r) = tt {0}
rule_11 (Some p) (Some q) None = tt {0}
rule_11 (Some p) (Some q) (Some r) =
    by_quotes {ρ = p ∷ q ∷ r ∷ []} (search quotes depth 20) (search quotes depth 20) refl

pub rule_12 : (p q r : Option Rational) → SameOption (add (mul p r) (mul q r)) (mul (add p q) r)
rule_12 None None None = tt {0}
rule_12 None None (Some r) = tt {0}
rule_12 None (Some q) None = tt {0}
rule_12 None (Some q) (Some r) = tt {0}
rule_12 (Some p) None None = tt {0}
rule_12 (Some p) None (Some r) = tt {0}
rule_12 (Some p) (Some q) None = tt {0}
rule_12 (Some p) (Some q) (Some r) =
    by_quotes {ρ = p ∷ q ∷ r ∷ []} (search quotes depth 20) (search quotes depth 20) refl

pub rule_13 : (p q r : Option Rational) → SameOption (sub (mul p q) (mul p r)) (mul p (sub q r))
rule_13 None None None = tt {0}
rule_13 None None (Some r) = tt {0}
rule_13 None (Some q) None = tt {0}
rule_13 None (Some q) (Some r) = tt {0}
rule_13 (Some p) None None = tt {0}
rule_13 (Some p) None (Some r) = tt {0}
rule_13 (Some p) (Some q) None = tt {0}
rule_13 (Some p) (Some q) (Some r) =
    by_quotes {ρ = p ∷ q ∷ r ∷ []} (search quotes depth 20) (search quotes depth 20) refl

pub rule_14 : (p q r : Option Rational) → SameOption (sub (mul p r) (mul q r)) (mul (sub p q) r)
rule_14 None None None = tt {0}
rule_14 None None (Some r) = tt {0}
rule_14 None (Some q) None = tt {0}
rule_14 None (Some q) (Some r) = tt {0}
rule_14 (Some p) None None = tt {0}
rule_14 (Some p) None (Some r) = tt {0}
rule_14 (Some p) (Some q) None = tt {0}
rule_14 (Some p) (Some q) (Some r) =
    by_quotes {ρ = p ∷ q ∷ r ∷ []} (search quotes depth 20) (search quotes depth 20) refl

pub rule_15 : (p q : Option Rational) → SameOption (sub p q) (add p (neg q))
rule_15 None None = tt {0}
rule_15 None (Some q) = tt {0}
rule_15 (Some p) None = tt {0}
rule_15 (Some p) (Some q) = by_quotes {ρ = p ∷ q ∷ []} (search quotes depth 20) (search quotes depth 20) refl

pub rule_16 : (p q : Option Rational) → SameOption (add p (neg q)) (sub p q)
rule_16 None None = tt {0}
rule_16 None (Some q) = tt {0}
rule_16 (Some p) None = tt {0}
rule_16 (Some p) (Some q) = by_quotes {ρ = p ∷ q ∷ []} (search quotes depth 20) (search quotes depth 20) refl

pub rule_17 : (p : Option Rational) → SameOption (neg (neg p)) (p)
rule_17 None = tt {0}
rule_17 (Some p) = by_quotes {ρ = p ∷ []} (search quotes depth 20) (search quotes depth 20) refl

pub rule_18 : (p q : Option Rational) → SameOption (neg (mul p q)) (mul (neg p) q)
rule_18 None None = tt {0}
rule_18 None (Some q) = tt {0}
rule_18 (Some p) None = tt {0}
rule_18 (Some p) (Some q) = by_quotes {ρ = p ∷ q ∷ []} (search quotes depth 20) (search quotes depth 20) refl

pub rule_19 : (p q : Option Rational) → SameOption (mul (neg p) q) (neg (mul p q))
rule_19 None None = tt {0}
rule_19 None (Some q) = tt {0}
rule_19 (Some p) None = tt {0}
rule_19 (Some p) (Some q) = by_quotes {ρ = p ∷ q ∷ []} (search quotes depth 20) (search quotes depth 20) refl

pub rule_20 : (p q : Option Rational) → SameOption (neg (add p q)) (add (neg p) (neg q))
rule_20 None None = tt {0}
rule_20 None (Some q) = tt {0}
rule_20 (Some p) None = tt {0}
rule_20 (Some p) (Some q) = by_quotes {ρ = p ∷ q ∷ []} (search quotes depth 20) (search quotes depth 20) refl

pub rule_21 : (p q r : Option Rational) → SameOption (div (add p q) r) (add (div p r) (div q r))
rule_21 None None None = tt {0}
rule_21 None None (Some r) = tt {0}
rule_21 None (Some q) None = tt {0}
rule_21 None (Some q) (Some r) = tt {0}
rule_21 (Some p) None None = tt {0}
rule_21 (Some p) None (Some r) = none_sum p r
rule_21 (Some p) (Some q) None = tt {0}
rule_21 (Some p) (Some q) (Some r) = sum_over p q r

pub rule_22 : (p q r : Option Rational) → SameOption (add (div p r) (div q r)) (div (add p q) r)
rule_22 p q r = same_sym (div (add p q) r) (add (div p r) (div q r)) (rule_21 p q r)

pub rule_23 : (p q r : Option Rational) → SameOption (div (div p q) r) (div p (mul q r))
rule_23 None None None = tt {0}
rule_23 None None (Some r) = tt {0}
rule_23 None (Some q) None = tt {0}
rule_23 None (Some q) (Some r) = tt {0}
rule_23 (Some p) None None = tt {0}
rule_23 (Some p) None (Some r) = tt {0}
rule_23 (Some p) (Some q) None = none_after p q
rule_23 (Some p) (Some q) (Some r) = twice_over p q r

pub rule_24 : (p q r : Option Rational) → SameOption (div p (mul q r)) (div (div p q) r)
rule_24 p q r = same_sym (div (div p q) r) (div p (mul q r)) (rule_23 p q r)

-- ---- the rules with literals
pub lowest_same : (q v : Rational) → v ≡ lowest q → Equal v q
lowest_same q v e = rw e (lowest_is.same q)

pub rule_25 : (p : Option Rational) (l q v : Rational) → quotient (whole (pos 1)) l ≡ Some q → v ≡ lowest q →
    SameOption (div p (Some l)) (mul p (Some v))
rule_25 None l q v e low = tt {0}
rule_25 (Some a) l q v e low =
    let back : Equal (times q l) (whole (pos 1)) = quotient_back (whole (pos 1)) l q e in
    let one : Equal (times v l) (whole (pos 1)) = equal_trans (times_same (lowest_same q v low) (equal_refl l)) back in
    quotient_by a l (times a v) (quotient_some (whole (pos 1)) l q e)
    (equal_trans (by_quotes {ρ = a ∷ v ∷ l ∷ []} {b = times a (times v l)} (search quotes depth 20)
    (search quotes depth 20) refl)
    (equal_trans (times_same (equal_refl a) one)
    (by_quotes {ρ = a ∷ []} (search quotes depth 20) (search quotes depth 20) refl)))

pub rule_folded : (p : Option Rational) (q v : Rational) → p ≡ Some q → v ≡ lowest q → SameOption p (Some v)
rule_folded p q v e low = rw e (equal_sym (lowest_same q v low))

-- ---- all of them
-- what holds of a row, and what holds of all behind it
infixr 30 ◌⊗◌
abbrev ◌⊗◌ : {A B : Type 0} → A → B → A × B
first ⊗ rest = (first, rest)

pub all_rules : AreRules rules
all_rules =
    record {
      sound = λ s f. ((λ t x y. rule_1 (value_of s.a t x y) (value_of s.b t x y)), (λ i k m h. assumption));
      finds = refl;
      value = λ s t e. refl;
      right = λ s t e m. cc;
    }
    ⊗ record {
      sound = λ s f. ((λ t x y. rule_2 (value_of s.a t x y) (value_of s.b t x y) (value_of s.c t x y)), (λ i k m h. assumption));
      finds = refl;
      value = λ s t e. refl;
      right = λ s t e m. cc;
    }
    ⊗ record {
      sound = λ s f. ((λ t x y. rule_3 (value_of s.a t x y) (value_of s.b t x y) (value_of s.c t x y)), (λ i k m h. assumption));
      finds = refl;
      value = λ s t e. refl;
      right = λ s t e m. cc;
    }
    ⊗ record {
      sound = λ s f. ((λ t x y. rule_4 (value_of s.a t x y) (value_of s.b t x y)), (λ i k m h. assumption));
      finds = refl;
      value = λ s t e. refl;
      right = λ s t e m. cc;
    }
    ⊗ record {
      sound = λ s f. ((λ t x y. rule_5 (value_of s.a t x y) (value_of s.b t x y) (value_of s.c t x y)), (λ i k m h. assumption));
      finds = refl;
      value = λ s t e. refl;
      right = λ s t e m. cc;
    }
    ⊗ record {
      sound = λ s f. ((λ t x y. rule_6 (value_of s.a t x y) (value_of s.b t x y) (value_of s.c t x y)), (λ i k m h. assumption));
      finds = refl;
      value = λ s t e. refl;
      right = λ s t e m. cc;
    }
    ⊗ record {
      sound = λ s f. ((λ t x y. rule_7 (value_of s.a t x y) (value_of s.b t x y) (value_of s.c t x y)), (λ i k m h. assumption));
      finds = refl;
      value = λ s t e. refl;
      right = λ s t e m. cc;
    }
    ⊗ record {
      sound = λ s f. ((λ t x y. rule_8 (value_of s.a t x y) (value_of s.b t x y) (value_of s.c t x y)), (λ i k m h. assumption));
      finds = refl;
      value = λ s t e. refl;
      right = λ s t e m. cc;
    }
    ⊗ record {
      sound = λ s f. ((λ t x y. rule_9 (value_of s.a t x y) (value_of s.b t x y) (value_of s.c t x y)), (λ i k m h. assumption));
      finds = refl;
      value = λ s t e. refl;
      right = λ s t e m. cc;
    }
    ⊗ record {
      sound = λ s f. ((λ t x y. rule_10 (value_of s.a t x y) (value_of s.b t x y) (value_of s.c t x y)), (λ i k m h. assumption));
      finds = refl;
      value = λ s t e. refl;
      right = λ s t e m. cc;
    }
    ⊗ record {
      sound = λ s f. ((λ t x y. rule_11 (value_of s.a t x y) (value_of s.b t x y) (value_of s.c t x y)), (λ i k m h. assumption));
      finds = refl;
      value = λ s t e. refl;
      right = λ s t e m. cc;
    }
    ⊗ record {
      sound = λ s f. ((λ t x y. rule_12 (value_of s.a t x y) (value_of s.b t x y) (value_of s.c t x y)), (λ i k m h. assumption));
      finds = refl;
      value = λ s t e. refl;
      right = λ s t e m. cc;
    }
    ⊗ record {
      sound = λ s f. ((λ t x y. rule_13 (value_of s.a t x y) (value_of s.b t x y) (value_of s.c t x y)), (λ i k m h. assumption));
      finds = refl;
      value = λ s t e. refl;
      right = λ s t e m. cc;
    }
    ⊗ record {
      sound = λ s f. ((λ t x y. rule_14 (value_of s.a t x y) (value_of s.b t x y) (value_of s.c t x y)), (λ i k m h. assumption));
      finds = refl;
      value = λ s t e. refl;
      right = λ s t e m. cc;
    }
    ⊗ record {
      sound = λ s f. ((λ t x y. rule_15 (value_of s.a t x y) (value_of s.b t x y)), (λ i k m h. assumption));
      finds = refl;
      value = λ s t e. refl;
      right = λ s t e m. cc;
    }
    ⊗ record {
      sound = λ s f. ((λ t x y. rule_16 (value_of s.a t x y) (value_of s.b t x y)), (λ i k m h. assumption));
      finds = refl;
      value = λ s t e. refl;
      right = λ s t e m. cc;
    }
    ⊗ record {
      sound = λ s f. ((λ t x y. rule_17 (value_of s.a t x y)), (λ i k m h. assumption));
      finds = refl;
      value = λ s t e. refl;
      right = λ s t e m. cc;
    }
    ⊗ record {
      sound = λ s f. ((λ t x y. rule_18 (value_of s.a t x y) (value_of s.b t x y)), (λ i k m h. assumption));
      finds = refl;
      value = λ s t e. refl;
      right = λ s t e m. cc;
    }
    ⊗ record {
      sound = λ s f. ((λ t x y. rule_19 (value_of s.a t x y) (value_of s.b t x y)), (λ i k m h. assumption));
      finds = refl;
      value = λ s t e. refl;
      right = λ s t e m. cc;
    }
    ⊗ record {
      sound = λ s f. ((λ t x y. rule_20 (value_of s.a t x y) (value_of s.b t x y)), (λ i k m h. assumption));
      finds = refl;
      value = λ s t e. refl;
      right = λ s t e m. cc;
    }
    ⊗ record {
      sound = λ s f. ((λ t x y. rule_21 (value_of s.a t x y) (value_of s.b t x y) (value_of s.c t x y)), (λ i k m h. assumption));
      finds = refl;
      value = λ s t e. refl;
      right = λ s t e m. cc;
    }
    ⊗ record {
      sound = λ s f. ((λ t x y. rule_22 (value_of s.a t x y) (value_of s.b t x y) (value_of s.c t x y)), (λ i k m h. assumption));
      finds = refl;
      value = λ s t e. refl;
      right = λ s t e m. cc;
    }
    ⊗ record {
      sound = λ s f. ((λ t x y. rule_23 (value_of s.a t x y) (value_of s.b t x y) (value_of s.c t x y)), (λ i k m h. assumption));
      finds = refl;
      value = λ s t e. refl;
      right = λ s t e m. cc;
    }
    ⊗ record {
      sound = λ s f. ((λ t x y. rule_24 (value_of s.a t x y) (value_of s.b t x y) (value_of s.c t x y)), (λ i k m h. assumption));
      finds = refl;
      value = λ s t e. refl;
      right = λ s t e m. cc;
    }
    ⊗ record {
      sound = λ s f. ((λ t x y. rule_25 (value_of s.a t x y) s.l f.0 s.made f.1 f.2), (λ i k m h. assumption));
      finds = refl;
      value = λ s t e. cc;
      right = λ s t e m. cc;
    }
    ⊗ record {
      sound = λ s f. ((λ t x y. rule_folded (Some (plus s.l s.k)) f.0 s.made f.1 f.2), (λ i k m h. tt {0}));
      finds = refl;
      value = λ s t e. cc;
      right = λ s t e m. cc;
    }
    ⊗ record {
      sound = λ s f. ((λ t x y. rule_folded (Some (minus s.l s.k)) f.0 s.made f.1 f.2), (λ i k m h. tt {0}));
      finds = refl;
      value = λ s t e. cc;
      right = λ s t e m. cc;
    }
    ⊗ record {
      sound = λ s f. ((λ t x y. rule_folded (Some (times s.l s.k)) f.0 s.made f.1 f.2), (λ i k m h. tt {0}));
      finds = refl;
      value = λ s t e. cc;
      right = λ s t e m. cc;
    }
    ⊗ record {
      sound = λ s f. ((λ t x y. rule_folded (quotient s.l s.k) f.0 s.made f.1 f.2), (λ i k m h. tt {0}));
      finds = refl;
      value = λ s t e. cc;
      right = λ s t e m. cc;
    }
    ⊗ record {
      sound = λ s f. ((λ t x y. rule_folded (Some (negative s.l)) f.0 s.made f.1 f.2), (λ i k m h. tt {0}));
      finds = refl;
      value = λ s t e. cc;
      right = λ s t e m. cc;
    }
    ⊗ tt {0}
