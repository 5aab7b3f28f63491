-- Identities of fractions, by those of whole numbers at tops and bottoms.
use Rattle.std.proofs.Common.{◌≡◌, ℕ, zero, suc, pred, ◌*◌, refl, sym, ap, subst₂, ◌∙◌, arith, pos, ℤ, ◌+ℤ◌, ◌*ℤ◌, neg_ℤ, List, [], ◌∷◌, true}
use Rattle.fx_rational.proofs.IntegerRing.{Polynomial, var, lit, add, sub, mul, neg, at, polynomial_value, normal_form, vanishes, ring}
use Rattle.fx_rational.specs.Rational.{Rational, bottom, whole, over, plus, negative, minus, times, Equal}

abbrev pub nth : List Rational → ℕ → Rational
nth [] i = whole (pos 1)
nth (x ∷ ρ) zero = x
nth (x ∷ ρ) (suc i) = nth ρ i

-- what a quote says
abbrev pub value_said : Polynomial → List Rational → Rational
value_said (var i) ρ = nth ρ i
value_said (lit k) ρ = whole k
value_said (add a b) ρ = plus (value_said a ρ) (value_said b ρ)
value_said (sub a b) ρ = minus (value_said a ρ) (value_said b ρ)
value_said (mul a b) ρ = times (value_said a ρ) (value_said b ρ)
value_said (neg a) ρ = negative (value_said a ρ)

-- tops and bottoms in turn
abbrev pub tops_and_bottoms : List Rational → List ℤ
tops_and_bottoms [] = []
tops_and_bottoms (x ∷ ρ) = x.top ∷ pos (bottom x) ∷ tops_and_bottoms ρ

abbrev pub twice : ℕ → ℕ
twice zero = zero
twice (suc n) = suc (suc (twice n))

abbrev pub denominator_of : Polynomial → Polynomial
denominator_of (var i) = var (suc (twice i))
denominator_of (lit k) = lit (pos 1)
denominator_of (add a b) = mul (denominator_of a) (denominator_of b)
denominator_of (sub a b) = mul (denominator_of a) (denominator_of b)
denominator_of (mul a b) = mul (denominator_of a) (denominator_of b)
denominator_of (neg a) = denominator_of a

abbrev pub numerator_of : Polynomial → Polynomial
numerator_of (var i) = var (twice i)
numerator_of (lit k) = lit k
numerator_of (add a b) = add (mul (numerator_of a) (denominator_of b)) (mul (numerator_of b) (denominator_of a))
numerator_of (sub a b) = add (mul (numerator_of a) (denominator_of b)) (mul (neg (numerator_of b)) (denominator_of a))
numerator_of (mul a b) = mul (numerator_of a) (numerator_of b)
numerator_of (neg a) = neg (numerator_of a)

at_top : (ρ : List Rational) (i : ℕ) → at (tops_and_bottoms ρ) (twice i) ≡ (nth ρ i).top
at_top [] i = refl
at_top (x ∷ ρ) zero = refl
at_top (x ∷ ρ) (suc i) = at_top ρ i

at_bottom : (ρ : List Rational) (i : ℕ) → at (tops_and_bottoms ρ) (suc (twice i)) ≡ pos (bottom (nth ρ i))
at_bottom [] i = refl
at_bottom (x ∷ ρ) zero = refl
at_bottom (x ∷ ρ) (suc i) = at_bottom ρ i

pub suc_pred : (a b : ℕ) → suc (pred (suc a * suc b)) ≡ suc a * suc b
suc_pred a b = grind arith

denominator_is : (e : Polynomial) (ρ : List Rational) →
    polynomial_value (denominator_of e) (tops_and_bottoms ρ) ≡ pos (bottom (value_said e ρ))
unfolding over plus minus times negative
denominator_is (var i) ρ = at_bottom ρ i
denominator_is (lit k) ρ = refl
denominator_is (add a b) ρ = (λ i. denominator_is a ρ i *ℤ denominator_is b ρ i)
    ∙ ap pos (sym (suc_pred (value_said a ρ).less (value_said b ρ).less))
denominator_is (sub a b) ρ = (λ i. denominator_is a ρ i *ℤ denominator_is b ρ i)
    ∙ ap pos (sym (suc_pred (value_said a ρ).less (value_said b ρ).less))
denominator_is (mul a b) ρ = (λ i. denominator_is a ρ i *ℤ denominator_is b ρ i)
    ∙ ap pos (sym (suc_pred (value_said a ρ).less (value_said b ρ).less))
denominator_is (neg a) ρ = denominator_is a ρ

numerator_is : (e : Polynomial) (ρ : List Rational) →
    polynomial_value (numerator_of e) (tops_and_bottoms ρ) ≡ (value_said e ρ).top
unfolding over plus minus times negative
numerator_is (var i) ρ = at_top ρ i
numerator_is (lit k) ρ = refl
numerator_is (add a b) ρ = λ i. numerator_is a ρ i *ℤ denominator_is b ρ i +ℤ numerator_is b ρ i *ℤ denominator_is a ρ i
numerator_is (sub a b) ρ =
    λ i. numerator_is a ρ i *ℤ denominator_is b ρ i +ℤ neg_ℤ (numerator_is b ρ i) *ℤ denominator_is a ρ i
numerator_is (mul a b) ρ = λ i. numerator_is a ρ i *ℤ numerator_is b ρ i
numerator_is (neg a) ρ = ap neg_ℤ (numerator_is a ρ)

equal_by_ring : (ρ : List Rational) (a b : Polynomial) →
    vanishes (normal_form (sub (mul (numerator_of a) (denominator_of b)) (mul (numerator_of b) (denominator_of a))))
    ≡ true → Equal (value_said a ρ) (value_said b ρ)
equal_by_ring ρ a b e = record {
  equal =
      (λ i. sym (numerator_is a ρ) i *ℤ sym (denominator_is b ρ) i)
      ∙ ring (tops_and_bottoms ρ) (mul (numerator_of a) (denominator_of b))
      (mul (numerator_of b) (denominator_of a)) e ∙ (λ i. numerator_is b ρ i *ℤ denominator_is a ρ i);
}

-- a quote of x over the fractions ρ
pub record Quote (ρ : List Rational) (x : Rational) : Type 0 where
  pub quote : Polynomial
  pub is : value_said quote ρ ≡ x

abbrev pub q_plus : {ρ : List Rational} {a b : Rational} → Quote ρ a → Quote ρ b → Quote ρ (plus a b)
q_plus p q = record { quote = add p.quote q.quote; is = λ i. plus (p.is i) (q.is i) }

abbrev pub q_minus : {ρ : List Rational} {a b : Rational} → Quote ρ a → Quote ρ b → Quote ρ (minus a b)
q_minus p q = record { quote = sub p.quote q.quote; is = λ i. minus (p.is i) (q.is i) }

abbrev pub q_times : {ρ : List Rational} {a b : Rational} → Quote ρ a → Quote ρ b → Quote ρ (times a b)
q_times p q = record { quote = mul p.quote q.quote; is = λ i. times (p.is i) (q.is i) }

abbrev pub q_negative : {ρ : List Rational} {a : Rational} → Quote ρ a → Quote ρ (negative a)
q_negative p = record { quote = neg p.quote; is = λ i. negative (p.is i) }

abbrev pub q_whole : {ρ : List Rational} (k : ℤ) → Quote ρ (whole k)
q_whole k = record { quote = lit k; is = refl }

abbrev pub q0 : {x : Rational} {ρ : List Rational} → Quote (x ∷ ρ) x
q0 = record { quote = var 0; is = refl }

abbrev pub q1 : {x x0 : Rational} {ρ : List Rational} → Quote (x0 ∷ x ∷ ρ) x
q1 = record { quote = var 1; is = refl }

abbrev pub q2 : {x x0 x1 : Rational} {ρ : List Rational} → Quote (x0 ∷ x1 ∷ x ∷ ρ) x
q2 = record { quote = var 2; is = refl }

abbrev pub q3 : {x x0 x1 x2 : Rational} {ρ : List Rational} → Quote (x0 ∷ x1 ∷ x2 ∷ x ∷ ρ) x
q3 = record { quote = var 3; is = refl }

abbrev pub q4 : {x x0 x1 x2 x3 : Rational} {ρ : List Rational} → Quote (x0 ∷ x1 ∷ x2 ∷ x3 ∷ x ∷ ρ) x
q4 = record { quote = var 4; is = refl }

abbrev pub q5 : {x x0 x1 x2 x3 x4 : Rational} {ρ : List Rational} → Quote (x0 ∷ x1 ∷ x2 ∷ x3 ∷ x4 ∷ x ∷ ρ) x
q5 = record { quote = var 5; is = refl }

abbrev pub q6 : {x x0 x1 x2 x3 x4 x5 : Rational} {ρ : List Rational} → Quote (x0 ∷ x1 ∷ x2 ∷ x3 ∷ x4 ∷ x5 ∷ x ∷ ρ) x
q6 = record { quote = var 6; is = refl }

abbrev pub q7 : {x x0 x1 x2 x3 x4 x5 x6 : Rational} {ρ : List Rational} →
    Quote (x0 ∷ x1 ∷ x2 ∷ x3 ∷ x4 ∷ x5 ∷ x6 ∷ x ∷ ρ) x
q7 = record { quote = var 7; is = refl }

abbrev pub q8 : {x x0 x1 x2 x3 x4 x5 x6 x7 : Rational} {ρ : List Rational} →
    Quote (x0 ∷ x1 ∷ x2 ∷ x3 ∷ x4 ∷ x5 ∷ x6 ∷ x7 ∷ x ∷ ρ) x
q8 = record { quote = var 8; is = refl }

abbrev pub q9 : {x x0 x1 x2 x3 x4 x5 x6 x7 x8 : Rational} {ρ : List Rational} →
    Quote (x0 ∷ x1 ∷ x2 ∷ x3 ∷ x4 ∷ x5 ∷ x6 ∷ x7 ∷ x8 ∷ x ∷ ρ) x
q9 = record { quote = var 9; is = refl }

abbrev pub q10 : {x x0 x1 x2 x3 x4 x5 x6 x7 x8 x9 : Rational} {ρ : List Rational} →
    Quote (x0 ∷ x1 ∷ x2 ∷ x3 ∷ x4 ∷ x5 ∷ x6 ∷ x7 ∷ x8 ∷ x9 ∷ x ∷ ρ) x
q10 = record { quote = var 10; is = refl }

abbrev pub q11 : {x x0 x1 x2 x3 x4 x5 x6 x7 x8 x9 x10 : Rational} {ρ : List Rational} →
    Quote (x0 ∷ x1 ∷ x2 ∷ x3 ∷ x4 ∷ x5 ∷ x6 ∷ x7 ∷ x8 ∷ x9 ∷ x10 ∷ x ∷ ρ) x
q11 = record { quote = var 11; is = refl }

abbrev pub q12 : {x x0 x1 x2 x3 x4 x5 x6 x7 x8 x9 x10 x11 : Rational} {ρ : List Rational} →
    Quote (x0 ∷ x1 ∷ x2 ∷ x3 ∷ x4 ∷ x5 ∷ x6 ∷ x7 ∷ x8 ∷ x9 ∷ x10 ∷ x11 ∷ x ∷ ρ) x
q12 = record { quote = var 12; is = refl }

abbrev pub q13 : {x x0 x1 x2 x3 x4 x5 x6 x7 x8 x9 x10 x11 x12 : Rational} {ρ : List Rational} →
    Quote (x0 ∷ x1 ∷ x2 ∷ x3 ∷ x4 ∷ x5 ∷ x6 ∷ x7 ∷ x8 ∷ x9 ∷ x10 ∷ x11 ∷ x12 ∷ x ∷ ρ) x
q13 = record { quote = var 13; is = refl }

pub ruleset quotes =
    (q0, q1, q2, q3, q4, q5, q6, q7, q8, q9, q10, q11, q12, q13, q_plus, q_minus, q_times, q_negative, q_whole)

pub by_quotes : {ρ : List Rational} {a b : Rational} (p : Quote ρ a) (q : Quote ρ b) →
    vanishes (normal_form (sub (mul (numerator_of p.quote) (denominator_of q.quote))
    (mul (numerator_of q.quote) (denominator_of p.quote)))) ≡ true → Equal a b
by_quotes {ρ} p q e = subst₂ Equal p.is q.is (equal_by_ring ρ p.quote q.quote e)
