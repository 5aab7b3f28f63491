-- A quote of a whole number over the variables ρ, found by `search quotes`.
use Rattle.std.proofs.Common.{◌≡◌, refl, sym, ◌∙◌, pos, ℤ, ◌+ℤ◌, ◌*ℤ◌, neg_ℤ, List, ◌∷◌, true}
use Rattle.fx_rational.proofs.IntegerRing.{Polynomial, var, lit, add, sub, mul, neg, polynomial_value, normal_form, vanishes, ring}

pub record Quote (ρ : List ℤ) (z : ℤ) : Type 0 where
  pub quote : Polynomial
  pub is : polynomial_value quote ρ ≡ z

abbrev pub q_add : {ρ : List ℤ} {a b : ℤ} → Quote ρ a → Quote ρ b → Quote ρ (a +ℤ b)
q_add {ρ} {a} {b} p q = record { quote = add p.quote q.quote; is = λ i. p.is i +ℤ q.is i }

abbrev pub q_mul : {ρ : List ℤ} {a b : ℤ} → Quote ρ a → Quote ρ b → Quote ρ (a *ℤ b)
q_mul p q = record { quote = mul p.quote q.quote; is = λ i. p.is i *ℤ q.is i }

abbrev pub q_neg : {ρ : List ℤ} {a : ℤ} → Quote ρ a → Quote ρ (neg_ℤ a)
q_neg p = record { quote = neg p.quote; is = λ i. neg_ℤ (p.is i) }

abbrev pub q0 : {x : ℤ} {ρ : List ℤ} → Quote (x ∷ ρ) x
q0 = record { quote = var 0; is = refl }

abbrev pub q1 : {x x0 : ℤ} {ρ : List ℤ} → Quote (x0 ∷ x ∷ ρ) x
q1 = record { quote = var 1; is = refl }

abbrev pub q2 : {x x0 x1 : ℤ} {ρ : List ℤ} → Quote (x0 ∷ x1 ∷ x ∷ ρ) x
q2 = record { quote = var 2; is = refl }

abbrev pub q3 : {x x0 x1 x2 : ℤ} {ρ : List ℤ} → Quote (x0 ∷ x1 ∷ x2 ∷ x ∷ ρ) x
q3 = record { quote = var 3; is = refl }

abbrev pub q4 : {x x0 x1 x2 x3 : ℤ} {ρ : List ℤ} → Quote (x0 ∷ x1 ∷ x2 ∷ x3 ∷ x ∷ ρ) x
q4 = record { quote = var 4; is = refl }

abbrev pub q5 : {x x0 x1 x2 x3 x4 : ℤ} {ρ : List ℤ} → Quote (x0 ∷ x1 ∷ x2 ∷ x3 ∷ x4 ∷ x ∷ ρ) x
q5 = record { quote = var 5; is = refl }

abbrev pub q6 : {x x0 x1 x2 x3 x4 x5 : ℤ} {ρ : List ℤ} → Quote (x0 ∷ x1 ∷ x2 ∷ x3 ∷ x4 ∷ x5 ∷ x ∷ ρ) x
q6 = record { quote = var 6; is = refl }

abbrev pub q7 : {x x0 x1 x2 x3 x4 x5 x6 : ℤ} {ρ : List ℤ} → Quote (x0 ∷ x1 ∷ x2 ∷ x3 ∷ x4 ∷ x5 ∷ x6 ∷ x ∷ ρ) x
q7 = record { quote = var 7; is = refl }

abbrev pub q8 : {x x0 x1 x2 x3 x4 x5 x6 x7 : ℤ} {ρ : List ℤ} → Quote (x0 ∷ x1 ∷ x2 ∷ x3 ∷ x4 ∷ x5 ∷ x6 ∷ x7 ∷ x ∷ ρ) x
q8 = record { quote = var 8; is = refl }

abbrev pub q9 : {x x0 x1 x2 x3 x4 x5 x6 x7 x8 : ℤ} {ρ : List ℤ} →
    Quote (x0 ∷ x1 ∷ x2 ∷ x3 ∷ x4 ∷ x5 ∷ x6 ∷ x7 ∷ x8 ∷ x ∷ ρ) x
q9 = record { quote = var 9; is = refl }

abbrev pub q_zero : {ρ : List ℤ} → Quote ρ (pos 0)
q_zero = record { quote = lit (pos 0); is = refl }

abbrev pub q_one : {ρ : List ℤ} → Quote ρ (pos 1)
q_one = record { quote = lit (pos 1); is = refl }

abbrev pub q_two : {ρ : List ℤ} → Quote ρ (pos 2)
q_two = record { quote = lit (pos 2); is = refl }

pub ruleset quotes = (q0, q1, q2, q3, q4, q5, q6, q7, q8, q9, q_zero, q_one, q_two, q_add, q_mul, q_neg)

pub by_quotes : {ρ : List ℤ} {a b : ℤ} (p : Quote ρ a) (q : Quote ρ b) →
    vanishes (normal_form (sub p.quote q.quote)) ≡ true → a ≡ b
by_quotes {ρ} p q e = sym p.is ∙ ring ρ p.quote q.quote e ∙ q.is
