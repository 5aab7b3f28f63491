-- A normaliser of polynomial expressions over ℤ: `ring ρ a b refl` proves `polynomial_value a ρ ≡ polynomial_value b ρ`
-- where the two have one normal form.
use Rattle.std.proofs.Common.{◌≡◌, ℕ, zero, suc, refl, sym, ap, subst, ◌∙◌, arith, pos, negsuc, ℤ, ◌+ℤ◌, ◌-ℤ◌, ◌*ℤ◌, neg_ℤ, List, [], ◌∷◌, Bool, true, false, T, ltb, eqb, eqb→eq}
use Rattle.std.proofs.lemmas.Int.{ints}
use lib.IntN.{*ℤ_comm}
use Rattle.fx_rational.proofs.Integers.{*ℤ_assoc, *ℤ-+ℤ, +ℤ-*ℤ, one-*ℤ}

pub data Polynomial : Type 0 where
  var : ℕ → Polynomial
  lit : ℤ → Polynomial
  add : Polynomial → Polynomial → Polynomial
  sub : Polynomial → Polynomial → Polynomial
  mul : Polynomial → Polynomial → Polynomial
  neg : Polynomial → Polynomial

abbrev pub at : List ℤ → ℕ → ℤ
at [] i = pos 1
at (x ∷ ρ) zero = x
at (x ∷ ρ) (suc i) = at ρ i

abbrev pub polynomial_value : Polynomial → List ℤ → ℤ
polynomial_value (var i) ρ = at ρ i
polynomial_value (lit k) ρ = k
polynomial_value (add a b) ρ = polynomial_value a ρ +ℤ polynomial_value b ρ
polynomial_value (sub a b) ρ = polynomial_value a ρ -ℤ polynomial_value b ρ
polynomial_value (mul a b) ρ = polynomial_value a ρ *ℤ polynomial_value b ρ
polynomial_value (neg a) ρ = neg_ℤ (polynomial_value a ρ)

-- a coefficient and the variables, in order
pub data Monomial : Type 0 where
  term : ℤ → List ℕ → Monomial

abbrev pub product_in : List ℕ → List ℤ → ℤ
product_in [] ρ = pos 1
product_in (v ∷ vs) ρ = at ρ v *ℤ product_in vs ρ

abbrev pub monomials_sum : List Monomial → List ℤ → ℤ
monomials_sum [] ρ = pos 0
monomials_sum (term c vs ∷ p) ρ = c *ℤ product_in vs ρ +ℤ monomials_sum p ρ

abbrev pub insert : ℕ → List ℕ → List ℕ
insert v [] = v ∷ []
insert v (w ∷ ws) = elim (ltb w v) [ true ↦ w ∷ insert v ws | false ↦ v ∷ w ∷ ws ]

abbrev pub merge : List ℕ → List ℕ → List ℕ
merge [] ws = ws
merge (v ∷ vs) ws = insert v (merge vs ws)

abbrev pub same_variables : List ℕ → List ℕ → Bool
same_variables [] [] = true
same_variables [] (w ∷ ws) = false
same_variables (v ∷ vs) [] = false
same_variables (v ∷ vs) (w ∷ ws) = elim (eqb v w) [ true ↦ same_variables vs ws | false ↦ false ]

abbrev pub add_term : ℤ → List ℕ → List Monomial → List Monomial
add_term c vs [] = term c vs ∷ []
add_term c vs (term d ws ∷ p) =
    elim (same_variables vs ws) [ true ↦ term (c +ℤ d) ws ∷ p | false ↦ term d ws ∷ add_term c vs p ]

abbrev pub add_terms : List Monomial → List Monomial → List Monomial
add_terms [] q = q
add_terms (term c vs ∷ p) q = add_term c vs (add_terms p q)

abbrev pub scaled : ℤ → List ℕ → List Monomial → List Monomial
scaled c vs [] = []
scaled c vs (term d ws ∷ p) = add_term (c *ℤ d) (merge vs ws) (scaled c vs p)

abbrev pub product_of_monomials : List Monomial → List Monomial → List Monomial
product_of_monomials [] q = []
product_of_monomials (term c vs ∷ p) q = add_terms (scaled c vs q) (product_of_monomials p q)

abbrev pub normal_form : Polynomial → List Monomial
normal_form (var i) = term (pos 1) (i ∷ []) ∷ []
normal_form (lit k) = term k [] ∷ []
normal_form (add a b) = add_terms (normal_form a) (normal_form b)
normal_form (sub a b) = add_terms (scaled (negsuc 0) [] (normal_form b)) (normal_form a)
normal_form (mul a b) = product_of_monomials (normal_form a) (normal_form b)
normal_form (neg a) = scaled (negsuc 0) [] (normal_form a)

abbrev pub is_zero : ℤ → Bool
is_zero (pos zero) = true
is_zero (pos (suc n)) = false
is_zero (negsuc n) = false

abbrev pub vanishes : List Monomial → Bool
vanishes [] = true
vanishes (term c vs ∷ p) = elim (is_zero c) [ true ↦ vanishes p | false ↦ false ]

-- ---- the normal form has the value
left_comm : (a b c : ℤ) → a *ℤ (b *ℤ c) ≡ b *ℤ (a *ℤ c)
left_comm a b c = sym (*ℤ_assoc a b c) ∙ ap (λ z. z *ℤ c) (*ℤ_comm a b) ∙ *ℤ_assoc b a c

product-insert : (v : ℕ) (ws : List ℕ) (ρ : List ℤ) → product_in (insert v ws) ρ ≡ at ρ v *ℤ product_in ws ρ
product-insert v [] ρ = refl
product-insert v (w ∷ ws) ρ = by (product-insert v ws ρ) (ltb w v)
  where
    by : product_in (insert v ws) ρ ≡ at ρ v *ℤ product_in ws ρ → (t : Bool) →
        product_in (elim t [ true ↦ w ∷ insert v ws | false ↦ v ∷ w ∷ ws ]) ρ ≡ at ρ v *ℤ (at ρ w *ℤ product_in ws ρ)
    by h true = ap (λ z. at ρ w *ℤ z) h ∙ left_comm (at ρ w) (at ρ v) (product_in ws ρ)
    by h false = refl

product-merge : (vs ws : List ℕ) (ρ : List ℤ) → product_in (merge vs ws) ρ ≡ product_in vs ρ *ℤ product_in ws ρ
product-merge [] ws ρ = sym (one-*ℤ (product_in ws ρ))
product-merge (v ∷ vs) ws ρ = product-insert v (merge vs ws) ρ ∙ ap (λ z. at ρ v *ℤ z) (product-merge vs ws ρ)
    ∙ sym (*ℤ_assoc (at ρ v) (product_in vs ρ) (product_in ws ρ))

same_variables-eq : (vs ws : List ℕ) (ρ : List ℤ) → same_variables vs ws ≡ true → product_in vs ρ ≡ product_in ws ρ
same_variables-eq [] [] ρ e = refl
same_variables-eq [] (w ∷ ws) ρ e = cc
same_variables-eq (v ∷ vs) [] ρ e = cc
same_variables-eq (v ∷ vs) (w ∷ ws) ρ e = by (same_variables-eq vs ws ρ) (eqb v w) refl e
  where
    by : (same_variables vs ws ≡ true → product_in vs ρ ≡ product_in ws ρ) → (t : Bool) → eqb v w ≡ t →
        elim t [ true ↦ same_variables vs ws | false ↦ false ] ≡ true →
        at ρ v *ℤ product_in vs ρ ≡ at ρ w *ℤ product_in ws ρ
    by h true p q = ap (λ i. at ρ i *ℤ product_in vs ρ) (eqb→eq v w (subst T (sym p) tt)) ∙ ap (λ z. at ρ w *ℤ z) (h q)
    by h false p q = cc

sum-add_term : (c : ℤ) (vs : List ℕ) (p : List Monomial) (ρ : List ℤ) →
    monomials_sum (add_term c vs p) ρ ≡ c *ℤ product_in vs ρ +ℤ monomials_sum p ρ
sum-add_term c vs [] ρ = refl
sum-add_term c vs (term d ws ∷ p) ρ = by (sum-add_term c vs p ρ) (same_variables vs ws) refl
  where
    by : monomials_sum (add_term c vs p) ρ ≡ c *ℤ product_in vs ρ +ℤ monomials_sum p ρ → (t : Bool) → same_variables vs ws ≡ t →
        monomials_sum (elim t [ true ↦ term (c +ℤ d) ws ∷ p | false ↦ term d ws ∷ add_term c vs p ]) ρ ≡ c *ℤ product_in vs ρ
        +ℤ (d *ℤ product_in ws ρ +ℤ monomials_sum p ρ)
    by h true e =
        let q = +ℤ-*ℤ c d (product_in ws ρ) in
        let r = ap (λ z. c *ℤ z) (same_variables-eq vs ws ρ e) in
        omega (arith, ints, q, r)
    by h false e = omega (arith, ints, h)

sum-add_terms : (p q : List Monomial) (ρ : List ℤ) → monomials_sum (add_terms p q) ρ ≡ monomials_sum p ρ +ℤ monomials_sum q ρ
sum-add_terms [] q ρ = omega (arith, ints)
sum-add_terms (term c vs ∷ p) q ρ =
    let h = sum-add_term c vs (add_terms p q) ρ in let k = sum-add_terms p q ρ in omega (arith, ints, h, k)

sum-scaled : (c : ℤ) (vs : List ℕ) (p : List Monomial) (ρ : List ℤ) →
    monomials_sum (scaled c vs p) ρ ≡ c *ℤ product_in vs ρ *ℤ monomials_sum p ρ
sum-scaled c vs [] ρ = omega (arith, ints)
sum-scaled c vs (term d ws ∷ p) ρ =
    sum-add_term (c *ℤ d) (merge vs ws) (scaled c vs p) ρ
    ∙ ap (λ z. c *ℤ d *ℤ z +ℤ monomials_sum (scaled c vs p) ρ) (product-merge vs ws ρ)
    ∙ ap (λ z. c *ℤ d *ℤ (product_in vs ρ *ℤ product_in ws ρ) +ℤ z) (sum-scaled c vs p ρ)
    ∙ ap (λ z. z +ℤ c *ℤ product_in vs ρ *ℤ monomials_sum p ρ) (swap4 c d (product_in vs ρ) (product_in ws ρ))
    ∙ sym (*ℤ-+ℤ (c *ℤ product_in vs ρ) (d *ℤ product_in ws ρ) (monomials_sum p ρ))
  where
    swap4 : (a b x y : ℤ) → a *ℤ b *ℤ (x *ℤ y) ≡ a *ℤ x *ℤ (b *ℤ y)
    swap4 a b x y = *ℤ_assoc a b (x *ℤ y) ∙ ap (λ z. a *ℤ z) (left_comm b x y) ∙ sym (*ℤ_assoc a x (b *ℤ y))

sum-multiplied : (p q : List Monomial) (ρ : List ℤ) → monomials_sum (product_of_monomials p q) ρ ≡ monomials_sum p ρ *ℤ monomials_sum q ρ
sum-multiplied [] q ρ = omega (arith, ints)
sum-multiplied (term c vs ∷ p) q ρ =
    sum-add_terms (scaled c vs q) (product_of_monomials p q) ρ
    ∙ ap (λ z. z +ℤ monomials_sum (product_of_monomials p q) ρ) (sum-scaled c vs q ρ)
    ∙ ap (λ z. c *ℤ product_in vs ρ *ℤ monomials_sum q ρ +ℤ z) (sum-multiplied p q ρ)
    ∙ sym (+ℤ-*ℤ (c *ℤ product_in vs ρ) (monomials_sum p ρ) (monomials_sum q ρ))

sum-normal_form : (e : Polynomial) (ρ : List ℤ) → monomials_sum (normal_form e) ρ ≡ polynomial_value e ρ
sum-normal_form (var i) ρ = omega (arith, ints)
sum-normal_form (lit k) ρ = omega (arith, ints)
sum-normal_form (add a b) ρ =
    let h = sum-add_terms (normal_form a) (normal_form b) ρ in
    let x = sum-normal_form a ρ in
    let y = sum-normal_form b ρ in
    omega (arith, ints, h, x, y)
sum-normal_form (sub a b) ρ =
    let h = sum-add_terms (scaled (negsuc 0) [] (normal_form b)) (normal_form a) ρ in
    let k = sum-scaled (negsuc 0) [] (normal_form b) ρ in
    let x = sum-normal_form a ρ in
    let y = sum-normal_form b ρ in
    omega (arith, ints, h, k, x, y)
sum-normal_form (mul a b) ρ = sum-multiplied (normal_form a) (normal_form b) ρ
    ∙ ap (λ z. z *ℤ monomials_sum (normal_form b) ρ) (sum-normal_form a ρ) ∙ ap (λ z. polynomial_value a ρ *ℤ z) (sum-normal_form b ρ)
sum-normal_form (neg a) ρ =
    let k = sum-scaled (negsuc 0) [] (normal_form a) ρ in let x = sum-normal_form a ρ in omega (arith, ints, k, x)

is_zero-eq : (c : ℤ) → is_zero c ≡ true → c ≡ pos 0
is_zero-eq (pos zero) e = refl
is_zero-eq (pos (suc n)) e = cc
is_zero-eq (negsuc n) e = cc

sum-vanishes : (p : List Monomial) (ρ : List ℤ) → vanishes p ≡ true → monomials_sum p ρ ≡ pos 0
sum-vanishes [] ρ e = refl
sum-vanishes (term c vs ∷ p) ρ e = by (sum-vanishes p ρ) (is_zero c) refl e
  where
    by : (vanishes p ≡ true → monomials_sum p ρ ≡ pos 0) → (t : Bool) → is_zero c ≡ t →
        elim t [ true ↦ vanishes p | false ↦ false ] ≡ true → c *ℤ product_in vs ρ +ℤ monomials_sum p ρ ≡ pos 0
    by f true h k = let z = ap (λ x. x *ℤ product_in vs ρ) (is_zero-eq c h) in let q = f k in omega (arith, ints, z, q)
    by f false h k = cc

pub ring : (ρ : List ℤ) (a b : Polynomial) → vanishes (normal_form (sub a b)) ≡ true → polynomial_value a ρ ≡ polynomial_value b ρ
ring ρ a b e =
    let h = sum-normal_form (sub a b) ρ in let k = sum-vanishes (normal_form (sub a b)) ρ e in omega (arith, ints, h, k)
