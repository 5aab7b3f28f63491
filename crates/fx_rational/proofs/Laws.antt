-- Fractions are an ordered ring.
use Rattle.std.proofs.Common.{◌≡◌, refl, sym, ap, ◌∙◌, pos, ℤ, ◌+ℤ◌, ◌-ℤ◌, ◌*ℤ◌, neg_ℤ, ◌≤ℤ◌, ◌<ℤ◌, [], ◌∷◌, ◌⊎◌, inl, inr, arith, ⊎_elim}
use Rattle.std.proofs.lemmas.Int.{ints}
use Rattle.fx_rational.proofs.Integers.{le_by_certificate, add_nonneg, mul_nonneg, nonneg_of_above, difference_nonneg, suc_above}
use Rattle.fx_rational.proofs.Quote as int
use Rattle.fx_rational.specs.Rational.{Rational, bottom, whole, over, plus, negative, minus, times, Equal, AtMost}
use Rattle.fx_rational.proofs.Ring.{by_quotes, quotes, suc_pred}

-- ---- equality and order
pub equal_refl : (x : Rational) → Equal x x
equal_refl x = record { equal = refl }

pub equal_sym : {x y : Rational} → Equal x y → Equal y x
equal_sym h = record { equal = sym h.equal }

pub le_of_equal : {x y : Rational} → Equal x y → AtMost x y
le_of_equal h = record { at_most = let e = h.equal in omega (arith, ints) }

pub le_refl : (x : Rational) → AtMost x x
le_refl x = le_of_equal (equal_refl x)

-- by cross multiplication, d above zero
crossed : (a b c d e f : ℤ) → pos 0 <ℤ b → pos 0 <ℤ d → pos 0 <ℤ f → (a *ℤ d) ≤ℤ (c *ℤ b) → (c *ℤ f) ≤ℤ (e *ℤ d) →
    (a *ℤ f) ≤ℤ (e *ℤ b)
crossed a b c d e f p q r h k = le_by_certificate q
    (add_nonneg (mul_nonneg (nonneg_of_above r) (difference_nonneg h))
    (mul_nonneg (nonneg_of_above p) (difference_nonneg k)))
    (int.by_quotes {ρ = a ∷ b ∷ c ∷ d ∷ e ∷ f ∷ []} (search int.quotes depth 20) (search int.quotes depth 20) refl)

pub le_trans : {x y z : Rational} → AtMost x y → AtMost y z → AtMost x z
le_trans {x} {y} {z} h k =
    record {
      at_most =
          crossed x.top (pos (bottom x)) y.top (pos (bottom y)) z.top (pos (bottom z))
          (suc_above x.less) (suc_above y.less) (suc_above z.less) h.at_most k.at_most;
    }

pub le_antisym : {x y : Rational} → AtMost x y → AtMost y x → Equal x y
le_antisym h k = record { equal = let p = h.at_most in let q = k.at_most in omega (arith, ints) }

pub equal_trans : {x y z : Rational} → Equal x y → Equal y z → Equal x z
equal_trans h k =
    le_antisym (le_trans (le_of_equal h) (le_of_equal k))
    (le_trans (le_of_equal (equal_sym k)) (le_of_equal (equal_sym h)))

pub le_total : (x y : Rational) → AtMost x y ⊎ AtMost y x
le_total x y =
    ⊎_elim (λ h. inl (record { at_most = h })) (λ h. inr (record { at_most = h }))
    (go (x.top *ℤ pos (bottom y)) (y.top *ℤ pos (bottom x)))
  where
    go : (a b : ℤ) → (a ≤ℤ b) ⊎ (b ≤ℤ a)
    go a b = grind (arith, ints)

-- ---- what is not negative, and an order by the difference
abbrev pub Nonneg : Rational → Type 0
Nonneg x = AtMost (whole (pos 0)) x

pub nonneg_top : {x : Rational} → Nonneg x → pos 0 ≤ℤ x.top
nonneg_top h = let p = h.at_most in omega (arith, ints)

pub nonneg_from : {x : Rational} → pos 0 ≤ℤ x.top → Nonneg x
nonneg_from h = record { at_most = omega (arith, ints) }

bottom_nonneg : (x : Rational) → pos 0 ≤ℤ pos (bottom x)
bottom_nonneg x = nonneg_of_above (suc_above x.less)

pub nonneg_plus : {x y : Rational} → Nonneg x → Nonneg y → Nonneg (plus x y)
unfolding plus over
nonneg_plus {x} {y} h k =
    nonneg_from (add_nonneg (mul_nonneg (nonneg_top h) (bottom_nonneg y)) (mul_nonneg (nonneg_top k) (bottom_nonneg x)))

pub nonneg_times : {x y : Rational} → Nonneg x → Nonneg y → Nonneg (times x y)
unfolding times over
nonneg_times h k = nonneg_from (mul_nonneg (nonneg_top h) (nonneg_top k))

difference_top : (a b c d : ℤ) → (a *ℤ d) ≤ℤ (c *ℤ b) → pos 0 ≤ℤ (c *ℤ b +ℤ neg_ℤ a *ℤ d)
difference_top a b c d h =
    let p = difference_nonneg h in
    let e : c *ℤ b +ℤ neg_ℤ a *ℤ d ≡ c *ℤ b -ℤ a *ℤ d =
    int.by_quotes {ρ = a ∷ b ∷ c ∷ d ∷ []} (search int.quotes depth 20) (search int.quotes depth 20) refl in
    omega (arith, ints)

difference_order : (a b c d : ℤ) → pos 0 ≤ℤ (c *ℤ b +ℤ neg_ℤ a *ℤ d) → (a *ℤ d) ≤ℤ (c *ℤ b)
difference_order a b c d h =
    let e : c *ℤ b +ℤ neg_ℤ a *ℤ d ≡ c *ℤ b -ℤ a *ℤ d =
    int.by_quotes {ρ = a ∷ b ∷ c ∷ d ∷ []} (search int.quotes depth 20) (search int.quotes depth 20) refl in
    omega (arith, ints)

-- y - x isn't negative
pub gap : {x y : Rational} → AtMost x y → Nonneg (minus y x)
unfolding minus plus negative over
gap {x} {y} h = nonneg_from (difference_top x.top (pos (bottom x)) y.top (pos (bottom y)) h.at_most)

pub from_gap : {x y : Rational} → Nonneg (minus y x) → AtMost x y
unfolding minus plus negative over
from_gap {x} {y} h = record { at_most = difference_order x.top (pos (bottom x)) y.top (pos (bottom y)) (nonneg_top h) }

-- y - x is s, which isn't negative
pub ordered : {x y s : Rational} → Nonneg s → Equal (minus y x) s → AtMost x y
ordered h e = from_gap (le_trans h (le_of_equal (equal_sym e)))

-- ---- order and the operations
pub plus_le : {x y u v : Rational} → AtMost x y → AtMost u v → AtMost (plus x u) (plus y v)
plus_le {x} {y} {u} {v} h k =
    ordered (nonneg_plus (gap h) (gap k))
    (by_quotes {ρ = x ∷ y ∷ u ∷ v ∷ []} (search quotes depth 20) (search quotes depth 20) refl)

pub minus_le : {x y u v : Rational} → AtMost x y → AtMost u v → AtMost (minus x v) (minus y u)
minus_le {x} {y} {u} {v} h k =
    ordered (nonneg_plus (gap h) (gap k))
    (by_quotes {ρ = x ∷ y ∷ u ∷ v ∷ []} (search quotes depth 20) (search quotes depth 20) refl)

pub negative_le : {x y : Rational} → AtMost x y → AtMost (negative y) (negative x)
negative_le {x} {y} h =
    ordered (gap h) (by_quotes {ρ = x ∷ y ∷ []} (search quotes depth 20) (search quotes depth 20) refl)

pub times_le : {x y z : Rational} → AtMost x y → Nonneg z → AtMost (times x z) (times y z)
times_le {x} {y} {z} h k =
    ordered (nonneg_times (gap h) k)
    (by_quotes {ρ = x ∷ y ∷ z ∷ []} (search quotes depth 20) (search quotes depth 20) refl)

pub times_le_down : {x y z : Rational} → AtMost x y → AtMost z (whole (pos 0)) → AtMost (times y z) (times x z)
times_le_down {x} {y} {z} h k =
    ordered (nonneg_times (gap h) (gap k))
    (by_quotes {ρ = x ∷ y ∷ z ∷ []} (search quotes depth 20) (search quotes depth 20) refl)

-- ---- equal in, equal out
pub plus_same : {x y u v : Rational} → Equal x y → Equal u v → Equal (plus x u) (plus y v)
plus_same h k =
    le_antisym (plus_le (le_of_equal h) (le_of_equal k))
    (plus_le (le_of_equal (equal_sym h)) (le_of_equal (equal_sym k)))

pub minus_same : {x y u v : Rational} → Equal x y → Equal u v → Equal (minus x u) (minus y v)
minus_same h k =
    le_antisym (minus_le (le_of_equal h) (le_of_equal (equal_sym k)))
    (minus_le (le_of_equal (equal_sym h)) (le_of_equal k))

pub negative_same : {x y : Rational} → Equal x y → Equal (negative x) (negative y)
negative_same h = le_antisym (negative_le (le_of_equal (equal_sym h))) (negative_le (le_of_equal h))

crossed_product : (a b c d e f g h : ℤ) → a *ℤ d ≡ c *ℤ b → e *ℤ h ≡ g *ℤ f →
    (a *ℤ e) *ℤ (d *ℤ h) ≡ (c *ℤ g) *ℤ (b *ℤ f)
crossed_product a b c d e f g h p q =
    int.by_quotes {ρ = a ∷ d ∷ e ∷ h ∷ []} {b = (a *ℤ d) *ℤ (e *ℤ h)} (search int.quotes depth 20)
    (search int.quotes depth 20) refl
    ∙ (λ i. p i *ℤ q i)
    ∙ int.by_quotes {ρ = b ∷ c ∷ f ∷ g ∷ []} {a = (c *ℤ b) *ℤ (g *ℤ f)} (search int.quotes depth 20)
    (search int.quotes depth 20) refl

pub times_same : {x y u v : Rational} → Equal x y → Equal u v → Equal (times x u) (times y v)
unfolding times over
times_same {x} {y} {u} {v} h k = record {
  equal =
      ap (λ d. (x.top *ℤ u.top) *ℤ pos d) (suc_pred y.less v.less)
      ∙ crossed_product x.top (pos (bottom x)) y.top (pos (bottom y)) u.top (pos (bottom u)) v.top
      (pos (bottom v)) h.equal k.equal
      ∙ ap (λ d. (y.top *ℤ v.top) *ℤ pos d) (sym (suc_pred x.less u.less));
}

-- ---- a sum or a difference on the other side
pub minus_below : (g hi err : Rational) → AtMost g (plus hi err) → AtMost (minus g err) hi
minus_below g hi err h =
    ordered (gap h) (by_quotes {ρ = g ∷ hi ∷ err ∷ []} (search quotes depth 20) (search quotes depth 20) refl)

pub below_plus : (g hi err : Rational) → AtMost (minus g err) hi → AtMost g (plus hi err)
below_plus g hi err h =
    ordered (gap h) (by_quotes {ρ = g ∷ hi ∷ err ∷ []} (search quotes depth 20) (search quotes depth 20) refl)

pub more_above : (g err : Rational) → Nonneg err → AtMost g (plus g err)
more_above g err h = ordered h (by_quotes {ρ = g ∷ err ∷ []} (search quotes depth 20) (search quotes depth 20) refl)

pub less_below : (g err : Rational) → Nonneg err → AtMost (minus g err) g
less_below g err h = ordered h (by_quotes {ρ = g ∷ err ∷ []} (search quotes depth 20) (search quotes depth 20) refl)
