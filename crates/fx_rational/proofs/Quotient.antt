-- What is above zero, and quotients.
use Rattle.std.proofs.Common.{◌≡◌, ◌⊎◌, inl, inr, ⊎_elim, ℕ, zero, suc, pred, ◌*◌, ◌<◌, refl, sym, ap, ◌∙◌, pos, negsuc, ℤ, ◌*ℤ◌, neg_ℤ, ◌≤ℤ◌, ◌<ℤ◌, [], ◌∷◌, arith, Some, None}
use Rattle.std.proofs.lemmas.Int.{ints}
use Rattle.fx_rational.proofs.Integers.{le_by_certificate, mul_above, difference_nonneg, suc_above}
use Rattle.fx_rational.proofs.Quote as int
use Rattle.fx_rational.specs.Rational.{Rational, bottom, whole, over, times, negative, quotient, divided, Equal, AtMost}
use Rattle.fx_rational.specs.Laws.{SameOption}
use Rattle.fx_rational.proofs.Ring.{suc_pred, by_quotes, quotes}
use Rattle.fx_rational.proofs.Laws.{equal_refl, equal_sym, equal_trans, le_of_equal, le_antisym, times_same, negative_same, Nonneg, nonneg_from}

-- x is above zero
pub record Above (x : Rational) : Type 0 where
  pub top : pos 0 <ℤ x.top

pub above_nonneg : {x : Rational} → Above x → Nonneg x
above_nonneg h = nonneg_from (let p = h.top in omega (arith, ints))

pub above_times : {x y : Rational} → Above x → Above y → Above (times x y)
unfolding times over
above_times h k = record { top = mul_above h.top k.top }

pub whole_above : (n : ℕ) → 0 < n → Above (whole (pos n))
whole_above n h = record { top = omega (arith, ints) }

cancelled : (a b c d e f : ℤ) → pos 0 <ℤ e → pos 0 <ℤ f → ((a *ℤ e) *ℤ (d *ℤ f)) ≤ℤ ((c *ℤ e) *ℤ (b *ℤ f)) →
    (a *ℤ d) ≤ℤ (c *ℤ b)
cancelled a b c d e f p q h =
    le_by_certificate (mul_above p q) (difference_nonneg h)
    (int.by_quotes {ρ = a ∷ b ∷ c ∷ d ∷ e ∷ f ∷ []} (search int.quotes depth 20) (search int.quotes depth 20) refl)

cancelled_over : (a c : ℤ) (b d : ℤ) (e f : ℤ) (df bf : ℤ) → df ≡ d *ℤ f → bf ≡ b *ℤ f → pos 0 <ℤ e → pos 0 <ℤ f →
    ((a *ℤ e) *ℤ df) ≤ℤ ((c *ℤ e) *ℤ bf) → (a *ℤ d) ≤ℤ (c *ℤ b)
cancelled_over a c b d e f df bf p q above_e above_f h = cancelled a b c d e f above_e above_f (rw (← p, ← q) h)

pub le_of_times : {x y z : Rational} → Above z → AtMost (times x z) (times y z) → AtMost x y
unfolding times over
le_of_times {x} {y} {z} p h = record {
  at_most = cancelled_over x.top y.top (pos (bottom x)) (pos (bottom y)) z.top (pos (bottom z)) _ _
      (ap pos (suc_pred y.less z.less)) (ap pos (suc_pred x.less z.less)) p.top (suc_above z.less) h.at_most;
}

pub times_cancel : {x y z : Rational} → Above z → Equal (times x z) (times y z) → Equal x y
times_cancel p h = le_antisym (le_of_times p (le_of_equal h)) (le_of_times p (le_of_equal (equal_sym h)))

-- n / d
pub over_times : (n : ℤ) (d : ℕ) → 0 < d → Equal (times (over n d) (whole (pos d))) (whole n)
unfolding times over
over_times n d h =
    let one : suc (pred d) ≡ d = omega arith in
    let e : suc (pred (suc (pred d) * 1)) ≡ d = omega arith in
    record {
      equal = let k : (n *ℤ pos d) *ℤ pos 1 ≡ n *ℤ pos d =
          int.by_quotes {ρ = n ∷ pos d ∷ []} (search int.quotes depth 20) (search int.quotes depth 20) refl in
          k ∙ ap (λ c. n *ℤ pos c) (sym e);
    }

-- the quotient is there, and times the divisor it's the dividend
pub record QuotientIs (x y : Rational) : Type 0 where
  pub value : Rational
  pub is : quotient x y ≡ Some value
  pub back : Equal (times value y) x

turn : (n e m d : ℤ) → (n *ℤ e) *ℤ m *ℤ d ≡ n *ℤ (d *ℤ m *ℤ e)
turn n e m d = int.by_quotes {ρ = n ∷ e ∷ m ∷ d ∷ []} (search int.quotes depth 20) (search int.quotes depth 20) refl

turn_neg : (n e m d : ℤ) → neg_ℤ (n *ℤ e) *ℤ neg_ℤ m *ℤ d ≡ n *ℤ (d *ℤ m *ℤ e)
turn_neg n e m d = int.by_quotes {ρ = n ∷ e ∷ m ∷ d ∷ []} (search int.quotes depth 20) (search int.quotes depth 20) refl

bottoms : (a b c : ℕ) → suc (pred (suc (pred (suc a * suc b)) * suc c)) ≡ suc a * suc b * suc c
bottoms a b c = omega (arith, suc_pred a b, suc_pred (pred (suc a * suc b)) c, ap (λ (k : ℕ). k * suc c) (suc_pred a b))

pub quotient_is : (x y : Rational) → (y.top ≡ pos 0 → ⊥) → QuotientIs x y
unfolding quotient divided over times
quotient_is x y nonzero = go y.top y.less nonzero
  where
    go : (m : ℤ) (e : ℕ) → (m ≡ pos 0 → ⊥) → QuotientIs x (record { top = m; less = e })
    go (pos zero) e k = absurd (k refl)
    go (pos (suc m)) e k = record {
      value = over (x.top *ℤ pos (suc e)) (bottom x * suc m);
      is = refl;
      back = record {
        equal =
            turn x.top (pos (suc e)) (pos (suc m)) (pos (bottom x))
            ∙ ap (λ d. x.top *ℤ pos d) (sym (bottoms x.less m e));
      };
    }
    go (negsuc m) e k = record {
      value = over (neg_ℤ (x.top *ℤ pos (suc e))) (bottom x * suc m);
      is = refl;
      back = record {
        equal =
            turn_neg x.top (pos (suc e)) (pos (suc m)) (pos (bottom x))
            ∙ ap (λ d. x.top *ℤ pos d) (sym (bottoms x.less m e));
      };
    }

-- ---- a divisor that isn't zero
pub zero_or_not : (n : ℤ) → (n ≡ pos 0) ⊎ (n ≡ pos 0 → ⊥)
zero_or_not (pos zero) = inl refl
zero_or_not (pos (suc n)) = inr (λ e. cc)
zero_or_not (negsuc n) = inr (λ e. cc)

pub top_zero : (y : Rational) → y.top ≡ pos 0 → Equal y (whole (pos 0))
top_zero y e = record { equal = omega (arith, ints) }

pub zero_top : (y : Rational) → Equal y (whole (pos 0)) → y.top ≡ pos 0
zero_top y h = let e = h.equal in omega (arith, ints)

-- a factor that isn't zero goes away on both sides
pub times_cancel_any : (x y z : Rational) → (z.top ≡ pos 0 → ⊥) → Equal (times x z) (times y z) → Equal x y
unfolding negative
times_cancel_any x y z nonzero h = ⊎_elim
    (λ (a : Above z). times_cancel a h)
    (λ (a : Above (negative z)). times_cancel a
    (equal_trans (by_quotes {ρ = x ∷ z ∷ []} {b = negative (times x z)} (search quotes depth 20)
    (search quotes depth 20) refl)
    (equal_trans (negative_same h)
    (by_quotes {ρ = y ∷ z ∷ []} {a = negative (times y z)} (search quotes depth 20)
    (search quotes depth 20) refl))))
    (sides z.top z.less nonzero)
  where
    sides : (n : ℤ) (l : ℕ) → (n ≡ pos 0 → ⊥) →
        Above (record { top = n; less = l }) ⊎ Above (negative (record { top = n; less = l }))
    sides (pos zero) l h = absurd (h refl)
    sides (pos (suc n)) l h = inl (record { top = omega (arith, ints) })
    sides (negsuc n) l h = inr (record { top = omega (arith, ints) })

pub quotient_none : (x y : Rational) → y.top ≡ pos 0 → quotient x y ≡ None
unfolding quotient divided
quotient_none x y e = rw e refl

-- where the quotient is there, the divisor isn't zero
pub quotient_some : (x y z : Rational) → quotient x y ≡ Some z → y.top ≡ pos 0 → ⊥
quotient_some x y z e f = let n = quotient_none x y f in cc

pub quotient_back : (x y z : Rational) → quotient x y ≡ Some z → Equal (times z y) x
quotient_back x y z e =
    let t = quotient_is x y (quotient_some x y z e) in let is = t.is in
    let same : t.value ≡ z = cc in rw (← same) t.back

-- what times the divisor is the dividend is the quotient
pub quotient_only : (x y z r : Rational) → quotient x y ≡ Some z → Equal (times r y) x → Equal r z
quotient_only x y z r e h =
    times_cancel_any r z y (quotient_some x y z e) (equal_trans h (equal_sym (quotient_back x y z e)))

zero_along : (y v : Rational) → Equal y v → y.top ≡ pos 0 → v.top ≡ pos 0
zero_along y v h e = zero_top v (equal_trans (equal_sym h) (top_zero y e))

pub quotient_same : (x y u v : Rational) → Equal x y → Equal u v → SameOption (quotient x u) (quotient y v)
quotient_same x y u v h k = ⊎_elim
    (λ (e : u.top ≡ pos 0). rw (quotient_none x u e, quotient_none y v (zero_along u v k e)) tt)
    (λ (n : u.top ≡ pos 0 → ⊥).
    let m : v.top ≡ pos 0 → ⊥ = λ e. n (zero_along v u (equal_sym k) e) in
    let a = quotient_is x u n in let b = quotient_is y v m in
    let same : Equal a.value b.value = times_cancel_any a.value b.value v m
    (equal_trans (times_same (equal_refl a.value) (equal_sym k))
    (equal_trans a.back (equal_trans h (equal_sym b.back)))) in
    rw (a.is, b.is) same)
    (zero_or_not u.top)

pub quotient_none_where : (x y : Rational) → quotient x y ≡ None → Equal y (whole (pos 0))
quotient_none_where x y e =
    ⊎_elim (λ z. top_zero y z) (λ n. let t = quotient_is x y n in let is = t.is in absurd cc) (zero_or_not y.top)

-- ---- the interval of a quotient, for a divisor above zero
pub above_not : {x : Rational} → (AtMost x (whole (pos 0)) → ⊥) → Above x
above_not {x} h = go x.top x.less h
  where
    go : (n : ℤ) (l : ℕ) → (AtMost (record { top = n; less = l }) (whole (pos 0)) → ⊥) →
        Above (record { top = n; less = l })
    go (pos zero) l h = absurd (h (record { at_most = omega (arith, ints) }))
    go (pos (suc n)) l h = record { top = omega (arith, ints) }
    go (negsuc n) l h = absurd (h (record { at_most = omega (arith, ints) }))

pub above_more : {x y : Rational} → Above x → AtMost x y → Above y
above_more {x} {y} h k =
    record { top = go y.top (x.top *ℤ pos (bottom y)) (bottom x) (mul_above h.top (suc_above y.less)) k.at_most }
  where
    go : (n m : ℤ) (d : ℕ) → pos 0 <ℤ m → m ≤ℤ (n *ℤ pos d) → pos 0 <ℤ n
    go (pos zero) m d p h = absurd (omega (arith, ints))
    go (pos (suc n)) m d p h = omega (arith, ints)
    go (negsuc n) (pos m) d p h = absurd (omega (arith, ints))
    go (negsuc n) (negsuc m) d p h = absurd (omega (arith, ints))
