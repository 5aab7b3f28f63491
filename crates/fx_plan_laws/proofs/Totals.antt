-- What the results of a calm function come to: a next state keeps its boxes, and no output leaves its own.
use Rattle.std.proofs.Common.{◌≡◌, ℕ, ◌+◌, ◌-◌, ◌*◌, ◌^◌, ◌≤◌, List, [], ◌∷◌, ◌++◌, length, pos, refl, ap, arith, pow_pos, pow-add}
use Rattle.std.proofs.lemmas.Nat.{mul-le}
use Rattle.fx_rational.specs.Rational.{Rational, whole, plus, times, AtMost, Equal}
use Rattle.fx_rational.proofs.Ring.{by_quotes, quotes}
use Rattle.fx_rational.proofs.Laws.{equal_refl, equal_sym, equal_trans, le_trans, le_of_equal, gap, ordered, nonneg_plus, nonneg_times, Nonneg, times_same, plus_same}
use Rattle.fx_rational.proofs.Powers.{power, power_sum}
use Rattle.fx_fraction.proofs.Halvings.{double_power}
use Rattle.fx_model.specs.Tree as tree
use Rattle.fx_model.specs.Tree.{Tree, at}
use Rattle.fx_model.specs.Function as function
use Rattle.fx_inequalities.specs.NodeConditions.{no_input}
use Rattle.fx_plan_laws.specs.Powers.{magnitude}
use Rattle.fx_plan_laws.proofs.Powers.{power_more}
use Rattle.fx_plan_laws.proofs.Values.{magnitude_nonneg}
use Rattle.fx_plan_laws.specs.Bounds.{Bound}
use Rattle.fx_plan_laws.specs.Calm.{Numbers, reach_of}
use Rattle.fx_plan_laws.specs.Linear.{Term, Alone, OfInput, OfState, scaled_term, terms_of, total, input_size, state_size, literal_size, input_reach}
use Rattle.fx_plan_laws.proofs.Factors.{HasRoom, naturals_le, naturals_order, natural_sum, natural_product, whole_nonneg, powers}
use Rattle.fx_plan_laws.proofs.Terms.{total_append, range_worth, error_worth, range_roundoff, error_roundoff, IsBounded}

-- ---- the sums, part by part
-- of the list's inputs
abbrev pub reaches : List function.Input → ℕ → Rational
reaches is k = reach_of (at no_input is k)

range_parts : (c : Numbers) (is : List function.Input) (xs : List Term) →
    Equal (total (range_worth c is) xs)
    (plus (times (total state_size xs) (power (c.q + 2)))
    (plus (total (input_reach (reaches is)) xs) (total literal_size xs)))
range_parts c is [] = by_quotes {ρ = power (c.q + 2) ∷ []} (search quotes depth 20) (search quotes depth 20) refl
range_parts c is (Alone s ∷ xs) = equal_trans (plus_same (equal_refl s) (range_parts c is xs))
    (by_quotes {ρ = s ∷ total state_size xs ∷ total (input_reach (reaches is)) xs ∷ total literal_size xs
    ∷ power (c.q + 2) ∷ []} (search quotes depth 20) (search quotes depth 20) refl)
range_parts c is (OfInput k s ∷ xs) =
    equal_trans (plus_same (equal_refl (times s (reaches is k))) (range_parts c is xs))
    (by_quotes {ρ = times s (reaches is k) ∷ total state_size xs ∷ total (input_reach (reaches is)) xs
    ∷ total literal_size xs ∷ power (c.q + 2) ∷ []} (search quotes depth 20) (search quotes depth 20) refl)
range_parts c is (OfState k s ∷ xs) =
    equal_trans (plus_same (equal_refl (times s (power (c.q + 2)))) (range_parts c is xs))
    (by_quotes {ρ = s ∷ total state_size xs ∷ total (input_reach (reaches is)) xs ∷ total literal_size xs
    ∷ power (c.q + 2) ∷ []} (search quotes depth 20) (search quotes depth 20) refl)

error_parts : (c : Numbers) (y : ℕ) (xs : List Term) →
    Equal (total (error_worth c y) xs)
    (plus (times (total input_size xs) (power y)) (times (total state_size xs) (power (c.p + 4 + y))))
error_parts c y [] =
    by_quotes {ρ = power y ∷ power (c.p + 4 + y) ∷ []} (search quotes depth 20) (search quotes depth 20) refl
error_parts c y (Alone s ∷ xs) = equal_trans (plus_same (equal_refl (whole (pos 0))) (error_parts c y xs))
    (by_quotes {ρ = total state_size xs ∷ total input_size xs ∷ power y ∷ power (c.p + 4 + y) ∷ []}
    (search quotes depth 20) (search quotes depth 20) refl)
error_parts c y (OfInput k s ∷ xs) = equal_trans (plus_same (equal_refl (times s (power y))) (error_parts c y xs))
    (by_quotes {ρ = s ∷ total state_size xs ∷ total input_size xs ∷ power y ∷ power (c.p + 4 + y) ∷ []}
    (search quotes depth 20) (search quotes depth 20) refl)
error_parts c y (OfState k s ∷ xs) =
    equal_trans (plus_same (equal_refl (times s (power (c.p + 4 + y)))) (error_parts c y xs))
    (by_quotes {ρ = s ∷ total state_size xs ∷ total input_size xs ∷ power y ∷ power (c.p + 4 + y) ∷ []}
    (search quotes depth 20) (search quotes depth 20) refl)

-- ---- sizes aren't negative
pub record AreTermSizes (xs : List Term) : Type 0 where
  pub inputs : Nonneg (total input_size xs)
  pub states : Nonneg (total state_size xs)

one_nonneg : {x : Rational} → Nonneg x → Nonneg (plus x (whole (pos 0)))
one_nonneg h = nonneg_plus h (whole_nonneg 0)

joined : (xs ys : List Term) → AreTermSizes xs → AreTermSizes ys → AreTermSizes (xs ++ ys)
joined xs ys h g = record {
  inputs = le_trans (nonneg_plus h.inputs g.inputs) (le_of_equal (equal_sym (total_append input_size xs ys)));
  states = le_trans (nonneg_plus h.states g.states) (le_of_equal (equal_sym (total_append state_size xs ys)));
}

none_sized : AreTermSizes []
none_sized = record { inputs = whole_nonneg 0; states = whole_nonneg 0 }

no_size : (s : Rational) → AreTermSizes (Alone s ∷ [])
no_size s = record { inputs = one_nonneg (whole_nonneg 0); states = one_nonneg (whole_nonneg 0) }

input_sized : (k : ℕ) (s : Rational) → Nonneg s → AreTermSizes (OfInput k s ∷ [])
input_sized k s h = record { inputs = one_nonneg h; states = one_nonneg (whole_nonneg 0) }

state_sized : (k : ℕ) (s : Rational) → Nonneg s → AreTermSizes (OfState k s ∷ [])
state_sized k s h = record { inputs = one_nonneg (whole_nonneg 0); states = one_nonneg h }

product_sized : (a b : Tree) → AreTermSizes (scaled_term a b ∷ [])
product_sized (tree.Literal x) (tree.Input k) = input_sized k (magnitude x) (magnitude_nonneg x)
product_sized (tree.Literal x) (tree.State k) = state_sized k (magnitude x) (magnitude_nonneg x)
product_sized (tree.Input k) (tree.Literal x) = input_sized k (magnitude x) (magnitude_nonneg x)
product_sized (tree.State k) (tree.Literal x) = state_sized k (magnitude x) (magnitude_nonneg x)
product_sized a b = no_size (whole (pos 0))

sized : (t : Tree) → AreTermSizes (terms_of t)
sized (tree.Literal x) = no_size (magnitude x)
sized (tree.Input k) = input_sized k (whole (pos 1)) (whole_nonneg 1)
sized (tree.State k) = state_sized k (whole (pos 1)) (whole_nonneg 1)
sized (tree.Temp k) = none_sized
sized (tree.Negation a) = sized a
sized (tree.Sum a b) = joined (terms_of a) (terms_of b) (sized a) (sized b)
sized (tree.Difference a b) = joined (terms_of a) (terms_of b) (sized a) (sized b)
sized (tree.Product a b) = product_sized a b
sized (tree.Quotient a b) = none_sized

-- ---- the inequalities, over rationals
next_range : (r p s a g k : Rational) → Nonneg p → Nonneg g →
    AtMost r (plus (times p (plus (times s (times g (whole (pos 4)))) a)) k) → AtMost (plus s s) (whole (pos 1)) →
    AtMost a g → AtMost k (times p g) →
    AtMost r (times p (times g (whole (pos 4))))
next_range r p s a g k pn gn h half adds few = ordered
    (nonneg_plus (gap h) (nonneg_plus (nonneg_times (nonneg_times (nonneg_times pn gn) (whole_nonneg 2)) (gap half))
    (nonneg_plus (nonneg_times pn (gap adds)) (gap few))))
    (by_quotes {ρ = r ∷ p ∷ s ∷ a ∷ g ∷ k ∷ []} (search quotes depth 20) (search quotes depth 20) refl)

next_error : (e i s y b a k : Rational) → Nonneg y → Nonneg b → Nonneg s →
    AtMost e (plus (plus (times i y) (times s b)) k) → AtMost (plus s s) (whole (pos 1)) → AtMost (plus i s) a →
    AtMost (plus (plus (times a y) (times a y)) (plus k k)) b → AtMost (plus e e) (plus b b)
next_error e i s y b a k yn bn sn h half sizes few = ordered
    (nonneg_plus (nonneg_plus (gap h) (gap h))
    (nonneg_plus (nonneg_times bn (gap half))
    (nonneg_plus (nonneg_plus (nonneg_times (gap sizes) yn) (nonneg_times (gap sizes) yn))
    (nonneg_plus (nonneg_plus (nonneg_times sn yn) (nonneg_times sn yn)) (gap few)))))
    (by_quotes {ρ = e ∷ i ∷ s ∷ y ∷ b ∷ a ∷ k ∷ []} (search quotes depth 20) (search quotes depth 20) refl)

output_error : (e i s y b a k : Rational) → Nonneg b → Nonneg i → AtMost e (plus (plus (times i y) (times s b)) k) →
    AtMost (plus i s) a → AtMost y b → AtMost k b → AtMost e (plus (times a b) b)
output_error e i s y b a k bn in_ h sizes yb kb = ordered
    (nonneg_plus (gap h) (nonneg_plus (nonneg_times (gap sizes) bn) (nonneg_plus (nonneg_times in_ (gap yb)) (gap kb))))
    (by_quotes {ρ = e ∷ i ∷ s ∷ y ∷ b ∷ a ∷ k ∷ []} (search quotes depth 20) (search quotes depth 20) refl)

output_range : (r p t k h : Rational) → Nonneg p → AtMost r (plus (times p t) k) → AtMost t h → AtMost k p →
    AtMost r (plus (times p h) p)
output_range r p t k h pn l th kp =
    ordered (nonneg_plus (gap l) (nonneg_plus (nonneg_times pn (gap th)) (gap kp)))
    (by_quotes {ρ = r ∷ p ∷ t ∷ k ∷ h ∷ []} (search quotes depth 20) (search quotes depth 20) refl)

-- ---- in whole numbers
halves_le : (a b : ℕ) → a + a ≤ b + b → a ≤ b
halves_le a b h = omega (arith, h)

-- up to 64 times 2^k
few_times : (n s k : ℕ) → n ≤ 64 → s ≤ 2 ^ k → n * s ≤ 2 ^ (k + 6)
few_times n s k l h = let m = mul-le n s 64 (2 ^ k) l h in let e = pow-add 2 k 6 in omega (arith, m, e)

module _ (c : Numbers) (y : ℕ) (is : List function.Input) (t : Tree) (b : Bound) (room : HasRoom c y)
    (few : length (terms_of t) ≤ 64) (bounded : IsBounded c y is (terms_of t) b)
    (sizes : AtMost (plus (total input_size (terms_of t)) (total state_size (terms_of t))) (power c.a)) where
  abbrev xs : List Term
  xs = terms_of t

  abbrev k : ℕ
  k = length xs * range_roundoff c

  abbrev l : ℕ
  l = length xs * error_roundoff c y

  -- roundings are at most a unit of values
  range_few : k ≤ 2 ^ c.f
  range_few =
      let f = few_times (length xs) (range_roundoff c) (c.m + 1) few (omega arith) in
      let r = room.roundings in
      let p = room.point in
      let m = power_more {a = (c.m + 1) + 6} {b = c.f} (omega (arith, r, p)) in
      omega (arith, f, m)

  -- and at most a quarter of the box for errors
  error_few : l ≤ 2 ^ (c.p + y) + 2 ^ (c.p + y)
  error_few =
      let r = room.roundings in let s = room.states in
      let small = few_times (length xs) (2 ^ c.m) c.m few (omega arith) in
      let large = few_times (length xs) (2 ^ (y + 3)) (y + 3) few (omega arith) in
      let e : l ≡ length xs * 2 ^ c.m + length xs * 2 ^ (y + 3) = omega arith in
      let m = power_more {a = c.m + 6} {b = c.p + y} (omega (arith, r)) in
      let n = power_more {a = (y + 3) + 6} {b = c.p + y} (omega (arith, r, s)) in
      omega (arith, small, large, e, m, n)

  range_is : AtMost (whole (pos b.r))
      (plus (times (power c.f)
      (plus (times (total state_size xs) (power (c.q + 2)))
      (plus (total (input_reach (reaches is)) xs) (total literal_size xs)))) (whole (pos k)))
  range_is =
      le_trans bounded.range.within
      (le_of_equal (plus_same (times_same (equal_refl (power c.f)) (range_parts c is xs)) (equal_refl _)))

  error_is : AtMost (whole (pos b.e))
      (plus (plus (times (total input_size xs) (power y)) (times (total state_size xs) (power (c.p + 4 + y))))
      (whole (pos l)))
  error_is =
      le_trans bounded.error.within
      (le_of_equal (plus_same
      (equal_trans (times_same (equal_refl (whole (pos 1))) (error_parts c y xs))
      (by_quotes {ρ = total input_size xs ∷ power y ∷ total state_size xs ∷ power (c.p + 4 + y) ∷ []}
      (search quotes depth 20) (search quotes depth 20) refl)) (equal_refl _)))

  box_parts : 2 ^ (c.p + 4 + y) ≡ 16 * 2 ^ (c.p + y)
  box_parts =
      let e = pow-add 2 (c.p + y) 4 in
      let q : 2 ^ (c.p + 4 + y) ≡ 2 ^ (c.p + y + 4) = ap (λ (n : ℕ). 2 ^ n) (omega arith) in
      omega (arith, e, q)

  module _ (half : AtMost (plus (total state_size xs) (total state_size xs)) (whole (pos 1))) where
    pub next_range_few : AtMost (plus (total (input_reach (reaches is)) xs) (total literal_size xs)) (power c.q) →
        b.r ≤ 2 ^ (c.q + 2 + c.f)
    next_range_few adds =
        let four : Equal (power (c.q + 2)) (times (power c.q) (whole (pos 4))) = power_sum c.q 2 in
        let h =
        le_trans range_is (le_of_equal
        (plus_same (times_same (equal_refl (power c.f))
        (plus_same (times_same (equal_refl (total state_size xs)) four) (equal_refl _))) (equal_refl _))) in
        let p = pow_pos c.q in
        let kf : AtMost (whole (pos k)) (times (power c.f) (power c.q)) =
        le_trans (naturals_le (let r = range_few in
        let m = mul-le (2 ^ c.f) 1 (2 ^ c.f) (2 ^ c.q) (omega arith) p in
        omega (arith, r, m))) (le_of_equal (natural_product (2 ^ c.f) (2 ^ c.q))) in
        naturals_order (le_trans
        (next_range (whole (pos b.r)) (power c.f) (total state_size xs)
        (plus (total (input_reach (reaches is)) xs) (total literal_size xs)) (power c.q) (whole (pos k))
        (whole_nonneg (2 ^ c.f)) (whole_nonneg (2 ^ c.q)) h half adds kf)
        (le_of_equal (equal_trans (times_same (equal_refl (power c.f)) (equal_sym four))
        (equal_trans (by_quotes {ρ = power c.f ∷ power (c.q + 2) ∷ []} {b = times (power (c.q + 2)) (power c.f)}
        (search quotes depth 20) (search quotes depth 20) refl) (powers (c.q + 2) c.f)))))

    pub next_error_few : b.e ≤ 2 ^ (c.p + 4 + y)
    next_error_few =
        let ss = room.sizes in
        let a = c.a in
        let all : 2 ^ (a + y) + 2 ^ (a + y) + (l + l) ≤ 2 ^ (c.p + 4 + y) = let e = error_few in let q = box_parts in
        let m = power_more {a = a + y} {b = c.p + y} (omega (arith, ss)) in omega (arith, e, q, m) in
        let few_all : AtMost (plus (plus (times (power a) (power y)) (times (power a) (power y)))
        (plus (whole (pos l)) (whole (pos l)))) (power (c.p + 4 + y)) =
        le_trans (le_of_equal (equal_trans
        (plus_same (equal_trans (plus_same (powers a y) (powers a y))
        (equal_sym (natural_sum (2 ^ (a + y)) (2 ^ (a + y))))) (equal_sym (natural_sum l l))) (equal_sym
        (natural_sum (2 ^ (a + y) + 2 ^ (a + y)) (l + l))))) (naturals_le all) in
        let twice =
        next_error (whole (pos b.e)) (total input_size xs) (total state_size xs) (power y) (power (c.p + 4 + y))
        (power a) (whole (pos l)) (whole_nonneg (2 ^ y)) (whole_nonneg (2 ^ (c.p + 4 + y)))
        (sized t).states error_is half sizes few_all in
        halves_le b.e (2 ^ (c.p + 4 + y))
        (naturals_order (le_trans (le_of_equal (natural_sum b.e b.e))
        (le_trans twice (le_of_equal (equal_sym (natural_sum (2 ^ (c.p + 4 + y)) (2 ^ (c.p + 4 + y))))))))

  pub output_range_few : AtMost
      (plus (times (total state_size xs) (power (c.q + 2)))
      (plus (total (input_reach (reaches is)) xs) (total literal_size xs))) (power (c.m - 1)) → b.r ≤ 2 ^ (c.m + c.f)
  output_range_few values =
      let h =
      output_range (whole (pos b.r)) (power c.f) _ (whole (pos k)) (power (c.m - 1))
      (whole_nonneg (2 ^ c.f)) range_is values (naturals_le range_few) in
      let n =
      naturals_order (le_trans h
      (le_of_equal (equal_trans (plus_same (powers c.f (c.m - 1)) (equal_refl (power c.f)))
      (equal_sym (natural_sum (2 ^ (c.f + (c.m - 1))) (2 ^ c.f)))))) in
      let s = room.states in let d = double_power (c.f + (c.m - 1)) in
      let m = power_more {a = c.f} {b = c.f + (c.m - 1)} (omega arith) in
      let e : 2 ^ (c.m + c.f) ≡ 2 ^ ((c.f + (c.m - 1)) + 1) = ap (λ (j : ℕ). 2 ^ j) (omega (arith, s)) in
      omega (arith, n, d, m, e)

  pub output_error_few : b.e ≤ 2 ^ (c.a + c.p + 5 + y)
  output_error_few =
      let box = c.p + 4 + y in
      let kb : l ≤ 2 ^ box = let e = error_few in let q = box_parts in omega (arith, e, q) in
      let h =
      output_error (whole (pos b.e)) (total input_size xs) (total state_size xs) (power y) (power box) (power c.a)
      (whole (pos l)) (whole_nonneg (2 ^ box)) (sized t).inputs error_is sizes
      (naturals_le (power_more {a = y} {b = box} (omega arith))) (naturals_le kb) in
      let n =
      naturals_order (le_trans h
      (le_of_equal (equal_trans (plus_same (powers c.a box) (equal_refl (power box)))
      (equal_sym (natural_sum (2 ^ (c.a + box)) (2 ^ box)))))) in
      let d = double_power (c.a + box) in let m = power_more {a = box} {b = c.a + box} (omega arith) in
      let e : 2 ^ (c.a + c.p + 5 + y) ≡ 2 ^ ((c.a + box) + 1) = ap (λ (j : ℕ). 2 ^ j) (omega arith) in
      omega (arith, n, d, m, e)
