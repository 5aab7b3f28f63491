-- Terms as summands of exact sums.
use Rattle.std.proofs.Common.{◌≡◌, ℕ, ◌*◌, ◌^◌, ◌<◌, ◌≤◌, Bool, true, List, [], ◌∷◌, map, pos, ◌*ℤ◌, refl, sym, ap, subst, ◌∙◌, arith, pow-add}
use Rattle.std.specs.Prelude.{unsigned_abs, All, Result, Ok, Err, OnOk}
use Rattle.std.proofs.lemmas.Bool.{and_parts}
use Rattle.std.proofs.lemmas.Nat.{mul-le}
use Rattle.std.proofs.lemmas.Int.{ints}
use Rattle.std.proofs.lemmas.List.Elements.{All-nil, All-cons, All-append, All-head, All-tail}
use Rattle.fx_rational.specs.Rational.{Rational, bottom, whole, over, plus, times, Equal, AtMost, is_at_most}
use Rattle.fx_rational.proofs.Ring.{by_quotes, quotes}
use Rattle.fx_rational.proofs.Laws.{equal_refl, equal_sym, equal_trans, le_trans, le_of_equal, plus_same, times_same}
use Rattle.fx_rational.proofs.Lowest.{suc_pred}
use Rattle.fx_rational.proofs.Tests.{at_most_true}
use Rattle.fx_rational.proofs.Powers.{power, whole_le}
use Rattle.fx_model.specs.Tree as tree
use Rattle.fx_model.specs.Tree.{Tree}
use Rattle.fx_model.specs.Function.{Function}
use Rattle.fx_plan_laws.specs.Powers.{power_value, magnitude}
use Rattle.fx_plan_laws.proofs.Powers.{power_more, whole_value_is}
use Rattle.fx_plan_laws.specs.Linear.{Term, Alone, OfInput, OfState, scaled_term, terms_of, total, input_size, state_size, literal_size, input_reach, are_literals_below}
use Rattle.fx_plan_laws.specs.Calm.{reach_at}
use Rattle.fx_calm.specs.declared.summand.Summand.{Summand}
use Rattle.fx_calm.specs.Summands.{IsSummand, sum_of}
use Rattle.fx_calm.specs.declared.sum.Sum.{Sum}
use Rattle.fx_calm.specs.declared.sum.Sum.TheVariants.{States, Sizes, Adds, Values}
use Rattle.fx_calm.specs.SumOf.{sum_value, weight_of, size_of, summand_of, IsSum, IsNarrowSummand}
use Rattle.fx_calm.proofs.Sizes.{HasNoSign, greater_unsigned, top_at_most}

-- ---- one summand
-- the summand of two sizes in code
pub product_is : (s b t d : ℕ) → 0 < b → 0 < d →
    (let x : Summand = record { top = s * t; bottom = b * d } in
    x ≡ record {
      top = unsigned_abs (over (pos s) b).top * unsigned_abs (over (pos t) d).top;
      bottom = bottom (over (pos s) b) * bottom (over (pos t) d);
    })
unfolding over
product_is s b t d p q = (λ i. record { top = s * t; bottom = sym (suc_pred b p) i * sym (suc_pred d q) i })

-- what a term is worth in a sum
abbrev pub worth : Function → Sum → Term → Rational
worth fn sum x = times (size_of x) (weight_of fn sum x)

product_value : (s w : Rational) → HasNoSign s → HasNoSign w →
    over (pos (unsigned_abs s.top * unsigned_abs w.top)) (bottom s * bottom w) ≡ times s w
unfolding times
product_value s w p q = (λ i. over (p i *ℤ q i) (bottom s * bottom w))

-- ---- terms have no sign
weight_unsigned : (fn : Function) (sum : Sum) (x : Term) → HasNoSign (weight_of fn sum x)
weight_unsigned fn States (Alone s) = refl
weight_unsigned fn Sizes (Alone s) = refl
weight_unsigned fn Adds (Alone s) = refl
weight_unsigned fn (Values n) (Alone s) = refl
weight_unsigned fn States (OfState k s) = refl
weight_unsigned fn Sizes (OfState k s) = refl
weight_unsigned fn Adds (OfState k s) = refl
weight_unsigned fn (Values n) (OfState k s) = refl
weight_unsigned fn States (OfInput k s) = refl
weight_unsigned fn Sizes (OfInput k s) = refl
weight_unsigned fn Adds (OfInput k s) = greater_unsigned _ _ refl refl
weight_unsigned fn (Values n) (OfInput k s) = greater_unsigned _ _ refl refl

abbrev pub IsUnsignedTerm : Term → Type 0
IsUnsignedTerm x = HasNoSign (size_of x)

one : (P : Term → Type 0) (x : Term) → P x → All P (x ∷ [])
one P x h = All-cons P x [] h (All-nil P)

-- the term of a product: nothing, or a literal of one of its factors times an input or a state
of_product : (P : Term → Type 0) (Q : Tree → Type 0) → P (Alone (whole (pos 0))) →
    ((c : Rational) (k : ℕ) → Q (tree.Literal c) → P (OfInput k (magnitude c))) →
    ((c : Rational) (k : ℕ) → Q (tree.Literal c) → P (OfState k (magnitude c))) →
    (a b : Tree) → Q a → Q b → P (scaled_term a b)
of_product P Q none input state (tree.Literal c) (tree.Literal k) p q = none
of_product P Q none input state (tree.Literal c) (tree.Input k) p q = input c k p
of_product P Q none input state (tree.Literal c) (tree.State k) p q = state c k p
of_product P Q none input state (tree.Literal c) (tree.Temp k) p q = none
of_product P Q none input state (tree.Literal c) (tree.Negation x) p q = none
of_product P Q none input state (tree.Literal c) (tree.Sum x y) p q = none
of_product P Q none input state (tree.Literal c) (tree.Difference x y) p q = none
of_product P Q none input state (tree.Literal c) (tree.Product x y) p q = none
of_product P Q none input state (tree.Literal c) (tree.Quotient x y) p q = none
of_product P Q none input state (tree.Input k) (tree.Literal c) p q = input c k q
of_product P Q none input state (tree.Input k) (tree.Input j) p q = none
of_product P Q none input state (tree.Input k) (tree.State j) p q = none
of_product P Q none input state (tree.Input k) (tree.Temp j) p q = none
of_product P Q none input state (tree.Input k) (tree.Negation x) p q = none
of_product P Q none input state (tree.Input k) (tree.Sum x y) p q = none
of_product P Q none input state (tree.Input k) (tree.Difference x y) p q = none
of_product P Q none input state (tree.Input k) (tree.Product x y) p q = none
of_product P Q none input state (tree.Input k) (tree.Quotient x y) p q = none
of_product P Q none input state (tree.State k) (tree.Literal c) p q = state c k q
of_product P Q none input state (tree.State k) (tree.Input j) p q = none
of_product P Q none input state (tree.State k) (tree.State j) p q = none
of_product P Q none input state (tree.State k) (tree.Temp j) p q = none
of_product P Q none input state (tree.State k) (tree.Negation x) p q = none
of_product P Q none input state (tree.State k) (tree.Sum x y) p q = none
of_product P Q none input state (tree.State k) (tree.Difference x y) p q = none
of_product P Q none input state (tree.State k) (tree.Product x y) p q = none
of_product P Q none input state (tree.State k) (tree.Quotient x y) p q = none
of_product P Q none input state (tree.Temp k) b p q = none
of_product P Q none input state (tree.Negation x) b p q = none
of_product P Q none input state (tree.Sum x y) b p q = none
of_product P Q none input state (tree.Difference x y) b p q = none
of_product P Q none input state (tree.Product x y) b p q = none
of_product P Q none input state (tree.Quotient x y) b p q = none

product_unsigned : (a b : Tree) → IsUnsignedTerm (scaled_term a b)
product_unsigned a b = of_product IsUnsignedTerm (λ t. Unit {0}) refl (λ c k q. refl) (λ c k q. refl) a b tt tt

pub terms_unsigned : (t : Tree) → All IsUnsignedTerm (terms_of t)
terms_unsigned (tree.Literal c) = one IsUnsignedTerm _ refl
terms_unsigned (tree.Input k) = one IsUnsignedTerm _ refl
terms_unsigned (tree.State k) = one IsUnsignedTerm _ refl
terms_unsigned (tree.Temp k) = All-nil IsUnsignedTerm
terms_unsigned (tree.Negation a) = terms_unsigned a
terms_unsigned (tree.Sum a b) =
    All-append IsUnsignedTerm (terms_of a) (terms_of b) (terms_unsigned a) (terms_unsigned b)
terms_unsigned (tree.Difference a b) =
    All-append IsUnsignedTerm (terms_of a) (terms_of b) (terms_unsigned a) (terms_unsigned b)
terms_unsigned (tree.Product a b) = one IsUnsignedTerm _ (product_unsigned a b)
terms_unsigned (tree.Quotient a b) = All-nil IsUnsignedTerm

-- ---- what summands add up to
pub summands_sum : (fn : Function) (sum : Sum) (xs : List Term) → All IsUnsignedTerm xs →
    Equal (sum_of (map (summand_of fn sum) xs)) (total (worth fn sum) xs)
summands_sum fn sum [] h = equal_refl _
summands_sum fn sum (x ∷ xs) h =
    plus_same (subst (λ (r : Rational). Equal r (worth fn sum x))
    (sym (product_value (size_of x) (weight_of fn sum x) (All-head IsUnsignedTerm x xs h)
    (weight_unsigned fn sum x))) (equal_refl (worth fn sum x)))
    (summands_sum fn sum xs (All-tail IsUnsignedTerm x xs h))

states_total : (fn : Function) (xs : List Term) →
    Equal (total (worth fn States) xs) (plus (total state_size xs) (total state_size xs))
states_total fn [] =
    by_quotes {ρ = []} {a = whole (pos 0)} {b = plus (whole (pos 0)) (whole (pos 0))} (search quotes depth 20)
    (search quotes depth 20) refl
states_total fn (Alone s ∷ xs) =
    equal_trans (plus_same (equal_refl (times s (whole (pos 0)))) (states_total fn xs))
    (by_quotes {ρ = s ∷ total state_size xs ∷ []} (search quotes depth 20) (search quotes depth 20) refl)
states_total fn (OfInput k s ∷ xs) =
    equal_trans (plus_same (equal_refl (times s (whole (pos 0)))) (states_total fn xs))
    (by_quotes {ρ = s ∷ total state_size xs ∷ []} (search quotes depth 20) (search quotes depth 20) refl)
states_total fn (OfState k s ∷ xs) =
    equal_trans (plus_same (equal_refl (times s (whole (pos 2)))) (states_total fn xs))
    (by_quotes {ρ = s ∷ total state_size xs ∷ []} (search quotes depth 20) (search quotes depth 20) refl)

sizes_total : (fn : Function) (xs : List Term) →
    Equal (total (worth fn Sizes) xs) (plus (total input_size xs) (total state_size xs))
sizes_total fn [] =
    by_quotes {ρ = []} {a = whole (pos 0)} {b = plus (whole (pos 0)) (whole (pos 0))} (search quotes depth 20)
    (search quotes depth 20) refl
sizes_total fn (Alone s ∷ xs) =
    equal_trans (plus_same (equal_refl (times s (whole (pos 0)))) (sizes_total fn xs))
    (by_quotes {ρ = s ∷ total input_size xs ∷ total state_size xs ∷ []} (search quotes depth 20)
    (search quotes depth 20) refl)
sizes_total fn (OfInput k s ∷ xs) =
    equal_trans (plus_same (equal_refl (times s (whole (pos 1)))) (sizes_total fn xs))
    (by_quotes {ρ = s ∷ total input_size xs ∷ total state_size xs ∷ []} (search quotes depth 20)
    (search quotes depth 20) refl)
sizes_total fn (OfState k s ∷ xs) =
    equal_trans (plus_same (equal_refl (times s (whole (pos 1)))) (sizes_total fn xs))
    (by_quotes {ρ = s ∷ total input_size xs ∷ total state_size xs ∷ []} (search quotes depth 20)
    (search quotes depth 20) refl)

adds_total : (fn : Function) (xs : List Term) →
    Equal (total (worth fn Adds) xs) (plus (total (input_reach (reach_at fn)) xs) (total literal_size xs))
adds_total fn [] =
    by_quotes {ρ = []} {a = whole (pos 0)} {b = plus (whole (pos 0)) (whole (pos 0))} (search quotes depth 20)
    (search quotes depth 20) refl
adds_total fn (Alone s ∷ xs) =
    equal_trans (plus_same (equal_refl (times s (whole (pos 1)))) (adds_total fn xs))
    (by_quotes {ρ = s ∷ total (input_reach (reach_at fn)) xs ∷ total literal_size xs ∷ []} (search quotes depth 20)
    (search quotes depth 20) refl)
adds_total fn (OfInput k s ∷ xs) =
    equal_trans (plus_same (equal_refl (times s (reach_at fn k))) (adds_total fn xs))
    (by_quotes {ρ = s ∷ reach_at fn k ∷ total (input_reach (reach_at fn)) xs ∷ total literal_size xs ∷ []}
    (search quotes depth 20) (search quotes depth 20) refl)
adds_total fn (OfState k s ∷ xs) =
    equal_trans (plus_same (equal_refl (times s (whole (pos 0)))) (adds_total fn xs))
    (by_quotes {ρ = s ∷ total (input_reach (reach_at fn)) xs ∷ total literal_size xs ∷ []} (search quotes depth 20)
    (search quotes depth 20) refl)

-- p stands for the power
values_total : (fn : Function) (n : ℕ) (xs : List Term) →
    (let p = power n in
    Equal (total (worth fn (Values n)) xs)
    (plus (times (total state_size xs) p) (plus (total (input_reach (reach_at fn)) xs) (total literal_size xs))))
values_total fn n [] =
    by_quotes {ρ = power n ∷ []} {a = whole (pos 0)} {b = plus (times (whole (pos 0)) (power n))
    (plus (whole (pos 0)) (whole (pos 0)))} (search quotes depth 20) (search quotes depth 20) refl
values_total fn n (Alone s ∷ xs) =
    equal_trans (plus_same (equal_refl (times s (whole (pos 1)))) (values_total fn n xs))
    (by_quotes {ρ = s ∷ power n ∷ total state_size xs ∷ total (input_reach (reach_at fn)) xs ∷ total literal_size xs
    ∷ []} (search quotes depth 20) (search quotes depth 20) refl)
values_total fn n (OfInput k s ∷ xs) =
    equal_trans (plus_same (equal_refl (times s (reach_at fn k))) (values_total fn n xs))
    (by_quotes {ρ = s ∷ reach_at fn k ∷ power n ∷ total state_size xs ∷ total (input_reach (reach_at fn)) xs
    ∷ total literal_size xs ∷ []} (search quotes depth 20) (search quotes depth 20) refl)
values_total fn n (OfState k s ∷ xs) =
    equal_trans (plus_same (equal_refl (times s (power n))) (values_total fn n xs))
    (by_quotes {ρ = s ∷ power n ∷ total state_size xs ∷ total (input_reach (reach_at fn)) xs ∷ total literal_size xs
    ∷ []} (search quotes depth 20) (search quotes depth 20) refl)

pub total_is : (fn : Function) (sum : Sum) (t : Tree) → Equal (total (worth fn sum) (terms_of t)) (sum_value fn sum t)
total_is fn States t = states_total fn (terms_of t)
total_is fn Sizes t = sizes_total fn (terms_of t)
total_is fn Adds t = adds_total fn (terms_of t)
total_is fn (Values n) t =
    equal_trans (values_total fn n (terms_of t))
    (plus_same (times_same (equal_refl (total state_size (terms_of t))) (equal_sym (whole_value_is n))) (equal_refl _))

-- ---- how great summands are
abbrev pub IsLowTerm : Term → Type 0
IsLowTerm x = AtMost (size_of x) (power 25)

whole_low : (n k : ℕ) → n ≤ 2 ^ k → AtMost (whole (pos n)) (power k)
whole_low n k l = whole_le {a = pos n} {b = pos (2 ^ k)} (omega (arith, ints, l))

low_literal : (c : Rational) → is_at_most (magnitude c) (power_value (pos 25)) ≡ true → AtMost (magnitude c) (power 25)
low_literal c e = le_trans (at_most_true (magnitude c) (power_value (pos 25)) e) (le_of_equal (whole_value_is 25))

abbrev are_low : Tree → Bool
are_low t = are_literals_below (power_value (pos 25)) t

zero_low : AtMost (whole (pos 0)) (power 25)
zero_low = whole_low 0 25 (omega arith)

low_product : (a b : Tree) → are_low a ≡ true → are_low b ≡ true → IsLowTerm (scaled_term a b)
low_product a b p q =
    of_product IsLowTerm (λ t. are_low t ≡ true) zero_low (λ c k h. low_literal c h) (λ c k h. low_literal c h) a b p q

pub low_terms : (t : Tree) → are_literals_below (power_value (pos 25)) t ≡ true → All IsLowTerm (terms_of t)
low_terms (tree.Literal c) e = one IsLowTerm _ (low_literal c e)
low_terms (tree.Input k) e = one IsLowTerm _ (whole_low 1 25 (omega arith))
low_terms (tree.State k) e = one IsLowTerm _ (whole_low 1 25 (omega arith))
low_terms (tree.Temp k) e = All-nil IsLowTerm
low_terms (tree.Negation a) e = low_terms a e
low_terms (tree.Sum a b) e =
    let p = and_parts (are_low a) (are_low b) e in
    All-append IsLowTerm (terms_of a) (terms_of b) (low_terms a p.0) (low_terms b p.1)
low_terms (tree.Difference a b) e =
    let p = and_parts (are_low a) (are_low b) e in
    All-append IsLowTerm (terms_of a) (terms_of b) (low_terms a p.0) (low_terms b p.1)
low_terms (tree.Product a b) e =
    let p = and_parts (are_low a) (are_low b) e in one IsLowTerm _ (low_product a b p.0 p.1)
low_terms (tree.Quotient a b) e = All-nil IsLowTerm

-- where inputs reach at most 2^25, weights are at most that
low_weight : (fn : Function) (sum : Sum) → ((k : ℕ) → AtMost (reach_at fn k) (power 25)) → IsSum sum → (x : Term) →
    AtMost (weight_of fn sum x) (power 25)
low_weight fn States reach s (Alone q) = whole_low 0 25 (omega arith)
low_weight fn Sizes reach s (Alone q) = whole_low 0 25 (omega arith)
low_weight fn Adds reach s (Alone q) = whole_low 1 25 (omega arith)
low_weight fn (Values n) reach s (Alone q) = whole_low 1 25 (omega arith)
low_weight fn States reach s (OfState k q) = whole_low 2 25 (omega arith)
low_weight fn Sizes reach s (OfState k q) = whole_low 1 25 (omega arith)
low_weight fn Adds reach s (OfState k q) = whole_low 0 25 (omega arith)
low_weight fn (Values n) reach s (OfState k q) = whole_low (2 ^ n) 25 (power_more {a = n} {b = 25} s)
low_weight fn States reach s (OfInput k q) = whole_low 0 25 (omega arith)
low_weight fn Sizes reach s (OfInput k q) = whole_low 1 25 (omega arith)
low_weight fn Adds reach s (OfInput k q) = reach k
low_weight fn (Values n) reach s (OfInput k q) = reach k

small_product : (s b t d : ℕ) → 0 < b * d → s ≤ b * 2 ^ 25 → t ≤ d * 2 ^ 25 → s * t < b * d * 2 ^ 62
small_product s b t d some p q =
    let m = mul-le s t (b * 2 ^ 25) (d * 2 ^ 25) p q in
    let e : b * 2 ^ 25 * (d * 2 ^ 25) ≡ b * d * 2 ^ 50 = turned b d (2 ^ 25) (2 ^ 50) (pow-add 2 25 25) in
    omega (arith, m, e, some)
  where
    turned : (b d p q : ℕ) → q ≡ p * p → b * p * (d * p) ≡ b * d * q
    turned b d p q e = let r : b * p * (d * p) ≡ b * d * (p * p) = omega arith in r ∙ ap (λ (n : ℕ). b * d * n) (sym e)

-- so narrow summands are summands
pub term_summand : (fn : Function) (sum : Sum) (x : Term) → ((k : ℕ) → AtMost (reach_at fn k) (power 25)) → IsSum sum →
    IsUnsignedTerm x → IsLowTerm x → IsNarrowSummand (summand_of fn sum x) → IsSummand (summand_of fn sum x)
term_summand fn sum x reach s u low h = record {
  some = h.some;
  few = h.few;
  fits = h.fits;
  small =
      small_product (unsigned_abs (size_of x).top) (bottom (size_of x)) (unsigned_abs (weight_of fn sum x).top)
      (bottom (weight_of fn sum x)) h.some (top_at_most (size_of x) 25 u low)
      (top_at_most (weight_of fn sum x) 25 (weight_unsigned fn sum x) (low_weight fn sum reach s x));
}

pub terms_summands : (fn : Function) (sum : Sum) (xs : List Term) → ((k : ℕ) → AtMost (reach_at fn k) (power 25)) →
    IsSum sum → All IsUnsignedTerm xs → All IsLowTerm xs → All IsNarrowSummand (map (summand_of fn sum) xs) →
    All IsSummand (map (summand_of fn sum) xs)
terms_summands fn sum [] reach s u low h = All-nil IsSummand
terms_summands fn sum (x ∷ xs) reach s u low h =
    All-cons IsSummand (summand_of fn sum x) (map (summand_of fn sum) xs)
    (term_summand fn sum x reach s (All-head IsUnsignedTerm x xs u) (All-head IsLowTerm x xs low)
    (All-head IsNarrowSummand (summand_of fn sum x) (map (summand_of fn sum) xs) h))
    (terms_summands fn sum xs reach s (All-tail IsUnsignedTerm x xs u) (All-tail IsLowTerm x xs low)
    (All-tail IsNarrowSummand (summand_of fn sum x) (map (summand_of fn sum) xs) h))

-- where the second tree was put too
pub narrow_both : {A E : Type 0} (P Q R : Type 0) (r : Result A E) → (P → Q) → OnOk r (Q → R) → OnOk r (P → R)
narrow_both P Q R (Ok x) f g = λ p. g (f p)
narrow_both P Q R (Err e) f g = tt
