-- The tests of the code on sums, inputs and errors are those of the definition.
use Rattle.std.proofs.Common.{◌≡◌, ℕ, ◌+◌, ◌^◌, ◌<◌, ◌≤◌, leb, nat_le, Bool, true, false, if◌then◌else◌, List, [], ◌∷◌, ◌++◌, map, length, ℤ, pos, ◌-ℤ◌, ⊎_elim, refl, sym, ap, subst, ◌∙◌, arith}
use Rattle.std.specs.Prelude.{All}
use Rattle.std.specs.Cmp.{both_ways}
use Rattle.std.proofs.lemmas.Int.{ints}
use Rattle.std.proofs.lemmas.Bool.{and_parts, cases_lt}
use Rattle.std.proofs.lemmas.List.{length-map, get_or_past}
use Rattle.std.proofs.lemmas.List.Elements.{All-nil}
use Rattle.fx_rational.specs.Rational.{Rational, whole, plus, times, Equal, AtMost, is_at_most}
use Rattle.fx_rational.proofs.Ring.{by_quotes, quotes}
use Rattle.fx_rational.proofs.Laws.{equal_refl, equal_sym, equal_trans, le_trans, le_of_equal, plus_le, times_le, ordered}
use Rattle.fx_rational.proofs.Tests.{at_most_true, at_most_holds}
use Rattle.fx_rational.proofs.Quotient.{le_of_times, whole_above, above_nonneg}
use Rattle.fx_rational.proofs.Powers.{power, power_above, power_sum, whole_le}
use Rattle.fx_model.specs.Tree.{Tree, at}
use Rattle.fx_model.specs.Function as function
use Rattle.fx_model.specs.Function.{Function}
use Rattle.fx_model.specs.Rows.{AreInputs}
use Rattle.fx_inequalities.specs.NodeConditions.{no_input}
use Rattle.fx_plan_laws.specs.Powers.{power_value, is_below_power, magnitude}
use Rattle.fx_plan_laws.proofs.Powers.{whole_value_is, below_power, test_power}
use Rattle.fx_plan_laws.specs.Linear.{is_linear, terms_of}
use Rattle.fx_plan_laws.specs.Calm.{reach_of, reach_at, is_short}
use Rattle.fx_plan_laws.specs.Bounds.{units_up}
use Rattle.fx_plan_laws.proofs.Calmness.{all_at, le_of_test}
use Rattle.fx_plan_laws.proofs.Factors.{naturals_le, power_units}
use Rattle.fx_plan_laws.proofs.Rounded.{units_above, units_least}
use Rattle.fx_plan_laws.proofs.Inputs.{error_nonnegative}
use Rattle.fx_weight.proofs.Units.{size_of_nonneg}
use Rattle.fx_calm.specs.declared.summand.Summand.{Summand}
use Rattle.fx_calm.specs.Summands.{IsSummand, summand_value, sum_of}
use Rattle.fx_calm.specs.declared.sum.Sum.{Sum}
use Rattle.fx_calm.specs.SumOf.{sum_value, summand_of, IsSum, IsNarrowSummand}
use Rattle.fx_calm.specs.LimitOf.{no_tree, IsTame}
use Rattle.fx_calm.proofs.Counted.{summands_sum, terms_unsigned, total_is, low_terms, terms_summands}

-- equal numbers are below the same powers
same_below : (x y : Rational) (w n : ℕ) → Equal x y → n ≡ 2 ^ w →
    is_at_most x (whole (pos n)) ≡ is_below_power y (pos w)
same_below x y w n e p =
    both_ways (is_at_most x (whole (pos n))) (is_below_power y (pos w))
    (λ h. test_power y (pos w)
    (le_trans (le_of_equal (equal_sym e))
    (le_trans (at_most_true x (whole (pos n)) h)
    (le_of_equal (subst (λ (k : ℕ). Equal (whole (pos k)) (power_value (pos w))) (sym p)
    (equal_sym (whole_value_is w)))))))
    (λ h. at_most_holds (le_trans (le_of_equal e)
    (le_trans (below_power {x = y} (pos w) h)
    (le_of_equal (subst (λ (k : ℕ). Equal (power_value (pos w)) (whole (pos k))) (sym p) (whole_value_is w))))))

-- ---- sums over the terms of results
-- no input reaches above 2^25, nor does what stands for one that isn't there
reach_low : (fn : Function) → AreInputs fn.inputs → IsTame fn → (k : ℕ) → AtMost (reach_at fn k) (power 25)
reach_low fn inputs tame k = ⊎_elim within none (cases_lt k (length fn.inputs))
  where
    within : k < length fn.inputs → AtMost (reach_at fn k) (power 25)
    within lt =
        let x = at no_input fn.inputs k in
        let both = below_power {x = plus (reach_of x) x.err} (pos 25) (tame.inputs k lt) in
        le_trans (ordered (error_nonnegative fn.inputs k no_input inputs lt)
        (by_quotes {ρ = reach_of x ∷ x.err ∷ []} (search quotes depth 20) (search quotes depth 20) refl))
        (le_trans both (le_of_equal (whole_value_is 25)))

    nothing : (b : Bool) → AtMost (if b then whole (pos 0) else whole (pos 0)) (power 25)
    nothing true = whole_le {a = pos 0} {b = pos (2 ^ 25)} (omega (arith, ints))
    nothing false = whole_le {a = pos 0} {b = pos (2 ^ 25)} (omega (arith, ints))

    none : length fn.inputs ≤ k → AtMost (reach_at fn k) (power 25)
    none le =
        subst (λ (x : function.Input). AtMost (reach_of x) (power 25)) (sym (get_or_past fn.inputs k no_input le))
        (nothing (is_at_most (whole (pos 0)) (whole (pos 0))))

module _ (fn : Function) (sum : Sum) (k : ℕ) (inputs : AreInputs fn.inputs) (tame : IsTame fn) (is_sum : IsSum sum)
    (lt : k < length fn.results) where
  abbrev t : Tree
  t = at no_tree fn.results k

  short : is_short t ≡ true
  short = all_at is_short fn.results k no_tree tame.short lt

  pub few : length (terms_of t) ≤ 64
  few = le_of_test _ _ (and_parts (is_linear t) (nat_le (length (terms_of t)) 64) short).1

  -- the summands that were put are summands of a sum, and few
  pub put_summands : (xs ys : List Summand) → xs ≡ [] → ys ≡ xs ++ map (summand_of fn sum) (terms_of t) →
      (All IsNarrowSummand xs → All IsNarrowSummand ys) → All IsSummand ys
  put_summands xs ys none put narrow =
      let here : ys ≡ map (summand_of fn sum) (terms_of t) = put
      ∙ ap (λ (zs : List Summand). zs ++ map (summand_of fn sum) (terms_of t)) none in
      let own = subst (All IsNarrowSummand) here (narrow (subst (All IsNarrowSummand) (sym none)
      (All-nil IsNarrowSummand))) in
      subst (All IsSummand) (sym here)
      (terms_summands fn sum (terms_of t) (reach_low fn inputs tame) is_sum (terms_unsigned t)
      (low_terms t (tame.literals k lt)) own)

  pub put_few : (xs ys : List Summand) → xs ≡ [] → ys ≡ xs ++ map (summand_of fn sum) (terms_of t) → length ys ≤ 64
  put_few xs ys none put =
      let here : ys ≡ map (summand_of fn sum) (terms_of t) = put
      ∙ ap (λ (zs : List Summand). zs ++ map (summand_of fn sum) (terms_of t)) none in
      let l = length-map (terms_of t) (summand_of fn sum) in
      let e = ap length here in
      let f = few in
      omega (arith, l, e, f)

  pub sum_test : (xs ys : List Summand) (r : Bool) (w n : ℕ) → xs ≡ [] →
      ys ≡ xs ++ map (summand_of fn sum) (terms_of t) →
      n ≡ 2 ^ w → r ≡ is_at_most (sum_of ys) (whole (pos n)) → r ≡ is_below_power (sum_value fn sum t) (pos w)
  sum_test xs ys r w n none put p e =
      let here : ys ≡ map (summand_of fn sum) (terms_of t) = put
      ∙ ap (λ (zs : List Summand). zs ++ map (summand_of fn sum) (terms_of t)) none in
      e ∙ ap (λ (zs : List Summand). is_at_most (sum_of zs) (whole (pos n))) here
      ∙ same_below (sum_of (map (summand_of fn sum) (terms_of t))) (sum_value fn sum t) w n
      (equal_trans (summands_sum fn sum (terms_of t) (terms_unsigned t)) (total_is fn sum t)) p

-- ---- inputs
two_summands : (xs ys : List Summand) (x y : Summand) → xs ≡ [] → ys ≡ (xs ++ x ∷ []) ++ y ∷ [] → ys ≡ x ∷ y ∷ []
two_summands xs ys x y none put = put ∙ ap (λ (zs : List Summand). (zs ++ x ∷ []) ++ y ∷ []) none

pub input_test : (xs ys : List Summand) (x y : Summand) (reach err : Rational) (r : Bool) (w n : ℕ) → xs ≡ [] →
    ys ≡ (xs ++ x ∷ []) ++ y ∷ [] → summand_value x ≡ reach → summand_value y ≡ magnitude err →
    AtMost (whole (pos 0)) err →
    n ≡ 2 ^ w →
    r ≡ is_at_most (sum_of ys) (whole (pos n)) → r ≡ is_below_power (plus reach err) (pos w)
input_test xs ys x y reach err r w n none put a b nonneg p e =
    e ∙ ap (λ (zs : List Summand). is_at_most (sum_of zs) (whole (pos n))) (two_summands xs ys x y none put)
    ∙ same_below (plus (summand_value x) (plus (summand_value y) (whole (pos 0)))) (plus reach err) w n
    (equal_trans (subst (λ (z : Rational). Equal (plus (summand_value x) (plus (summand_value y) (whole (pos 0))))
    (plus z (plus (summand_value y) (whole (pos 0))))) a (equal_refl _))
    (equal_trans (subst (λ (z : Rational). Equal (plus reach (plus (summand_value y) (whole (pos 0))))
    (plus reach (plus z (whole (pos 0))))) (b ∙ size_of_nonneg err nonneg) (equal_refl _))
    (by_quotes {ρ = reach ∷ err ∷ []} {a = plus reach (plus err (whole (pos 0)))} {b = plus reach err}
    (search quotes depth 20) (search quotes depth 20) refl))) p

-- ---- errors
-- twice x is at most 2^(1 + w) units just where x in units is at most 2^w
pub error_test : (x : Rational) (f w u n : ℕ) → AtMost (whole (pos 0)) x → u ≡ units_up f (magnitude x) → n ≡ 2 ^ w →
    leb u n ≡ is_below_power (plus x x) (pos (1 + w) -ℤ pos f)
error_test x f w u n nonneg e p =
    both_ways (leb u n) (is_below_power (plus x x) v) (λ h. test_power (plus x x) v (to h))
    (λ h. from (below_power {x = plus x x} v h))
  where
    v : ℤ
    v = pos (1 + w) -ℤ pos f

    -- 2^v in units is 2^(1 + w)
    in_units : Equal (times (power_value v) (power f)) (power (1 + w))
    in_units = power_units v (1 + w) f refl

    twice : Equal (power (1 + w)) (plus (power w) (power w))
    twice =
        equal_trans (power_sum 1 w)
        (by_quotes {ρ = power w ∷ []} {a = times (whole (pos 2)) (power w)} {b = plus (power w) (power w)}
        (search quotes depth 20) (search quotes depth 20) refl)

    size : u ≡ units_up f x
    size = e ∙ ap (units_up f) (size_of_nonneg x nonneg)

    le_leb : (a b : ℕ) → leb a b ≡ true → a ≤ b
    le_leb a b e = grind (arith, e)

    leb_le : (a b : ℕ) → a ≤ b → leb a b ≡ true
    leb_le a b l = grind (arith, l)

    to : leb u n ≡ true → AtMost (plus x x) (power_value v)
    to h =
        let l = le_leb u n h in
        let below : AtMost (times x (power f)) (power w) =
        le_trans (units_above f x nonneg) (naturals_le (omega (arith, l, size, p))) in
        le_of_times (power_above f)
        (le_trans (le_of_equal (by_quotes {ρ = x ∷ power f
        ∷ []} {a = times (plus x x) (power f)} {b =
        plus (times x (power f)) (times x (power f))} (search quotes depth 20) (search quotes depth 20) refl))
        (le_trans (plus_le below below) (le_trans (le_of_equal (equal_sym twice)) (le_of_equal (equal_sym in_units)))))

    from : AtMost (plus x x) (power_value v) → leb u n ≡ true
    from h =
        let more : AtMost (times (plus x x) (power f)) (times (power_value v) (power f)) =
        times_le h (above_nonneg (power_above f)) in
        let below : AtMost (times x (power f)) (power w) =
        le_of_times (whole_above 2 (omega arith))
        (le_trans (le_of_equal (by_quotes {ρ = x ∷ power f
        ∷ []} {a = times (times x (power f)) (whole (pos 2))} {b =
        times (plus x x) (power f)} (search quotes depth 20) (search quotes depth 20) refl))
        (le_trans more (le_trans (le_of_equal in_units)
        (le_trans (le_of_equal twice)
        (le_of_equal (by_quotes {ρ = power w
        ∷ []} {a = plus (power w) (power w)} {b =
        times (power w) (whole (pos 2))} (search quotes depth 20) (search quotes depth 20) refl)))))) in
        let l = units_least f x nonneg (2 ^ w) below in leb_le u n (omega (arith, l, size, p))
