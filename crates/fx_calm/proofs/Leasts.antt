-- The search for the least number, thing by thing.
use Rattle.std.proofs.Common.{◌≡◌, ℕ, ◌+◌, ◌<◌, ◌≤◌, Bool, true, false, ⊎_elim, sym, ap, subst, ◌∙◌, arith}
use Rattle.std.specs.Prelude.{Result, Ok, Err, IfOk}
use Rattle.std.proofs.lemmas.Bool.{cases_lt}
use Rattle.fx_model.specs.Function.{Function}
use Rattle.fx_weight.proofs.Folded.{before_or_last}
use Rattle.fx_calm.specs.declared.limit.Limit.{Limit}
use Rattle.fx_calm.specs.LimitOf.{count_of, is_within, IsLeast, IsLeastAt, IsLeastOfBoth}
use Rattle.fx_calm.proofs.Limits.{within_more}

-- ---- of one thing
abbrev pub NoneBefore : Function → Limit → ℕ → ℕ → ℕ → Type 0
NoneBefore fn limit i first w = (j : ℕ) → first ≤ j → j < w → is_within fn limit i j ≡ false

pub none_more : (fn : Function) (limit : Limit) (i first w : ℕ) → NoneBefore fn limit i first w →
    is_within fn limit i w ≡ false → NoneBefore fn limit i first (w + 1)
none_more fn limit i first w h e j p q =
    ⊎_elim (λ (l : j < w). h j p l) (λ (s : j ≡ w). ap (is_within fn limit i) s ∙ e) (before_or_last j w q)

found_at : (fn : Function) (limit : Limit) (i first last w : ℕ) → first ≤ w → w < last + 1 →
    is_within fn limit i w ≡ true → NoneBefore fn limit i first w → IsLeastAt fn limit i first last w
found_at fn limit i first last w p q e h =
    record { from_first = p; to_last = omega (arith, q); holds = λ l. e; none_before = h }

none_found : (fn : Function) (limit : Limit) (i first last w : ℕ) → first ≤ last + 1 → w ≡ last + 1 →
    NoneBefore fn limit i first w → IsLeastAt fn limit i first last (last + 1)
none_found fn limit i first last w p e h = record {
  from_first = p;
  to_last = omega arith;
  holds = λ l. absurd (omega (arith, l));
  none_before = λ j a b. h j a (omega (arith, b, e));
}

-- ---- of one more
not_both : {b : Bool} → b ≡ true → b ≡ false → ⊥
not_both p q = let z = sym p ∙ q in absurd cc

pub least_more : (fn : Function) (limit : Limit) (first last n w v : ℕ) → IsLeast fn limit first last n w →
    IsLeastAt fn limit n w last v → IsLeast fn limit first last (n + 1) v
least_more fn limit first last n w v h g =
    let a = h.from_first in let b = g.from_first in
    record {
      from_first = omega (arith, a, b);
      to_last = g.to_last;
      holds =
          λ l i lt. ⊎_elim (λ (p : i < n). within_more fn limit i w v b (h.holds (omega (arith, b, l)) i p))
          (λ (s : i ≡ n). subst (λ (k : ℕ). is_within fn limit k v ≡ true) (sym s) (g.holds l)) (before_or_last i n lt);
      least = λ j p q all.
          let near = h.least j p q (λ i lt. all i (omega (arith, lt))) in
          ⊎_elim (λ (lt : j < v). absurd (not_both (all n (omega arith)) (g.none_before j near lt)))
          (λ (le : v ≤ j). le) (cases_lt j v);
    }

-- ---- of two limits
pub least_both : (fn : Function) (one other : Limit) (first last w v : ℕ) →
    IsLeast fn one first last (count_of fn one) w → IsLeast fn other w last (count_of fn other) v →
    IsLeastOfBoth fn one other first last v
least_both fn one other first last w v h g =
    let a = h.from_first in let b = g.from_first in
    record {
      from_first = omega (arith, a, b);
      to_last = g.to_last;
      holds = λ l. ((λ i lt. within_more fn one i w v b (h.holds (omega (arith, b, l)) i lt)), g.holds l);
      least = λ j p q all. g.least j (h.least j p q all.0) q all.1;
    }

pub both_ok : {E : Type 0} (fn : Function) (one other : Limit) (first last w : ℕ) (r : Result ℕ E) →
    IsLeast fn one first last (count_of fn one) w → IfOk r (λ v. IsLeast fn other w last (count_of fn other) v) →
    IfOk r (λ v. IsLeastOfBoth fn one other first last v)
both_ok fn one other first last w (Ok v) h g = least_both fn one other first last w v h g
both_ok fn one other first last w (Err e) h g = tt

-- ---- what holds of those before and of the next
pub one_more : (P : ℕ → Type 0) (k : ℕ) → ((j : ℕ) → j < k → P j) → P k → (j : ℕ) → j < k + 1 → P j
one_more P k before own j lt =
    ⊎_elim (λ (less : j < k). before j less) (λ (same : j ≡ k). subst P (sym same) own) (before_or_last j k lt)
