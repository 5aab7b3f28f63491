-- Numbers that are no rule's.
use Rattle.std.proofs.Common.{◌≡◌, ◌⊎◌, ⊎_elim, ℕ, zero, suc, ◌<◌, ◌≤◌, List, [], ◌∷◌, None, refl, length, arith}
use Rattle.std.specs.Prelude.{slice_get}
use Rattle.fx_model.specs.Rules.{rules, rule, rule_count}

past : {A : Type 0} (xs : List A) (n : ℕ) → length xs ≤ n → slice_get xs n ≡ None
past [] n h = refl
past (x ∷ xs) zero h = absurd (omega arith)
past (x ∷ xs) (suc n) h = past xs n (omega arith)

pub no_rule : (n : ℕ) → (n ≡ 0) ⊎ (rule_count < n) → rule n ≡ None
no_rule zero h = refl
no_rule (suc n) h =
    past rules n (⊎_elim (λ (z : suc n ≡ 0). absurd (omega arith)) (λ (l : rule_count < suc n). let k : rule_count ≤ n = omega arith in
    k) h)
