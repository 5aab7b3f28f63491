-- What holds of the answer of a chain of steps, where it has one; and which answer a chain has.
use Rattle.std.proofs.Common.{◌≡◌, Bool, true, false, cond, Result, Ok, Err, refl, sym, subst}
use Rattle.fx_model.specs.Steps.{◌>>=◌}

-- P holds of the answer, if there is one
pub record OnOk {A E : Type 0} (P : A → Type 0) (r : Result A E) : Type 0 where
  pub at : (x : A) → r ≡ Ok x → P x

pub done : {A E : Type 0} {P : A → Type 0} {x : A} → P x → OnOk {E = E} P (Ok x)
done {P = P} p = record { at = λ y e. let same : _ ≡ y = cc in subst P same p }

pub failed : {A E : Type 0} {P : A → Type 0} {e : E} → OnOk P (Err e)
failed = record { at = λ y e. absurd cc }

pub and_then : {A B E : Type 0} {P : A → Type 0} {Q : B → Type 0} {r : Result A E} {f : A → Result B E} → OnOk P r →
    ((x : A) → P x → OnOk Q (f x)) → OnOk Q (r >>= f)
and_then {r = Ok x} p k = k x (p.at x refl)
and_then {r = Err e} p k = failed

pub choose : {A E : Type 0} {P : A → Type 0} {x y : Result A E} (b : Bool) → (b ≡ true → OnOk P x) →
    (b ≡ false → OnOk P y) → OnOk P (cond b x y)
choose true yes' no' = yes' refl
choose false yes' no' = no' refl

pub with_both : {A E : Type 0} {P Q : A → Type 0} {r : Result A E} → OnOk P r → OnOk Q r → OnOk (λ x. P x × Q x) r
with_both p q = record { at = λ x e. (p.at x e, q.at x e) }

pub answered : {A E : Type 0} (r : Result A E) → OnOk (λ x. r ≡ Ok x) r
answered r = record { at = λ x e. e }

pub weaken : {A E : Type 0} {P Q : A → Type 0} {r : Result A E} → ((x : A) → P x → Q x) → OnOk P r → OnOk Q r
weaken k p = record { at = λ x e. k x (p.at x e) }

-- ---- the other way

pub steps : {A B E : Type 0} {r : Result A E} (f : A → Result B E) {x : A} {y : Result B E} → r ≡ Ok x → f x ≡ y →
    (r >>= f) ≡ y
steps f {y = y} p q = subst (λ s. (s >>= f) ≡ y) (sym p) q

pub on_true : {A : Type 0} {b : Bool} {x : A} (y : A) {z : A} → b ≡ true → x ≡ z → cond b x y ≡ z
on_true {b = true} y e p = p
on_true {b = false} y e p = absurd cc

pub on_false : {A : Type 0} {b : Bool} (x : A) {y z : A} → b ≡ false → y ≡ z → cond b x y ≡ z
on_false {b = true} x e p = absurd cc
on_false {b = false} x e p = p

-- ---- tests
