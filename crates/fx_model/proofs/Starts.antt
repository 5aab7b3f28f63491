-- Where a code stands that is placed, and the start word that it names there: the one walk over all codes for this.
use Rattle.std.proofs.Common.{◌≡◌, ℕ, ◌+◌, ◌<◌, ◌≤◌, ℤ, [], refl, arith}
use Rattle.fx_model.specs.Machine.{Code, Input, State, Const, Neg, Add, Sub, Mul, Div, Copy, starts_of}
use Rattle.fx_model.specs.LawfulProgram.{IsPlaced}

-- it reads an input or a state, or stands behind both
pub data Stands (i k n : ℕ) : Code → Type 0 where
  as_input : {c : Code} → n < i → starts_of c ≡ [] → Stands i k n c
  as_state : {j : ℕ} {f w : ℤ} → n ≡ i + j → j < k → Stands i k n (State j f w)
  behind : {c : Code} → i + k ≤ n → starts_of c ≡ [] → Stands i k n c

pub stands : (i k n : ℕ) (c : Code) → IsPlaced i k n c → Stands i k n c
stands i k n (Input j f) h = as_input (let here = h.0 in let below = h.1 in omega arith) refl
stands i k n (State j f w) h = as_state h.0 h.1
stands i k n (Const w f) h = behind h refl
stands i k n (Neg a) h = behind h refl
stands i k n (Add a b sa sb) h = behind h refl
stands i k n (Sub a b sa sb) h = behind h refl
stands i k n (Mul r a b s) h = behind h refl
stands i k n (Div a b s) h = behind h refl
stands i k n (Copy r a s) h = behind h refl
