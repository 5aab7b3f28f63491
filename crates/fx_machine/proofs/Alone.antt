-- Codes that compute with words alone.
use Rattle.std.proofs.Common.{◌≡◌, ℕ, ℤ, List, [], refl, subst, arith}
use Rattle.std.specs.Prelude.{IsSome}
use Rattle.fx_rational.specs.Rational.{Rational}
use Rattle.fx_model.specs.Machine as machine
use Rattle.fx_model.specs.Machine.{Code}
use Rattle.fx_program.specs.CodeView.{code_of}
use Rattle.fx_program.specs.declared.code.Code as declared
use Rattle.fx_program.specs.declared.code.Code.TheVariants.{Input, State, Const, Neg, Add, Sub, Mul, MulNear, Div, Copy, CopyNear}
use Rattle.fx_machine.specs.Codes.{word_of, IsUnstuckCode, Computes, HasOneShift, IsCodeAt}

-- they look at no inputs and no states
pub alone : {n : ℕ} {code : Code} {g : List Rational} {z ws : List ℤ} → IsUnstuckCode n code g z ws → Computes code →
    word_of n code g z ws ≡ word_of n code [] [] ws
unfolding word_of
alone {code = machine.Input k f} goes h = elim h [ ]
alone {code = machine.State k f w} goes h = elim h [ ]
alone {code = machine.Const w f} goes h = elim h [ ]
alone {code = machine.Neg a} goes h = refl
alone {code = machine.Add a b sa sb} goes h = refl
alone {code = machine.Sub a b sa sb} goes h = refl
alone {code = machine.Mul r a b s} goes h = refl
alone {code = machine.Div a b s} goes h = refl
alone {code = machine.Copy r a s} goes h = refl

pub goes_alone : {n : ℕ} {code : Code} {g : List Rational} {z ws : List ℤ} → IsUnstuckCode n code g z ws → Computes code →
    IsUnstuckCode n code [] [] ws
goes_alone goes h = record { some = subst IsSome (alone goes h) goes.some }

-- so they may stand behind any
pub lawful_alone : {n i s k : ℕ} {code : Code} → IsCodeAt n i s k code → Computes code → IsCodeAt n 0 0 k code
lawful_alone {code = machine.Input j f} l h = elim h [ ]
lawful_alone {code = machine.State j f w} l h = elim h [ ]
lawful_alone {code = machine.Const w f} l h = elim h [ ]
lawful_alone {code = machine.Neg a} l h = record { lawful = l.lawful; placed = omega arith; point = tt }
lawful_alone {code = machine.Add a b sa sb} l h = record { lawful = l.lawful; placed = omega arith; point = tt }
lawful_alone {code = machine.Sub a b sa sb} l h = record { lawful = l.lawful; placed = omega arith; point = tt }
lawful_alone {code = machine.Mul r a b s} l h = record { lawful = l.lawful; placed = omega arith; point = tt }
lawful_alone {code = machine.Div a b s} l h = record { lawful = l.lawful; placed = omega arith; point = tt }
lawful_alone {code = machine.Copy r a s} l h = record { lawful = l.lawful; placed = omega arith; point = tt }

-- what reads nothing computes
pub computes : (c : declared.Code) → ((k : ℕ) (f : ℤ) → c ≡ Input k f → ⊥) →
    ((k : ℕ) (f w : ℤ) → c ≡ State k f w → ⊥) → ((w f : ℤ) → c ≡ Const w f → ⊥) → Computes (code_of c)
computes (Input k f) no_input no_state no_const = no_input k f refl
computes (State k f w) no_input no_state no_const = no_state k f w refl
computes (Const w f) no_input no_state no_const = no_const w f refl
computes (Neg a) no_input no_state no_const = tt
computes (Add a b sa sb) no_input no_state no_const = tt
computes (Sub a b sa sb) no_input no_state no_const = tt
computes (Mul a b s) no_input no_state no_const = tt
computes (MulNear a b s) no_input no_state no_const = tt
computes (Div a b s) no_input no_state no_const = tt
computes (Copy a s) no_input no_state no_const = tt
computes (CopyNear a s) no_input no_state no_const = tt

-- and but for sums, differences and opposites it has one shift
pub one_shift : (c : declared.Code) → Computes (code_of c) → ((a : ℕ) → c ≡ Neg a → ⊥) →
    ((a b : ℕ) (sa sb : ℤ) → c ≡ Add a b sa sb → ⊥) → ((a b : ℕ) (sa sb : ℤ) → c ≡ Sub a b sa sb → ⊥) →
    HasOneShift (code_of c)
one_shift (Input k f) h no_neg no_add no_sub = elim h [ ]
one_shift (State k f w) h no_neg no_add no_sub = elim h [ ]
one_shift (Const w f) h no_neg no_add no_sub = elim h [ ]
one_shift (Neg a) h no_neg no_add no_sub = no_neg a refl
one_shift (Add a b sa sb) h no_neg no_add no_sub = no_add a b sa sb refl
one_shift (Sub a b sa sb) h no_neg no_add no_sub = no_sub a b sa sb refl
one_shift (Mul a b s) h no_neg no_add no_sub = tt
one_shift (MulNear a b s) h no_neg no_add no_sub = tt
one_shift (Div a b s) h no_neg no_add no_sub = tt
one_shift (Copy a s) h no_neg no_add no_sub = tt
one_shift (CopyNear a s) h no_neg no_add no_sub = tt
