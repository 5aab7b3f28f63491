-- Codes that round as was asked for are lawful ones of the version that this way to round came with.
use Rattle.std.proofs.Common.{◌≡◌, ℕ, ◌≤◌, true, false, List, [], ◌∷◌, map, get_or, ℤ, pos, refl, sym, subst, arith}
use Rattle.std.specs.Prelude.{Bool, int_le, nat_le, ◌&&◌, All, Contains, if◌then◌else◌}
use Rattle.std.proofs.lemmas.Bool.{and_parts}
use Rattle.std.proofs.lemmas.Int.{ints}
use Rattle.std.proofs.lemmas.List.Elements.{All-nil, All-head, All-tail, All-cons, All-map}
use Rattle.fx_model.specs.LawfulProgram.{IsShift, IsCopyShift, IsOfVersion, least_shift, least_copy_shift, greatest_copy_shift, first_version, versions}
use Rattle.fx_model.specs.Machine.{Round, Floor, Nearest, Code, Program, Input, State, Const, Neg, Add, Sub, Mul, Div, Copy}
use Rattle.fx_program.specs.CodeView.{code_of}
use Rattle.fx_program.specs.Rounding.{product_round, copy_round, RoundsBy, IsRoundedBy}
use Rattle.fx_program.specs.declared.code.Code as code

-- ---- products
-- one whose shift may round so does
pub product_rounds : (r : Round) (s : ℕ) → least_shift r ≤ s → product_round r s ≡ r
product_rounds r s le = by (nat_le (least_shift r) s) refl
  where
    by : (t : Bool) → nat_le (least_shift r) s ≡ t → (if t then r else Floor) ≡ r
    by true e = refl
    by false e = absurd (grind (arith, e))

-- its shift is lawful
pub product_is_lawful : (r : Round) (s : ℕ) → least_shift (product_round r s) ≤ s
product_is_lawful r s = by (nat_le (least_shift r) s) refl
  where
    by : (t : Bool) → nat_le (least_shift r) s ≡ t → least_shift (if t then r else Floor) ≤ s
    by true e = grind (arith, e)
    by false e = omega arith

-- ---- copies
-- one that isn't shifted rounds down
pub unshifted_copy : (r : Round) (n : ℕ) → copy_round r n (pos 0) ≡ Floor
unshifted_copy Floor n = by (int_le (least_copy_shift Floor n) (pos 0) && int_le (pos 0) (greatest_copy_shift Floor n))
  where
    by : (t : Bool) → (if t then Floor else Floor) ≡ Floor
    by true = refl
    by false = refl
unshifted_copy Nearest n = refl

-- its shift is lawful
pub copy_is_lawful : (r : Round) (n : ℕ) (s : ℤ) → IsShift n s → IsCopyShift (copy_round r n s) n s
copy_is_lawful r n s h = by (int_le (least_copy_shift r n) s && int_le s (greatest_copy_shift r n)) refl
  where
    by : (t : Bool) → (int_le (least_copy_shift r n) s && int_le s (greatest_copy_shift r n)) ≡ t →
        IsCopyShift (if t then r else Floor) n s
    by true e =
        let b = and_parts (int_le (least_copy_shift r n) s) (int_le s (greatest_copy_shift r n)) e in
        record { low = grind (arith, ints, b.0); high = grind (arith, ints, b.1) }
    by false e = record { low = h.low; high = h.high }

-- ---- versions
pub has_version : (r : Round) → Contains versions (first_version r)
has_version Floor = (0, omega arith, refl)
has_version Nearest = (1, omega arith, refl)

chosen_version : (r : Round) (t : Bool) → first_version (if t then r else Floor) ≤ first_version r
chosen_version Floor true = omega arith
chosen_version Floor false = omega arith
chosen_version Nearest true = omega arith
chosen_version Nearest false = omega arith

-- a code that rounds so is of that version
pub rounded_is_of_version : (r : Round) (n : ℕ) (c : Code) → RoundsBy r n c → IsOfVersion (first_version r) c
rounded_is_of_version r n (Input k f) e = tt
rounded_is_of_version r n (State k f w) e = tt
rounded_is_of_version r n (Const w f) e = tt
rounded_is_of_version r n (Neg a) e = tt
rounded_is_of_version r n (Add a b sa sb) e = tt
rounded_is_of_version r n (Sub a b sa sb) e = tt
rounded_is_of_version r n (Mul r' a b s) e =
    subst (λ q. first_version q ≤ first_version r) (sym e) (chosen_version r (nat_le (least_shift r) s))
rounded_is_of_version r n (Div a b s) e = tt
rounded_is_of_version r n (Copy r' a s) e =
    subst (λ q. first_version q ≤ first_version r) (sym e)
    (chosen_version r (int_le (least_copy_shift r n) s && int_le s (greatest_copy_shift r n)))

-- so are all
pub rounded_are_of_version : (r : Round) (n : ℕ) (cs : List Code) → All (RoundsBy r n) cs →
    All (IsOfVersion (first_version r)) cs
rounded_are_of_version r n cs all = λ k d lt. rounded_is_of_version r n (get_or cs k d) (all k d lt)

-- ---- the codes of a program in memory
each_rounds : (r : Round) (n : ℕ) (cs : List code.Code) → All (RoundsBy r n) (map code_of cs) →
    All (λ c. RoundsBy r n (code_of c)) cs
each_rounds r n [] h = All-nil _
each_rounds r n (c ∷ cs) h =
    All-cons (λ (d : code.Code). RoundsBy r n (code_of d)) c cs (All-head (RoundsBy r n) (code_of c) (map code_of cs) h)
    (each_rounds r n cs (All-tail (RoundsBy r n) (code_of c) (map code_of cs) h))

-- a program rounds so where its version and its codes do
pub program_rounds : (r : Round) (p : Program) (cs : List code.Code) → p.codes ≡ map code_of cs →
    p.version ≡ first_version r → All (λ c. RoundsBy r p.width (code_of c)) cs → IsRoundedBy r p
program_rounds r p cs is version all = record {
  version = version;
  codes = subst (All (RoundsBy r p.width)) (sym is) (All-map (RoundsBy r p.width) code_of cs all);
}

pub codes_round : (r : Round) (p : Program) (cs : List code.Code) → p.codes ≡ map code_of cs → IsRoundedBy r p →
    All (λ c. RoundsBy r p.width (code_of c)) cs
codes_round r p cs is h = each_rounds r p.width cs (subst (All (RoundsBy r p.width)) is h.codes)
