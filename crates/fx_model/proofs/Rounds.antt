-- What holds of each way to round: its version, the shifts of copies, and its names.
use Rattle.std.proofs.Common.{◌≡◌, ℕ, ◌≤◌, Bool, true, false, cond, List, [], ◌∷◌, Some, None, ℤ, pos, ◌≤ℤ◌, neg_ℤ, refl, subst, arith}
use Rattle.std.specs.List.{find}
use Rattle.std.specs.Str.{bytes_eq}
use Rattle.std.proofs.lemmas.Int.{ints}
use Rattle.std.proofs.lemmas.Slice.Eq.{bytes_eq-Decides}
use Rattle.fx_model.specs.Machine.{Round, Floor, Nearest, rounds}
use Rattle.fx_model.specs.LawfulProgram.{IsShift, least_copy_shift, greatest_copy_shift, IsCopyShift, first_version}
use Rattle.fx_model.specs.Names.{IsName}
use Rattle.fx_model.specs.ProgramText.{product_name, copy_name, round_named}

-- the second version has it
pub in_second : (r : Round) → first_version r ≤ 2
in_second Floor = omega arith
in_second Nearest = omega arith

-- ---- the shifts of copies
-- they are shifts of operands too
pub least_copy : (r : Round) (n : ℕ) → neg_ℤ (pos n) ≤ℤ least_copy_shift r n
least_copy Floor n = omega (arith, ints)
least_copy Nearest n = omega (arith, ints)

pub greatest_copy : (r : Round) (n : ℕ) → n ≤ 64 → greatest_copy_shift r n ≤ℤ pos 64
greatest_copy Floor n le = omega (arith, ints)
greatest_copy Nearest n le = omega (arith, ints)

pub copy_is_shift : (r : Round) (n : ℕ) (s : ℤ) → n ≤ 64 → IsCopyShift r n s → IsShift n s
copy_is_shift r n s le h =
    let a = least_copy r n in let b = greatest_copy r n le in
    let low = h.low in let high = h.high in record { low = omega (arith, ints); high = omega (arith, ints) }

-- ---- names
-- what is found passes the test
found_passes : {X : Type 0} (test : X → Bool) (xs : List X) (x : X) → find test xs ≡ Some x → test x ≡ true
found_passes test [] x e = absurd cc
found_passes {X} test (y ∷ ys) x e = by (test y) refl e (found_passes test ys x)
  where
    by : (b : Bool) → test y ≡ b → cond b (Some y) (find test ys) ≡ Some x → (find test ys ≡ Some x → test x ≡ true) →
        test x ≡ true
    by true passes e rest = let same : y ≡ x = cc in subst (λ (z : X). test z ≡ true) same passes
    by false fails e rest = rest e

-- the way that was found has that name
pub name_is : (name : Round → List ℕ) (text : List ℕ) (r : Round) → round_named name text ≡ Some r → text ≡ name r
name_is name text r e = (bytes_eq-Decides text (name r)).0 (found_passes (λ r. bytes_eq text (name r)) rounds r e)

-- each is found by its name
pub product_named : (r : Round) → round_named product_name (product_name r) ≡ Some r
product_named Floor = refl
product_named Nearest = refl

pub copy_named : (r : Round) → round_named copy_name (copy_name r) ≡ Some r
copy_named Floor = refl
copy_named Nearest = refl

-- and a copy isn't taken for a product
pub copy_is_no_product : (r : Round) → round_named product_name (copy_name r) ≡ None
copy_is_no_product Floor = refl
copy_is_no_product Nearest = refl

pub product_name_is_name : (r : Round) → IsName (product_name r)
product_name_is_name Floor = refl
product_name_is_name Nearest = refl

pub copy_name_is_name : (r : Round) → IsName (copy_name r)
copy_name_is_name Floor = refl
copy_name_is_name Nearest = refl
