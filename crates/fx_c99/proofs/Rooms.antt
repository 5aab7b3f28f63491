-- The types in which statements compute hold words, and where they have to double words.
use Rattle.std.proofs.Common.{◌≡◌, ℕ, zero, suc, ◌+◌, ◌-◌, ◌*◌, ◌^◌, ◌<◌, ◌≤◌, lit≤, ℤ, pos, negsuc, nat_le, Bool, true, false, cond, refl, sym, subst, arith, pow_pos, pow-add}
use Rattle.std.specs.Prelude.{◌&&◌}
use Rattle.std.proofs.lemmas.Int.{ints}
use Rattle.std.proofs.Math.Nat.{pow-le-pow_right}
use Rattle.fx_model.specs.Machine.{IsWord, Floor}
use Rattle.fx_model.proofs.Wide.{is_word_from}
use Rattle.fx_statements.specs.Statements.{Operator, Wide, Widened, Two}
use Rattle.fx_c99.specs.Working.{is_additive, is_plain, plain_bits, double_bits, sum_bits, working_bits}
use Rattle.fx_c99.specs.OfProgram.{few, c_rounded, c_operand}

pub plain_holds : (n : ℕ) → n ≤ 64 → n ≤ plain_bits n
plain_holds n le = by (nat_le n 32) refl
  where
    by : (a : Bool) → nat_le n 32 ≡ a → n ≤ plain_bits n
    by true p = rw p (grind arith)
    by false p = rw p (omega arith)

pub double_holds : (n : ℕ) → n ≤ 64 → 2 * n ≤ double_bits n
double_holds n le = by (nat_le n 16) (nat_le n 32) refl refl
  where
    by : (a b : Bool) → nat_le n 16 ≡ a → nat_le n 32 ≡ b → 2 * n ≤ double_bits n
    by true b p q = rw p (grind arith)
    by false true p q = rw (p, q) (grind arith)
    by false false p q = rw (p, q) (omega arith)

-- a power of two that a type of so many bits holds
pub power_word : (bits r : ℕ) → r + 2 ≤ bits → IsWord bits (pos (2 ^ r))
power_word bits r le =
    let more : 2 ^ (1 + r) ≤ 2 ^ (bits - 1) =
    pow-le-pow_right {n = 2} (lit≤ tt) (let l : 1 + r ≤ bits - 1 = omega arith in l) in
    let twice : 2 ^ (1 + r) ≡ 2 * 2 ^ r = pow-add 2 1 r in
    let some : 0 < 2 ^ r = pow_pos r in
    is_word_from bits (pos (2 ^ r)) record { low = omega (arith, ints); high = omega (arith, ints) }

-- room to shift a word of n bits
abbrev pub Room : ℕ → ℕ → ℤ → Type 0
Room n bits (pos s) = n ≤ bits
Room n bits (negsuc s) = 2 * n ≤ bits

pub wide_room : (n bits : ℕ) (s : ℤ) → 2 * n ≤ bits → Room n bits s
wide_room n bits (pos s) le = omega arith
wide_room n bits (negsuc s) le = le

-- for a sum or a difference
pub record Rooms (n bits : ℕ) (s t : ℤ) : Type 0 where
  pub first : Room n bits s
  pub second : Room n bits t
  pub result : n ≤ bits

wide_rooms : (n bits : ℕ) (s t : ℤ) → 2 * n ≤ bits → Rooms n bits s t
wide_rooms n bits s t le =
    record { first = wide_room n bits s le; second = wide_room n bits t le; result = omega arith }

-- ---- what is rounded down is as plain as what it is made of
plain_rounded : (e : Wide) (s : ℕ) → is_plain (c_rounded Floor e s) ≡ is_plain e
plain_rounded e zero = refl
plain_rounded e (suc s) = refl

pub plain_operand : (n a s : ℕ) → is_plain (c_operand n Floor a (pos s)) ≡ true
plain_operand n a s = plain_rounded (Widened a) (few n s)

pub sum_bits_are : (n a c : ℕ) (operator : Operator) (s t : ℤ) → is_additive operator ≡ true →
    working_bits n (Two operator (c_operand n Floor a s) (c_operand n Floor c t)) ≡ sum_bits n s t
sum_bits_are n a c operator (pos s) (pos t) e =
    λ i. cond (e i && (plain_operand n a s i && plain_operand n c t i)) (plain_bits n) (double_bits n)
sum_bits_are n a c operator (pos s) (negsuc t) e =
    λ i. cond (e i && (plain_operand n a s i && false)) (plain_bits n) (double_bits n)
sum_bits_are n a c operator (negsuc s) t e = λ i. cond (e i && false) (plain_bits n) (double_bits n)

sum_rooms : (n : ℕ) (s t : ℤ) → n ≤ 64 → Rooms n (sum_bits n s t) s t
sum_rooms n (pos s) (pos t) le =
    record { first = plain_holds n le; second = plain_holds n le; result = plain_holds n le }
sum_rooms n (pos s) (negsuc t) le = wide_rooms n (double_bits n) (pos s) (negsuc t) (double_holds n le)
sum_rooms n (negsuc s) (pos t) le = wide_rooms n (double_bits n) (negsuc s) (pos t) (double_holds n le)
sum_rooms n (negsuc s) (negsuc t) le = wide_rooms n (double_bits n) (negsuc s) (negsuc t) (double_holds n le)

pub working_rooms : (n a c : ℕ) (operator : Operator) (s t : ℤ) → is_additive operator ≡ true → n ≤ 64 →
    Rooms n (working_bits n (Two operator (c_operand n Floor a s) (c_operand n Floor c t))) s t
working_rooms n a c operator s t e le =
    subst (λ (bits : ℕ). Rooms n bits s t) (sym (sum_bits_are n a c operator s t e)) (sum_rooms n s t le)

pub copy_bits_are : (n a s : ℕ) → working_bits n (c_operand n Floor a (pos s)) ≡ plain_bits n
copy_bits_are n a s = λ i. cond (plain_operand n a s i) (plain_bits n) (double_bits n)

pub copy_room : (n a : ℕ) (s : ℤ) → n ≤ 64 → Room n (working_bits n (c_operand n Floor a s)) s
copy_room n a (pos s) le =
    subst (λ (bits : ℕ). n ≤ bits) (sym (copy_bits_are n a s)) (plain_holds n le)
copy_room n a (negsuc s) le = double_holds n le
