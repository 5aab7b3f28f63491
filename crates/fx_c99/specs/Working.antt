-- In how many bits the C of a statement computes. The statements are those of fx_statements; their Rust computes all in
-- 128 bits, their C in a type as narrow as the program's width allows.
use Rattle.std.specs.Prelude.{ℕ, ℤ, pos, negsuc, nat_le, Bool, true, false, ◌&&◌, ◌||◌, if◌then◌else◌}
use Rattle.fx_statements.specs.Statements.{Operator, Plus, Minus, Times, Over, Left, Right, Wide, Widened, Power, Negated, Two, Shifted}

-- a sum and a difference
abbrev pub is_additive : Operator → Bool
is_additive Plus = true
is_additive Minus = true
is_additive Times = false
is_additive Over = false

-- names, negated, added, subtracted and rounded down, and nothing else: no product, no quotient, no power of two
abbrev pub is_plain : Wide → Bool
is_plain (Widened name) = true
is_plain (Power s) = false
is_plain (Negated e) = is_plain e
is_plain (Two operator e f) = is_additive operator && (is_plain e && is_plain f)
is_plain (Shifted Left e s) = false
is_plain (Shifted Right e s) = is_plain e

-- for words of n bits
abbrev pub plain_bits : ℕ → ℕ
plain_bits n = if nat_le n 32 then 32 else 64

-- for double words of n bits
abbrev pub double_bits : ℕ → ℕ
double_bits n = if nat_le n 16 then 32 else if nat_le n 32 then 64 else 128

-- for a sum or a difference of words shifted to the right, or to the left by negative numbers
abbrev pub sum_bits : ℕ → ℤ → ℤ → ℕ
sum_bits n (pos s) (pos t) = plain_bits n
sum_bits n (pos s) (negsuc t) = double_bits n
sum_bits n (negsuc s) t = double_bits n

-- for a statement of this expression, in a program of words of n bits
abbrev pub working_bits : ℕ → Wide → ℕ
working_bits n e = if is_plain e then plain_bits n else double_bits n

-- something is rounded down in it
abbrev pub rounds_down : Wide → Bool
rounds_down (Widened name) = false
rounds_down (Power s) = false
rounds_down (Negated e) = rounds_down e
rounds_down (Two operator e f) = rounds_down e || rounds_down f
rounds_down (Shifted Left e s) = rounds_down e
rounds_down (Shifted Right e s) = true
