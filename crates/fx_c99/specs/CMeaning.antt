-- What the C text of statements does, by cases on their forms and on whole numbers. None is whatever C99 leaves
-- undefined, to the implementation or to a signal: a result that its type doesn't hold (6.5 p5), a conversion to a
-- signed type that doesn't hold the value (6.3.1.3 p3), a shift by as many bits as the type has, or of what is below 0
-- (6.5.7), a quotient by 0 (6.5.5 p5); and a text that doesn't compile.
--
-- The meaning is one on machines whose `int` has 16 or 32 bits: each operand has one of the types `int32_t`, `int64_t`
-- and `fixd_wide`, none of which is narrower than `int`, so that no promotion changes it, and the numbers 0, 1 and -1
-- are converted to it. Where `int` is wider, an `int32_t` is computed with in more bits than are asked for here. A
-- literal has the first of `int`, `long` and `long long` that holds it, and its negation too. The caller's three arrays
-- have at least as many elements as the head says, and don't overlap.
use Rattle.std.specs.Prelude.{ℕ, ◌+◌, ◌^◌, ℤ, pos, negsuc, ◌-ℤ◌, neg_ℤ, int_le, nat_lt, List, [], ◌∷◌, ◌&&◌, Option, Some, None, if◌then◌else◌}
use Rattle.std.specs.Option.{option_and_then}
use Rattle.std.specs.List.{slice_get}
use Rattle.fx_rational.specs.Rational.{floor_div}
use Rattle.fx_model.specs.Function.{Step}
use Rattle.fx_statements.specs.Statements.{Left, Right, Wide, Widened, Power, Negated, Two, Shifted, Value, Input, State, Number, Narrowed, Let, Routine}
use Rattle.fx_statements.specs.Meaning.{bits_of, unchanged, Names, named, result_of, put, step_by}
use Rattle.fx_statements.specs.OfProgram.{least_size}
use Rattle.fx_c99.specs.Working.{working_bits}

-- ---- rounding down, at a type of so many bits
-- x >> s
abbrev pub shifted_right : ℕ → ℤ → ℕ → Option ℤ
shifted_right bits x s = if int_le (pos 0) x && nat_lt s bits then Some (floor_div x (2 ^ s)) else None

-- -1 - x
abbrev pub complement : ℕ → ℤ → Option ℤ
complement bits x = unchanged bits (negsuc 0 -ℤ x)

-- (x >= 0) ? (x >> s) : (-1 - ((-1 - x) >> s))
abbrev pub floored : ℕ → ℤ → ℕ → Option ℤ
floored bits x s =
    if int_le (pos 0) x then shifted_right bits x s
    else option_and_then (λ y. option_and_then (complement bits) (shifted_right bits y s)) (complement bits x)

-- ---- expressions, computed in so many bits
-- (int32_t)16384, or (fixd_wide)1 << 64
abbrev pub power : ℕ → ℕ → Option ℤ
power bits s = unchanged bits (pos (2 ^ s))

abbrev pub c_wide_value : ℕ → Names → Wide → Option ℤ
c_wide_value bits names (Widened name) = option_and_then (unchanged bits) (named name names)
c_wide_value bits names (Power s) = power bits s
c_wide_value bits names (Negated e) = option_and_then (λ v. unchanged bits (neg_ℤ v)) (c_wide_value bits names e)
c_wide_value bits names (Two operator e f) =
    option_and_then (λ v. option_and_then (λ w. option_and_then (unchanged bits) (result_of operator v w))
    (c_wide_value bits names f))
    (c_wide_value bits names e)
c_wide_value bits names (Shifted Left e s) = None
c_wide_value bits names (Shifted Right e s) =
    option_and_then (λ v. floored bits v s) (c_wide_value bits names e)

-- ---- statements of a program of words of n bits
-- what an element of an array holds
abbrev pub element : ℕ → ℤ → Option ℤ
element n v = unchanged (bits_of (least_size n)) v

-- at a type of so many bits, with the states s and the inputs x
abbrev pub c_value_in : ℕ → List ℤ → List ℤ → Names → ℕ → Value → Option ℤ
c_value_in n s x names bits (Input k) =
    option_and_then (unchanged bits) (option_and_then (element n) (slice_get x k))
c_value_in n s x names bits (State k) =
    option_and_then (unchanged bits) (option_and_then (element n) (slice_get s k))
c_value_in n s x names bits (Number w) = unchanged bits w
c_value_in n s x names bits (Narrowed e) =
    option_and_then (unchanged bits) (c_wide_value (working_bits n e) names e)

abbrev pub c_let_value : ℕ → List ℤ → List ℤ → Names → Let → Option ℤ
c_let_value n s x names l = c_value_in n s x names (bits_of l.size) l.value

-- a name's value, cast to the type of an element
abbrev pub element_of : ℕ → Names → ℕ → Option ℤ
element_of n names name = option_and_then (element n) (named name names)

-- ---- the two functions
-- fixd_NAME_step, from the states s and the inputs x: the outputs, and the states behind it
abbrev pub c_step : Routine → List ℤ → List ℤ → Option (Step ℤ)
c_step r s x = step_by (c_let_value r.width s x) (element_of r.width) r s x

-- fixd_NAME_reset, from any states s: these numbers from element k on
abbrev pub c_reset : ℕ → ℕ → List ℤ → List ℤ → Option (List ℤ)
c_reset n k [] s = Some s
c_reset n k (w ∷ ws) s = option_and_then (λ v. option_and_then (c_reset n (k + 1) ws) (put s k v)) (element n w)
