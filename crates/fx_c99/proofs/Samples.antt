-- The text of small programs, as it is written and as it is carried out. The texts were written by hand.
use Rattle.std.proofs.Common.{◌≡◌, refl, ℕ, List, [], ◌∷◌, ◌++◌, Some, None, pos, negsuc, codes}
use Rattle.std.specs.Fmt.{digits}
use Rattle.fx_model.specs.Machine.{Program, State, Const, Add, Sub, Mul, Copy, Floor}
use Rattle.fx_model.specs.Machine as machine
use Rattle.fx_model.proofs.Samples.{half_program, averager_program}
use Rattle.fx_statements.specs.Statements.{Over, Widened, Negated, Two}
use Rattle.fx_statements.specs.Meaning.{Names}
use Rattle.fx_statements.specs.OfProgram.{product}
use Rattle.fx_statements.proofs.Samples.{every_program, every_width}
use Rattle.fx_c99.specs.CText.{literal_text, power_text}
use Rattle.fx_c99.specs.CMeaning.{shifted_right, floored, c_wide_value, element, c_step, c_reset}
use Rattle.fx_c99.specs.OfProgram.{c_routine_of, c_text_of}

-- ---- x + 0.5
half_is : c_text_of half_program (16 ∷ 16 ∷ 16 ∷ 16 ∷ []) ≡
    codes "/* f, width 16 */\n#include <stdint.h>\n\n" ++
    codes "void fixd_f_step(const int16_t input[1], int16_t output[1]);\n\n" ++
    codes "void fixd_f_step(const int16_t input[1], int16_t output[1]) {\n" ++
    codes "    const int16_t w0 = (int16_t)input[0];\n    const int16_t w1 = 2048;\n" ++
    codes "    const int16_t w2 = (int16_t)((int32_t)w0 + (int32_t)w1);\n" ++
    codes "    const int16_t w3 = (int16_t)(int32_t)w2;\n" ++
    codes "    output[0] = (int16_t)w3;\n}\n"
unfolding digits
half_is = refl

-- ---- every operation, both ways to round, shifts of both signs, and names of two types
every_is : c_text_of every_program every_width ≡
    codes "/* f, width 16 */\n#include <stdint.h>\n\n" ++
    codes "/* x / 2^s, rounded down */\nstatic inline int32_t fixd_floor32(int32_t x, uint32_t s) {\n" ++
    codes "    return (x >= 0) ? (x >> s) : (-1 - ((-1 - x) >> s));\n}\n\n" ++
    codes "void fixd_f_reset(int16_t state[1]);\n\nvoid fixd_f_reset(int16_t state[1]) {\n    state[0] = -5;\n}\n\n" ++
    codes "void fixd_f_step(int16_t state[1], const int16_t input[1], int16_t output[1]);\n\n" ++
    codes "void fixd_f_step(int16_t state[1], const int16_t input[1], int16_t output[1]) {\n" ++
    codes "    const int8_t w0 = (int8_t)input[0];\n    const int8_t w1 = (int8_t)state[0];\n" ++
    codes "    const int16_t w2 = -2048;\n    const int16_t w3 = (int16_t)(-(int32_t)w1);\n" ++
    codes "    const int16_t w4 = (int16_t)((int32_t)w0 + ((int32_t)w1 * (int32_t)8));\n" ++
    codes "    const int16_t w5 = (int16_t)(fixd_floor32((int32_t)w3, 1U) - (int32_t)w2);\n" ++
    codes "    const int16_t w6 = (int16_t)fixd_floor32(((int32_t)w4 * (int32_t)w5), 12U);\n" ++
    codes "    const int16_t w7 = (int16_t)fixd_floor32((((int32_t)w4 * (int32_t)w5) + (int32_t)2048), 12U);\n" ++
    codes "    const int16_t w8 = (int16_t)(((int32_t)w6 * (int32_t)65536) / (int32_t)w2);\n" ++
    codes "    const int16_t w9 = (int16_t)((int32_t)w7 * (int32_t)16);\n" ++
    codes "    const int16_t w10 = (int16_t)fixd_floor32(((int32_t)w8 + (int32_t)64), 7U);\n" ++
    codes "    state[0] = (int16_t)w10;\n    output[0] = (int16_t)w9;\n}\n"
unfolding digits
every_is = refl

-- w6 is 30 of 30.53, w7 31, w8 -960, and w10 -7 of -7.5
every_does : c_step (c_routine_of every_program every_width) (negsuc 4 ∷ []) (pos 101 ∷ []) ≡
    Some record { outputs = pos 496 ∷ []; next = negsuc 6 ∷ [] }
every_does = refl

every_begins : c_reset 16 0 (negsuc 4 ∷ []) (pos 77 ∷ []) ≡ Some (negsuc 4 ∷ [])
every_begins = refl

-- ---- a mean of the last value and the one before, in 16 bits
abbrev average : Program
average = record averager_program { name = codes "average" }

average_is : c_text_of average (16 ∷ 16 ∷ 16 ∷ 16 ∷ 16 ∷ 16 ∷ 16 ∷ 16 ∷ 16 ∷ []) ≡
    codes "/* average, width 16 */\n#include <stdint.h>\n\n" ++
    codes "/* x / 2^s, rounded down */\nstatic inline int32_t fixd_floor32(int32_t x, uint32_t s) {\n" ++
    codes "    return (x >= 0) ? (x >> s) : (-1 - ((-1 - x) >> s));\n}\n\n" ++
    codes "void fixd_average_reset(int16_t state[1]);\n\nvoid fixd_average_reset(int16_t state[1]) {\n" ++
    codes "    state[0] = 0;\n" ++
    codes "}\n\n" ++
    codes "void fixd_average_step(int16_t state[1], const int16_t input[1], int16_t output[1]);\n\n" ++
    codes "void fixd_average_step(int16_t state[1], const int16_t input[1], int16_t output[1]) {\n" ++
    codes "    const int16_t w0 = (int16_t)input[0];\n" ++
    codes "    const int16_t w1 = (int16_t)state[0];\n" ++
    codes "    const int16_t w2 = 2048;\n" ++
    codes "    const int16_t w3 = (int16_t)fixd_floor32(((int32_t)w2 * (int32_t)w1), 12U);\n" ++
    codes "    const int16_t w4 = 2048;\n" ++
    codes "    const int16_t w5 = (int16_t)fixd_floor32(((int32_t)w4 * (int32_t)w0), 12U);\n" ++
    codes "    const int16_t w6 = (int16_t)((int32_t)w3 + (int32_t)w5);\n" ++
    codes "    const int16_t w7 = (int16_t)(int32_t)w6;\n" ++
    codes "    const int16_t w8 = (int16_t)(int32_t)w6;\n" ++
    codes "    state[0] = (int16_t)w8;\n" ++
    codes "    output[0] = (int16_t)w7;\n" ++
    codes "}\n"
unfolding digits
average_is = refl

-- ---- a filter of second order, in 32 bits
abbrev lowpass : Program
lowpass = record averager_program {
  width = 32;
  name = codes "lowpass";
  states = 2;
  codes =
      machine.Input 0 (pos 30) ∷ State 0 (pos 30) (pos 0) ∷ State 1 (pos 31) (pos 0)
      ∷ Const (pos 1380093251) (pos 36) ∷ Mul Floor 3 0 36 ∷ Add 4 1 (pos 0) (pos 0)
      ∷ Const (pos 1380127611) (pos 35) ∷ Mul Floor 6 0 35 ∷ Const (pos 1676130315) (pos 30) ∷ Mul Floor 8 5 30
      ∷ Add 7 9 (pos 0) (pos 0) ∷ Add 10 2 (pos 0) (pos 1) ∷ Const (pos 1380093251) (pos 36) ∷ Mul Floor 12 0 35
      ∷ Const (pos 1377292933) (pos 30) ∷ Mul Floor 14 5 30 ∷ Sub 13 15 (pos 0) (pos 0) ∷ Copy Floor 5 (pos 0)
      ∷ Copy Floor 11 (pos 0) ∷ Copy Floor 16 (pos 0) ∷ [];
}

abbrev lowpass_widths : List ℕ
lowpass_widths =
    32 ∷ 32 ∷ 32 ∷ 32 ∷ 32 ∷ 32 ∷ 32 ∷ 32 ∷ 32 ∷ 32 ∷ 32 ∷ 32 ∷ 32 ∷ 32 ∷ 32 ∷ 32 ∷ 32 ∷ 32 ∷ 32 ∷ 32 ∷ []

lowpass_is : c_text_of lowpass lowpass_widths ≡
    codes "/* lowpass, width 32 */\n#include <stdint.h>\n\n" ++
    codes "/* x / 2^s, rounded down */\nstatic inline int32_t fixd_floor32(int32_t x, uint32_t s) {\n" ++
    codes "    return (x >= 0) ? (x >> s) : (-1 - ((-1 - x) >> s));\n}\n\n" ++
    codes "/* x / 2^s, rounded down */\nstatic inline int64_t fixd_floor64(int64_t x, uint32_t s) {\n" ++
    codes "    return (x >= 0) ? (x >> s) : (-1 - ((-1 - x) >> s));\n}\n\n" ++
    codes "void fixd_lowpass_reset(int32_t state[2]);\n\nvoid fixd_lowpass_reset(int32_t state[2]) {\n" ++
    codes "    state[0] = 0;\n" ++
    codes "    state[1] = 0;\n" ++
    codes "}\n\n" ++
    codes "void fixd_lowpass_step(int32_t state[2], const int32_t input[1], int32_t output[1]);\n\n" ++
    codes "void fixd_lowpass_step(int32_t state[2], const int32_t input[1], int32_t output[1]) {\n" ++
    codes "    const int32_t w0 = (int32_t)input[0];\n" ++
    codes "    const int32_t w1 = (int32_t)state[0];\n" ++
    codes "    const int32_t w2 = (int32_t)state[1];\n" ++
    codes "    const int32_t w3 = 1380093251;\n" ++
    codes "    const int32_t w4 = (int32_t)fixd_floor64(((int64_t)w3 * (int64_t)w0), 36U);\n" ++
    codes "    const int32_t w5 = (int32_t)((int32_t)w4 + (int32_t)w1);\n" ++
    codes "    const int32_t w6 = 1380127611;\n" ++
    codes "    const int32_t w7 = (int32_t)fixd_floor64(((int64_t)w6 * (int64_t)w0), 35U);\n" ++
    codes "    const int32_t w8 = 1676130315;\n" ++
    codes "    const int32_t w9 = (int32_t)fixd_floor64(((int64_t)w8 * (int64_t)w5), 30U);\n" ++
    codes "    const int32_t w10 = (int32_t)((int32_t)w7 + (int32_t)w9);\n" ++
    codes "    const int32_t w11 = (int32_t)((int32_t)w10 + fixd_floor32((int32_t)w2, 1U));\n" ++
    codes "    const int32_t w12 = 1380093251;\n" ++
    codes "    const int32_t w13 = (int32_t)fixd_floor64(((int64_t)w12 * (int64_t)w0), 35U);\n" ++
    codes "    const int32_t w14 = 1377292933;\n" ++
    codes "    const int32_t w15 = (int32_t)fixd_floor64(((int64_t)w14 * (int64_t)w5), 30U);\n" ++
    codes "    const int32_t w16 = (int32_t)((int32_t)w13 - (int32_t)w15);\n" ++
    codes "    const int32_t w17 = (int32_t)(int32_t)w5;\n" ++
    codes "    const int32_t w18 = (int32_t)(int32_t)w11;\n" ++
    codes "    const int32_t w19 = (int32_t)(int32_t)w16;\n" ++
    codes "    state[0] = (int32_t)w18;\n" ++
    codes "    state[1] = (int32_t)w19;\n" ++
    codes "    output[0] = (int32_t)w17;\n" ++
    codes "}\n"
unfolding digits
lowpass_is = refl

-- ---- what C leaves undefined, to the compiler or to a signal has no meaning
abbrev full_words : Names
full_words = (0, pos 8388607) ∷ (1, pos 8388607) ∷ []

-- a product of words of 24 bits needs more than 32
a_narrow_product : c_wide_value 32 full_words (product 0 1) ≡ None
a_narrow_product = refl

a_wide_product : c_wide_value 64 full_words (product 0 1) ≡ Some (pos 70368727400449)
a_wide_product = refl

-- a shift of what is below 0, and one by all bits
a_shift_below_zero : shifted_right 32 (negsuc 0) 1 ≡ None
a_shift_below_zero = refl

a_shift_by_all_bits : shifted_right 32 (pos 5) 32 ≡ None
a_shift_by_all_bits = refl

-- the least number of 32 bits: rounded down by 31 bits it is -1, and it has no negation and no quotient by -1
abbrev least_words : Names
least_words = (0, negsuc 2147483647) ∷ (1, negsuc 0) ∷ (2, pos 0) ∷ []

the_least_rounded : floored 32 (negsuc 2147483647) 31 ≡ Some (negsuc 0)
the_least_rounded = refl

the_least_negated : c_wide_value 32 least_words (Negated (Widened 0)) ≡ None
the_least_negated = refl

the_least_over : c_wide_value 32 least_words (Two Over (Widened 0) (Widened 1)) ≡ None
the_least_over = refl

over_zero : c_wide_value 32 least_words (Two Over (Widened 0) (Widened 2)) ≡ None
over_zero = refl

-- an element of 16 bits holds no word of 17
a_narrow_element : element 16 (pos 32768) ≡ None
a_narrow_element = refl

-- an array of one element more than the head says
a_state_more : c_step (c_routine_of half_program (16 ∷ 16 ∷ 16 ∷ 16 ∷ [])) (pos 0 ∷ []) (pos 100 ∷ []) ≡ None
a_state_more = refl

-- ---- numbers that no literal has
the_least_literal : literal_text (negsuc 9223372036854775807) ≡ codes "INT64_MIN"
the_least_literal = refl

the_greatest_power : power_text 64 62 ≡ codes "(int64_t)4611686018427387904"
unfolding digits
the_greatest_power = refl

a_shifted_power : power_text 128 64 ≡ codes "((fixd_wide)1 << 64)"
unfolding digits
a_shifted_power = refl
