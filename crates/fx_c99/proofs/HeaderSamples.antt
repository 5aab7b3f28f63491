-- The headers of small programs, which were written by hand.
use Rattle.std.proofs.Common.{◌≡◌, refl, [], ◌∷◌, ◌++◌, pos, negsuc, codes}
use Rattle.std.specs.Fmt.{digits}
use Rattle.fx_rational.specs.Rational.{whole, over, scaled, floor, is_at_most}
use Rattle.fx_rational.specs.Dyadic.{Dyadic, dyadic_value}
use Rattle.fx_model.specs.Function.{Function, free}
use Rattle.fx_model.specs.Machine.{Program, Input, State, Copy, Floor}
use Rattle.fx_model.proofs.Samples.{exact_input, half, half_program, averager_program}
use Rattle.fx_inequalities.specs.Certificate.{Certificate, NodeLine, no_line}
use Rattle.fx_c99.specs.CHeader.{number_text, header_text, c_header_of}

-- ---- two of all, of different ranges, points, start words and bounds
abbrev two_of_all : Function
two_of_all = record {
  name = codes "mix";
  inputs =
      exact_input (codes "u") (over (negsuc 0) 10) (over (pos 1) 10)
      ∷ record { name = codes "v"; lo = whole (pos 0); hi = whole (pos 1001); err = over (pos 1) 2 } ∷ [];
  states =
      record { name = codes "s"; start = whole (pos 0) } ∷ record { name = codes "t"; start = whole (pos 0) } ∷ [];
  temps = [];
  results = [];
  demands = free ∷ free ∷ [];
}

abbrev two_program : Program
two_program = record averager_program {
  name = codes "mix";
  inputs = 2;
  states = 2;
  outputs = 2;
  codes =
      Input 0 (pos 12) ∷ Input 1 (negsuc 1) ∷ State 0 (pos 12) (negsuc 4) ∷ State 1 (pos 10) (pos 7)
      ∷ Copy Floor 0 (pos 0) ∷ Copy Floor 1 (pos 1) ∷ Copy Floor 2 (pos 0) ∷ Copy Floor 3 (pos 0) ∷ [];
}

-- a line that says nothing but where an error lies
abbrev error_line : Dyadic → Dyadic → NodeLine
error_line lo hi = record no_line { error = record { lo = lo; hi = hi } }

abbrev two_certificate : Certificate
two_certificate = record {
  inputs = 2;
  states = 2;
  steps = [];
  starts = [];
  templates = [];
  error_templates = [];
  lines =
      no_line ∷ no_line ∷ no_line ∷ no_line
      ∷ error_line record { m = negsuc 2; e = 12 } record { m = pos 1; e = 12 }
      ∷ error_line record { m = negsuc 0; e = 1 } record { m = pos 2; e = 0 } ∷ no_line ∷ no_line ∷ [];
}

two_is : c_header_of two_of_all two_program two_certificate ≡
    codes "/* mix, width 16 */\n#ifndef FIXD_mix_H\n#define FIXD_mix_H\n\n#include <stdint.h>\n\n" ++
    codes "/* bits of a word w, which stands for w / 2^POINT, and elements of the arrays */\n" ++
    codes "#define FIXD_mix_WIDTH 16\n#define FIXD_mix_INPUTS 2\n#define FIXD_mix_STATES 2\n" ++
    codes "#define FIXD_mix_OUTPUTS 2\n\n" ++
    codes "/* input[0], u: the words of its range, each a value times 2^POINT, rounded down */\n" ++
    codes "#define FIXD_mix_INPUT0_POINT 12\n#define FIXD_mix_INPUT0_LEAST (-410)\n" ++
    codes "#define FIXD_mix_INPUT0_GREATEST 409\n\n" ++
    codes "/* input[1], v: the words of its range, each a value times 2^POINT, rounded down */\n" ++
    codes "#define FIXD_mix_INPUT1_POINT (-2)\n#define FIXD_mix_INPUT1_LEAST 0\n" ++
    codes "#define FIXD_mix_INPUT1_GREATEST 250\n\n" ++
    codes "/* state[0], s: the word that the reset writes */\n" ++
    codes "#define FIXD_mix_STATE0_POINT 12\n#define FIXD_mix_STATE0_START (-5)\n\n" ++
    codes "/* state[1], t: the word that the reset writes */\n" ++
    codes "#define FIXD_mix_STATE1_POINT 10\n#define FIXD_mix_STATE1_START 7\n\n" ++
    codes "/* output[0]: for inputs in range at most BOUND / 2^BOUND_POINT from the exact value */\n" ++
    codes "#define FIXD_mix_OUTPUT0_POINT 12\n#define FIXD_mix_OUTPUT0_BOUND 3\n" ++
    codes "#define FIXD_mix_OUTPUT0_BOUND_POINT 12\n\n" ++
    codes "/* output[1]: for inputs in range at most BOUND / 2^BOUND_POINT from the exact value */\n" ++
    codes "#define FIXD_mix_OUTPUT1_POINT (-3)\n#define FIXD_mix_OUTPUT1_BOUND 2\n" ++
    codes "#define FIXD_mix_OUTPUT1_BOUND_POINT 0\n\n" ++
    codes "#ifdef __cplusplus\nextern \"C\" {\n#endif\n\nvoid fixd_mix_reset(int16_t state[2]);\n" ++
    codes "void fixd_mix_step(int16_t state[2], const int16_t input[2], int16_t output[2]);\n\n" ++
    codes "#ifdef __cplusplus\n}\n#endif\n\n#endif\n"
unfolding digits over scaled floor is_at_most dyadic_value
two_is = refl

-- ---- x + 0.5, without states
half_is : header_text half half_program (record { m = pos 1; e = 12 } ∷ []) ≡
    codes "/* f, width 16 */\n#ifndef FIXD_f_H\n#define FIXD_f_H\n\n#include <stdint.h>\n\n" ++
    codes "/* bits of a word w, which stands for w / 2^POINT, and elements of the arrays */\n" ++
    codes "#define FIXD_f_WIDTH 16\n#define FIXD_f_INPUTS 1\n#define FIXD_f_STATES 0\n#define FIXD_f_OUTPUTS 1\n\n" ++
    codes "/* input[0], x: the words of its range, each a value times 2^POINT, rounded down */\n" ++
    codes "#define FIXD_f_INPUT0_POINT 12\n#define FIXD_f_INPUT0_LEAST 0\n" ++
    codes "#define FIXD_f_INPUT0_GREATEST 4096\n\n" ++
    codes "/* output[0]: for inputs in range at most BOUND / 2^BOUND_POINT from the exact value */\n" ++
    codes "#define FIXD_f_OUTPUT0_POINT 12\n#define FIXD_f_OUTPUT0_BOUND 1\n" ++
    codes "#define FIXD_f_OUTPUT0_BOUND_POINT 12\n\n" ++
    codes "#ifdef __cplusplus\nextern \"C\" {\n#endif\n\n" ++
    codes "void fixd_f_step(const int16_t input[1], int16_t output[1]);\n\n" ++
    codes "#ifdef __cplusplus\n}\n#endif\n\n#endif\n"
unfolding digits over scaled floor
half_is = refl

-- ---- numbers
the_least : number_text (negsuc 9223372036854775807) ≡ codes "(-9223372036854775807 - 1)"
the_least = refl

the_next : number_text (negsuc 9223372036854775806) ≡ codes "(-9223372036854775807)"
unfolding digits
the_next = refl

the_greatest : number_text (pos 9223372036854775807) ≡ codes "9223372036854775807"
unfolding digits
the_greatest = refl
