-- The header of a program: macros, which `#if` can use too, and the declarations of the two functions. The name of each
-- macro begins with `FIXD_` and the function's name.
use Rattle.std.specs.Prelude.{ℕ, suc, ◌+◌, ◌^◌, ℤ, pos, negsuc, nat_eq, List, [], ◌++◌, map, codes, if◌then◌else◌}
use Rattle.std.specs.Fmt.{decimal}
use Rattle.std.specs.List.{range_with_len}
use Rattle.fx_rational.specs.Rational.{Rational, scaled, floor}
use Rattle.fx_rational.specs.Dyadic.{Dyadic, zero_dyadic}
use Rattle.fx_model.specs.Tree.{at}
use Rattle.fx_model.specs.Function.{Function}
use Rattle.fx_model.specs.LineText.{numbered_lines}
use Rattle.fx_model.specs.Machine.{Program, points_of, start_words}
use Rattle.fx_inequalities.specs.Certificate.{Certificate}
use Rattle.fx_inequalities.specs.NodeConditions.{no_input}
use Rattle.fx_inequalities.specs.Accepted.{no_state, output_code, bound_dyadic}
use Rattle.fx_c99.specs.CText.{step_head, reset_head}

-- ---- what the macros are of
-- the point of code n
abbrev pub point : Program → ℕ → ℤ
point p n = at (pos 0) (points_of p.codes) n

-- the word that the machine makes of an input's value x at point f
abbrev pub input_word : Rational → ℤ → ℤ
input_word x f = floor (scaled x f)

-- the start word of state k
abbrev pub start_word : Program → ℕ → ℤ
start_word p k = at (pos 0) (start_words p.codes) k

-- the certified bound of each output
abbrev pub bounds_of : Program → Certificate → List Dyadic
bounds_of p cert = map (bound_dyadic p cert) (range_with_len 0 p.outputs)

-- ---- macros of a function of this name
-- one below 0 stands in parentheses, and the least of 64 bits, of which C has no literal, is a difference
abbrev pub number_text : ℤ → List ℕ
number_text (pos m) = decimal m
number_text (negsuc m) =
    if nat_eq (suc m) (2 ^ 63) then codes "(-9223372036854775807 - 1)" else codes "(-" ++ (decimal (suc m) ++ codes ")")

-- `#define FIXD_NAME_WIDTH 16`
abbrev pub macro_text : List ℕ → List ℕ → ℤ → List ℕ
macro_text title what v =
    codes "#define FIXD_" ++ (title ++ (codes "_" ++ (what ++ (codes " " ++ (number_text v ++ codes "\n")))))

-- `INPUT0_POINT`, of element k of an array
abbrev pub of_element : List ℕ → ℕ → List ℕ → List ℕ
of_element array k what = array ++ (decimal k ++ what)

-- ---- comments, each below an empty line
-- `/* input[0]`, of element k of an array
abbrev pub element_comment : List ℕ → ℕ → List ℕ → List ℕ
element_comment array k says =
    codes "\n/* " ++ (array ++ (codes "[" ++ (decimal k ++ (codes "]" ++ says))))

-- `/* input[0], u: the words of its range .. */`
abbrev pub input_comment : ℕ → List ℕ → List ℕ
input_comment k name =
    element_comment (codes "input") k
    (codes ", " ++ (name ++ codes ": the words of its range, each a value times 2^POINT, rounded down */\n"))

-- `/* state[0], s: the word that the reset writes */`
abbrev pub state_comment : ℕ → List ℕ → List ℕ
state_comment k name =
    element_comment (codes "state") k (codes ", " ++ (name ++ codes ": the word that the reset writes */\n"))

-- `/* output[0]: for inputs in range .. */`
abbrev pub output_comment : ℕ → List ℕ
output_comment j =
    element_comment (codes "output") j
    (codes ": for inputs in range at most BOUND / 2^BOUND_POINT from the exact value */\n")

-- ---- groups of macros, each below its comment
-- the bits of a word, and the elements of the arrays
abbrev pub count_macros : List ℕ → ℕ → ℕ → ℕ → ℕ → List ℕ
count_macros title n inputs states outputs =
    codes "/* bits of a word w, which stands for w / 2^POINT, and elements of the arrays */\n"
    ++ (macro_text title (codes "WIDTH") (pos n) ++ (macro_text title (codes "INPUTS") (pos inputs)
    ++ (macro_text title (codes "STATES") (pos states) ++ macro_text title (codes "OUTPUTS") (pos outputs))))

-- of input k, of this name and at point f: the words of the ends of its range
abbrev pub input_macros : List ℕ → ℕ → List ℕ → ℤ → ℤ → ℤ → List ℕ
input_macros title k name f least greatest =
    input_comment k name ++ (macro_text title (of_element (codes "INPUT") k (codes "_POINT")) f
    ++ (macro_text title (of_element (codes "INPUT") k (codes "_LEAST")) least
    ++ macro_text title (of_element (codes "INPUT") k (codes "_GREATEST")) greatest))

-- of state k, of this name and at point f: its start word
abbrev pub state_macros : List ℕ → ℕ → List ℕ → ℤ → ℤ → List ℕ
state_macros title k name f start =
    state_comment k name ++ (macro_text title (of_element (codes "STATE") k (codes "_POINT")) f
    ++ macro_text title (of_element (codes "STATE") k (codes "_START")) start)

-- of output j, at point f: its bound m / 2^e
abbrev pub output_macros : List ℕ → ℕ → ℤ → Dyadic → List ℕ
output_macros title j f bound =
    output_comment j ++ (macro_text title (of_element (codes "OUTPUT") j (codes "_POINT")) f
    ++ (macro_text title (of_element (codes "OUTPUT") j (codes "_BOUND")) bound.m
    ++ macro_text title (of_element (codes "OUTPUT") j (codes "_BOUND_POINT")) (pos bound.e)))

-- of input k; where there is none, the range is 0 alone
abbrev pub input_group : Function → Program → ℕ → List ℕ
input_group fn p k =
    let i = at no_input fn.inputs k in let f = point p k in
    input_macros p.name k i.name f (input_word i.lo f) (input_word i.hi f)

abbrev pub state_group : Function → Program → ℕ → List ℕ
state_group fn p k =
    state_macros p.name k (at no_state fn.states k).name (point p (p.inputs + k)) (start_word p k)

abbrev pub output_group : Program → List Dyadic → ℕ → List ℕ
output_group p bounds j = output_macros p.name j (point p (output_code p j)) (at zero_dyadic bounds j)

-- ---- what stands around them
-- the guard, and the types
abbrev pub opening_text : List ℕ → ℕ → List ℕ
opening_text title n =
    codes "/* " ++ (title ++ (codes ", width " ++ (decimal n ++ (codes " */\n#ifndef FIXD_" ++ (title
    ++ (codes "_H\n#define FIXD_" ++ (title ++ codes "_H\n\n#include <stdint.h>\n\n")))))))

-- there is one where there is a state
abbrev pub reset_declaration : List ℕ → ℕ → ℕ → List ℕ
reset_declaration title n states = if nat_eq states 0 then [] else reset_head title n states ++ codes ";\n"

-- C++ reads them as C
abbrev pub declarations_text : List ℕ → ℕ → ℕ → ℕ → ℕ → List ℕ
declarations_text title n states inputs outputs =
    codes "\n#ifdef __cplusplus\nextern \"C\" {\n#endif\n\n" ++ (reset_declaration title n states
    ++ (step_head title n states inputs outputs ++ codes ";\n\n#ifdef __cplusplus\n}\n#endif\n\n#endif\n"))

-- ---- the whole header, of outputs with these bounds; and of what is certified
abbrev pub header_text : Function → Program → List Dyadic → List ℕ
header_text fn p bounds =
    opening_text p.name p.width ++ (count_macros p.name p.width p.inputs p.states p.outputs
    ++ (numbered_lines (input_group fn p) 0 p.inputs ++ (numbered_lines (state_group fn p) 0 p.states
    ++ (numbered_lines (output_group p bounds) 0 p.outputs
    ++ declarations_text p.name p.width p.states p.inputs p.outputs))))

abbrev pub c_header_of : Function → Program → Certificate → List ℕ
c_header_of fn p cert = header_text fn p (bounds_of p cert)
