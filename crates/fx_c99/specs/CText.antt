-- How statements are written as C99. Each operation stands in parentheses of its own, and has operands of one type,
-- each of them a cast name, a cast literal, a call or such an operation, so that neither the order of operators nor
-- the integer promotions are asked for. Names with external linkage begin with `fixd_`, for C keeps others to itself:
-- `torque_step` is reserved, as is each name that begins with `to` and a small letter.
use Rattle.std.specs.Prelude.{ℕ, suc, ◌+◌, ◌^◌, ℤ, pos, negsuc, nat_lt, nat_eq, Bool, false, ◌&&◌, ◌||◌, not, length, ◌-◌, List, [], ◌∷◌, ◌++◌, codes, if◌then◌else◌}
use Rattle.std.specs.Fmt.{decimal}
use Rattle.std.specs.List.{flat_map, list_any}
use Rattle.fx_statements.specs.Statements.{Size, I8, I16, I32, I64, Left, Right, Wide, Widened, Power, Negated, Two, Shifted}
use Rattle.fx_statements.specs.Statements.{Value, Input, State, Number, Narrowed, Let, Store, Routine}
use Rattle.fx_statements.specs.RustText.{operator_text, name_text}
use Rattle.fx_statements.specs.OfProgram.{least_size}
use Rattle.fx_c99.specs.Working.{working_bits, rounds_down}

-- ---- types
abbrev pub type_text : Size → List ℕ
type_text I8 = codes "int8_t"
type_text I16 = codes "int16_t"
type_text I32 = codes "int32_t"
type_text I64 = codes "int64_t"

-- of so many bits, to compute in
abbrev pub working_text : ℕ → List ℕ
working_text bits =
    if nat_eq bits 32 then codes "int32_t" else if nat_eq bits 64 then codes "int64_t" else codes "fixd_wide"

-- ---- expressions, computed in so many bits
-- `(int32_t)16384`, and where no literal has the value `((fixd_wide)1 << 64)`
abbrev pub power_text : ℕ → ℕ → List ℕ
power_text bits s =
    if nat_lt s 63 then codes "(" ++ (working_text bits ++ (codes ")" ++ decimal (2 ^ s)))
    else codes "((" ++ (working_text bits ++ (codes ")1 << " ++ (decimal s ++ codes ")")))

-- the function that divides by a power of two and rounds down
abbrev pub floor_name : ℕ → List ℕ
floor_name bits = codes "fixd_floor" ++ decimal bits

-- a shift to the left has no text, since C leaves it undefined below 0
abbrev pub c_wide_text : ℕ → Wide → List ℕ
c_wide_text bits (Widened name) = codes "(" ++ (working_text bits ++ (codes ")" ++ name_text name))
c_wide_text bits (Power s) = power_text bits s
c_wide_text bits (Negated e) = codes "(-" ++ (c_wide_text bits e ++ codes ")")
c_wide_text bits (Two operator e f) =
    codes "(" ++ (c_wide_text bits e ++ (operator_text operator ++ (c_wide_text bits f ++ codes ")")))
c_wide_text bits (Shifted Left e s) = []
c_wide_text bits (Shifted Right e s) =
    floor_name bits ++ (codes "(" ++ (c_wide_text bits e ++ (codes ", " ++ (decimal s ++ codes "U)"))))

-- ---- statements of a program of words of n bits
-- an expression, in the type that its statement computes in
abbrev pub working_wide_text : ℕ → Wide → List ℕ
working_wide_text n e = c_wide_text (working_bits n e) e

-- `(int16_t)`
abbrev pub c_cast_text : Size → List ℕ
c_cast_text size = codes "(" ++ (type_text size ++ codes ")")

-- C has no literal for the least number of 64 bits
abbrev pub literal_text : ℤ → List ℕ
literal_text (pos m) = decimal m
literal_text (negsuc m) = if nat_eq (suc m) (2 ^ 63) then codes "INT64_MIN" else codes "-" ++ decimal (suc m)

abbrev pub c_value_text : ℕ → Size → Value → List ℕ
c_value_text n size (Input k) = c_cast_text size ++ (codes "input[" ++ (decimal k ++ codes "]"))
c_value_text n size (State k) = c_cast_text size ++ (codes "state[" ++ (decimal k ++ codes "]"))
c_value_text n size (Number w) = literal_text w
c_value_text n size (Narrowed e) = c_cast_text size ++ working_wide_text n e

-- `    const int16_t w3 = VALUE;`
abbrev pub c_let_text : ℕ → Let → List ℕ
c_let_text n l =
    codes "    const " ++ (type_text l.size
    ++ (codes " " ++ (name_text l.name ++ (codes " = " ++ (c_value_text n l.size l.value ++ codes ";\n")))))

-- `    state[0] = (int16_t)w3;`, of the array of that name
abbrev pub assignment_text : List ℕ → ℕ → Store → List ℕ
assignment_text array n t =
    codes "    " ++ (array ++ (codes "[" ++ (decimal t.place
    ++ (codes "] = " ++ (c_cast_text (least_size n) ++ (name_text t.name ++ codes ";\n"))))))

-- the names in order, each with its place, from place j on
abbrev pub placed : ℕ → List ℕ → List Store
placed j [] = []
placed j (name ∷ names) = record { place = j; name = name } ∷ placed (j + 1) names

-- `    state[0] = 5;`
abbrev pub start_text : ℕ → ℤ → List ℕ
start_text k w = codes "    state[" ++ (decimal k ++ (codes "] = " ++ (literal_text w ++ codes ";\n")))

-- and so on from element k
abbrev pub starts_text : ℕ → List ℤ → List ℕ
starts_text k [] = []
starts_text k (w ∷ ws) = start_text k w ++ starts_text (k + 1) ws

-- ---- names that nothing takes, of which compilers warn
-- the name m is taken in an expression; in a statement's
abbrev pub takes : ℕ → Wide → Bool
takes m (Widened name) = nat_eq name m
takes m (Power s) = false
takes m (Negated e) = takes m e
takes m (Two operator e f) = takes m e || takes m f
takes m (Shifted direction e s) = takes m e

abbrev pub let_takes : ℕ → Let → Bool
let_takes m l = elim l.value [
  | Narrowed e ↦ takes m e
  | Input k ↦ false
  | State k ↦ false
  | Number w ↦ false
]

-- `    (void)w3;`, of one of so many first names, if no statement takes it
abbrev pub unread_text : List Let → ℕ → ℕ → List ℕ
unread_text ls first name =
    if nat_lt name first && not (list_any (let_takes name) ls)
    then codes "    (void)" ++ (name_text name ++ codes ";\n") else []

-- so of some of the names
abbrev pub unreads_text : List Let → ℕ → List Let → List ℕ
unreads_text ls first some = flat_map (λ l. unread_text ls first l.name) some

-- how many names aren't copies, which are the last ones, and are stored or given
abbrev pub first_names : Routine → ℕ
first_names r = length r.lets - (length r.results + length r.stores)

-- ---- what stands above
-- a statement that computes in so many bits; and one that rounds down there
abbrev pub computes_in : ℕ → ℕ → Let → Bool
computes_in n bits l = elim l.value [
  | Narrowed e ↦ nat_eq (working_bits n e) bits
  | Input k ↦ false
  | State k ↦ false
  | Number w ↦ false
]

abbrev pub rounds_in : ℕ → ℕ → Let → Bool
rounds_in n bits l = elim l.value [
  | Narrowed e ↦ nat_eq (working_bits n e) bits && rounds_down e
  | Input k ↦ false
  | State k ↦ false
  | Number w ↦ false
]

-- the name for the type of 128 bits
abbrev pub wide_type_text : List ℕ
wide_type_text =
    codes "/* a type of 128 bits, which ISO C99 hasn't: gcc and clang have it */\n"
    ++ codes "__extension__ typedef __int128 fixd_wide;\n\n"

-- `fixd_floor32(int32_t x, uint32_t s)`
abbrev pub floor_call : ℕ → List ℕ
floor_call bits = floor_name bits ++ (codes "(" ++ (working_text bits ++ codes " x, uint32_t s)"))

-- with what it gives
abbrev pub floor_head : ℕ → List ℕ
floor_head bits =
    codes "/* x / 2^s, rounded down */\nstatic inline " ++ (working_text bits ++ (codes " " ++ floor_call bits))

-- `x >> s` where x is below 0 is left to the compiler, so there -1 - x is shifted: of it all, gcc and clang make one
-- shift
abbrev pub floor_body : List ℕ
floor_body = codes " {\n    return (x >= 0) ? (x >> s) : (-1 - ((-1 - x) >> s));\n}\n\n"

abbrev pub floor_text : ℕ → List ℕ
floor_text bits = floor_head bits ++ floor_body

abbrev pub if_any : (Let → Bool) → List Let → List ℕ → List ℕ
if_any test ls text = if list_any test ls then text else []

-- only what is called, since compilers warn of functions that aren't
abbrev pub helpers_text : ℕ → List Let → List ℕ
helpers_text n ls =
    if_any (computes_in n 128) ls wide_type_text
    ++ (if_any (rounds_in n 32) ls (floor_text 32)
    ++ (if_any (rounds_in n 64) ls (floor_text 64)
    ++ if_any (rounds_in n 128) ls (floor_text 128)))

-- ---- the two functions
-- `int16_t state[2]`
abbrev pub state_text : ℕ → ℕ → List ℕ
state_text n states = type_text (least_size n) ++ (codes " state[" ++ (decimal states ++ codes "]"))

-- C has no array without elements
abbrev pub state_parameter : ℕ → ℕ → List ℕ
state_parameter n states = if nat_eq states 0 then [] else state_text n states ++ codes ", "

-- `const int16_t input[1], int16_t output[1])`
abbrev pub arrays_text : ℕ → ℕ → ℕ → List ℕ
arrays_text n inputs outputs =
    codes "const " ++ (type_text (least_size n) ++ (codes " input[" ++ (decimal inputs
    ++ (codes "], " ++ (type_text (least_size n) ++ (codes " output[" ++ (decimal outputs ++ codes "])")))))))

-- `void fixd_NAME_step(int16_t state[2], const int16_t input[1], int16_t output[1])`
abbrev pub step_head : List ℕ → ℕ → ℕ → ℕ → ℕ → List ℕ
step_head title n states inputs outputs =
    codes "void fixd_" ++ (title ++ (codes "_step(" ++ (state_parameter n states ++ arrays_text n inputs outputs)))

-- `void fixd_NAME_reset(int16_t state[2])`
abbrev pub reset_head : List ℕ → ℕ → ℕ → List ℕ
reset_head title n states = codes "void fixd_" ++ (title ++ (codes "_reset(" ++ (state_text n states ++ codes ")")))

-- the function that writes the start words, if there are any
abbrev pub reset_text : List ℕ → ℕ → ℕ → List ℤ → List ℕ
reset_text title n states starts =
    if nat_eq states 0 then [] else
    reset_head title n states
    ++ (codes ";\n\n" ++ (reset_head title n states ++ (codes " {\n" ++ (starts_text 0 starts ++ codes "}\n\n"))))

-- what stands between the braces of the step
abbrev pub body_text : Routine → List ℕ
body_text r =
    flat_map (c_let_text r.width) r.lets ++ (flat_map (assignment_text (codes "state") r.width) r.stores
    ++ (flat_map (assignment_text (codes "output") r.width) (placed 0 r.results)
    ++ unreads_text r.lets (first_names r) r.lets))

abbrev pub step_text : Routine → List ℕ
step_text r =
    step_head r.title r.width r.states r.inputs r.outputs
    ++ (codes ";\n\n" ++ (step_head r.title r.width r.states r.inputs r.outputs
    ++ (codes " {\n" ++ (body_text r ++ codes "}\n"))))

-- `/* NAME, width 16 */`, and the types
abbrev pub top_text : List ℕ → ℕ → List ℕ
top_text title n =
    codes "/* " ++ (title ++ (codes ", width " ++ (decimal n ++ codes " */\n#include <stdint.h>\n\n")))

-- all above the step
abbrev pub front_text : Routine → List ℤ → List ℕ
front_text r starts =
    top_text r.title r.width ++ (helpers_text r.width r.lets ++ reset_text r.title r.width r.states starts)

-- ---- the whole text, of statements and start words
abbrev pub c_text : Routine → List ℤ → List ℕ
c_text r starts = front_text r starts ++ step_text r
